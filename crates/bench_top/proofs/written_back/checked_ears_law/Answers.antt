use Rattle.bench_top.proofs.WrittenBack.{built-checked}
use Rattle.bench_top.proofs.written_back.checked_ears_law.Goals as goal

pub returns : goal.returns
returns c = λ files again graph ears output done same held within. built-checked files again graph same ears output held within done
