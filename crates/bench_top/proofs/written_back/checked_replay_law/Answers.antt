use Rattle.bench_top.proofs.WrittenBack.{replayed-checked}
use Rattle.bench_top.proofs.written_back.checked_replay_law.Goals as goal

pub returns : goal.returns
returns c = λ files again graph tree moves last output done same held within. replayed-checked files again graph same last output held within tree moves done
