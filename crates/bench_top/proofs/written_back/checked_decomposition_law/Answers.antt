use Rattle.bench_top.proofs.WrittenBack.{decomposed-checked, picked-checked}
use Rattle.bench_top.proofs.written_back.checked_decomposition_law.Goals as goal

pub returns : goal.returns
returns c = record {
  order = λ files again graph order tree output done same held within. decomposed-checked files again graph same tree output held within order done;
  picks = λ files again graph picks tree output done same held within. picked-checked files again graph same tree output held within picks done;
}
