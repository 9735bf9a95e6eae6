use Rattle.bench_top.proofs.WrittenBack.{grown-served}
use Rattle.bench_top.proofs.written_back.grown_graph_law.Goals as goal

pub returns : goal.returns
returns c = record {
  ears = λ files again seed pieces name output done held within. (grown-served again name output held within files seed pieces done).0;
  decompose = λ files again seed pieces name output done held within. (grown-served again name output held within files seed pieces done).1;
}
