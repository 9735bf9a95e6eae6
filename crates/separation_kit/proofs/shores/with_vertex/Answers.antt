use Rattle.separation_kit.proofs.PairShores.{shore-with}
use Rattle.separation_kit.proofs.shores.with_vertex.Goals as goal

pub returns : goal.returns
returns c = shore-with c.args.n c.args.a c.args.part c.with-shore.result c.requires.few c.requires.vertex c.requires.part c.rises.ensures c.with-shore.ensures
