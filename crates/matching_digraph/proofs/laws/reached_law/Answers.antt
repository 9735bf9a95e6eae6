use Rattle.matching_digraph.proofs.ArcRows.{past-walks}
use Rattle.matching_digraph.proofs.laws.reached_law.Goals as goal

pub returns : goal.returns
returns c g x m a r v is wr = past-walks g is x m a r v wr
