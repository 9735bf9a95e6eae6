use Rattle.two_ears.proofs.EdgeForm.{edge_form}
use Rattle.two_ears.proofs.laws.further_edges_law.Goals as goal

pub returns : goal.returns
returns c = edge_form
