use Rattle.graph_core.proofs.Textbook.{matching_apart, apart_matching}
use Rattle.graph_core.proofs.laws.matching_law.Goals as goal

pub returns : goal.returns
returns c g m is = (matching_apart g m, apart_matching g m is.ends is.no_loop)
