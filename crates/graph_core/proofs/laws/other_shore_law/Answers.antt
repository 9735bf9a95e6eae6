use Rattle.graph_core.proofs.Complements.{complement_of-rises, mem-complement_of}
use Rattle.graph_core.proofs.ShoreLists.{complement-tight, shore-some}
use Rattle.graph_core.proofs.laws.other_shore_law.Goals as goal

pub returns-clause-nonempty : goal.returns-clause-nonempty
returns-clause-nonempty c g p x is pp tight = shore-some g is p pp x tight

pub returns-clause-rising : goal.returns-clause-rising
returns-clause-rising c n x = complement_of-rises n x

pub returns-clause-members : goal.returns-clause-members
returns-clause-members c n x v w = mem-complement_of n x v w

pub returns-clause-tight : goal.returns-clause-tight
returns-clause-tight c g p x is pp tight = complement-tight g is p pp x tight
