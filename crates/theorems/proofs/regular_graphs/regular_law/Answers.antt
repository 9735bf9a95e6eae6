use Rattle.theorems.proofs.CubicGraphs.{two_edge_or_wide}
use Rattle.theorems.proofs.DeletedEdges.{connected_wide, deleted}
use Rattle.theorems.proofs.RegularCuts.{tight_size, wide_trivial}
use Rattle.theorems.proofs.RegularMatchings.{regular_allowed, regular_covered}
use Rattle.theorems.proofs.RegularSides.{brace_or_narrow, narrow_tight, sides_wide}
use Rattle.theorems.proofs.regular_graphs.regular_law.Goals as goal

pub returns-clause-allowed : goal.returns-clause-allowed
returns-clause-allowed c r g e is regular wide w = regular_allowed r g is.ends regular wide e w (is.no_loop e w)

pub returns-clause-covered : goal.returns-clause-covered
returns-clause-covered c = regular_covered

pub returns-clause-tight : goal.returns-clause-tight
returns-clause-tight c r g x is regular wide t = tight_size r g is.ends regular wide x t

pub returns-clause-wide : goal.returns-clause-wide
returns-clause-wide c r g is regular more = wide_trivial r g is regular more

pub returns-clause-bipartite : goal.returns-clause-bipartite
returns-clause-bipartite c r g a is regular two = sides_wide r g is regular a two

pub returns-clause-narrow : goal.returns-clause-narrow
returns-clause-narrow c r g a x is regular some two odd size_r = narrow_tight r g is regular a two x some odd size_r

pub returns-clause-brace : goal.returns-clause-brace
returns-clause-brace c r g a is regular some two = brace_or_narrow r g is regular a two some

pub returns-clause-cubic : goal.returns-clause-cubic
returns-clause-cubic c g is cubic = two_edge_or_wide g is.ends cubic

pub returns-clause-deleted : goal.returns-clause-deleted
returns-clause-deleted c r g f is regular wide few = deleted r g f is regular wide few

pub returns-clause-connected : goal.returns-clause-connected
returns-clause-connected c r g is regular even connected = connected_wide r g is regular even connected
