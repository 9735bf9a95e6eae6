use Rattle.quick_kinds.proofs.Braces.{braces}
use Rattle.theorems.proofs.ExtendableGraphs.{brace_or_extendable}
use Rattle.theorems.proofs.TwoExtendable.{extendable_or_tight}
use Rattle.theorems.proofs.WideNeighbourhoods.{wide_or_tight}
use Rattle.theorems.proofs.braces.braces_law.Goals as goal

pub returns-clause-fours : goal.returns-clause-fours
returns-clause-fours c g a is cov two = braces g is cov a two

pub returns-clause-neighbourhoods : goal.returns-clause-neighbourhoods
returns-clause-neighbourhoods c g a is cov two = wide_or_tight g is cov a two

pub returns-clause-two_edges : goal.returns-clause-two_edges
returns-clause-two_edges c g a is cov two = extendable_or_tight g is cov a two

pub returns-clause-connected : goal.returns-clause-connected
returns-clause-connected c g a is two six = brace_or_extendable g a is two six
