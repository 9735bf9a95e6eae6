use Rattle.theorems.proofs.CubicGraphs.{cubic_brace, cubic_covered, cubic_narrow, cubic_sides, cubic_tight, cubic_wide, essential_kinds}
use Rattle.theorems.proofs.regular_graphs.cubic_law.Goals as goal

pub returns-clause-covered : goal.returns-clause-covered
returns-clause-covered c g is cubic many two = cubic_covered g is cubic many two

pub returns-clause-tight : goal.returns-clause-tight
returns-clause-tight c g x is cubic two t = cubic_tight g x is cubic two t

pub returns-clause-narrow : goal.returns-clause-narrow
returns-clause-narrow c g a x is cubic two three = cubic_narrow g a is cubic two x three

pub returns-clause-wide : goal.returns-clause-wide
returns-clause-wide c g is cubic wide = cubic_wide g is cubic wide

pub returns-clause-sides : goal.returns-clause-sides
returns-clause-sides c g a is cubic two joined = cubic_sides g a is cubic two joined

pub returns-clause-brace : goal.returns-clause-brace
returns-clause-brace c g a is cubic two = cubic_brace g a is cubic two

pub returns-clause-essential : goal.returns-clause-essential
returns-clause-essential c g is cubic six wide = essential_kinds g is cubic six wide
