use Rattle.theorems.proofs.FractionalColourings.{coloured_regular, coloured_wide, has_colouring}
use Rattle.theorems.proofs.regular_graphs.fractional_law.Goals as goal

pub returns-clause-colouring : goal.returns-clause-colouring
returns-clause-colouring c = has_colouring

pub returns-clause-converse : goal.returns-clause-converse
returns-clause-converse c r g is colouring = (coloured_regular r g is colouring, coloured_wide r g is colouring)
