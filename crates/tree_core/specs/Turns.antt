-- What a move does at the end of its path, as a partial function on plain trees.
-- Stated by: tree_core.
use Rattle.std.specs.Prelude.{◌≡◌, Option, Some, None, Result, Ok, Err}
use Rattle.tree_core.specs.Moves.{rotate_result_at, switch_result_at}
use Rattle.tree_core.specs.Shapes.{Fits, Shape}
use Rattle.tree_core.specs.View.{shape_of}
use Rattle.tree_core.specs.declared.tree.Tree.{Tree}
use Rattle.tree_core.specs.declared.turns.Turn.{Turn}
use Rattle.tree_core.specs.declared.turns.Turn.TheVariants.{Rotate, Switch}

-- the tree that it makes
abbrev pub turn_result : Turn → Shape → Option Shape
turn_result (Rotate side) = rotate_result_at side
turn_result (Switch n u v) = switch_result_at n u v

-- where it may be asked for
abbrev pub MayTurn : Turn → Shape → Type 0
MayTurn (Rotate side) t = Unit {0}
MayTurn (Switch n u v) t = Fits n t

-- what is answered of the tree t, which a partial function turns into `made`: that tree, or else
-- the same one
abbrev pub IsAnswer : Option Shape → Shape → Result Tree Tree → Type 0
IsAnswer made t (Ok tree) = made ≡ Some (shape_of tree)
IsAnswer made t (Err tree) = (made ≡ None) × (shape_of tree ≡ t)
