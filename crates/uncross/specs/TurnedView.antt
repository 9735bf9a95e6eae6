-- How the code's turned trees are seen, as plain data.
-- Stated by: uncross.
use Rattle.std.specs.Prelude.{◌≡◌, ◌++◌, List}
use Rattle.tree_core.specs.Common.{PlainMove, moves_of, Shape, shape_of}
use Rattle.move_laws.specs.Common.{PlainTurned}
use Rattle.uncross.specs.declared.turning.Turned.{Turned}

-- the tree and the moves
abbrev pub turned_of : Turned → PlainTurned
turned_of t = record { tree = shape_of t.tree; moves = moves_of t.moves }

-- the tree is the turned one, and its moves come after those made before
abbrev pub IsMade : Shape → (after before : List PlainMove) → PlainTurned → Type 0
IsMade tree after before s = (tree ≡ s.tree) × (after ≡ before ++ s.moves)
