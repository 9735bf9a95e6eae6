-- How the code's moves are seen, as plain data.
-- Stated by: tree_core, tree_check, uncross, move_text, report_text, bench_tasks, bench_reports.
use Rattle.std.specs.Prelude.{List, map}
use Rattle.tree_core.specs.Moves.{PlainMove, rotate_at, switch_at}
use Rattle.tree_core.specs.declared.moves.Move.{Move}
use Rattle.tree_core.specs.declared.moves.Move.TheVariants as code

-- the move
abbrev pub move_of : Move → PlainMove
move_of (code.Rotate path) = rotate_at path
move_of (code.Switch path u v) = switch_at path u v

-- the moves of a list
abbrev pub moves_of : List Move → List PlainMove
moves_of ms = map move_of ms
