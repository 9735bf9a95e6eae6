use Rattle.std.proofs.Common.{◌≡◌, ◌++◌, length, string_bytes}
use Rattle.move_text.proofs.from_tree_core.Common.{moves_of}
use Rattle.report_text.specs.Common.{move_lines}
use Rattle.report_text.proofs.comparisons.push_moves.Given as goal

abbrev pub invariant-writing : goal.invariant-writing
invariant-writing l = string_bytes l.fn.text ++ move_lines (moves_of l.fn.moves) ≡ string_bytes l.text ++ move_lines (moves_of l.rest)

abbrev pub decreases-writing : goal.decreases-writing
decreases-writing l = length l.rest
