use Rattle.std.proofs.Common.{◌≡◌, ◌-◌, [], length, slice_index_or}
use Rattle.graph_core.specs.from_line_text.Common.{lines_of}
use Rattle.mcg6_encoder.proofs.lines.kept_line.Given as goal

abbrev pub invariant-passing : goal.invariant-passing
invariant-passing l = slice_index_or (lines_of l.file) (l.number - 1) [] ≡ slice_index_or (lines_of l.rest) l.before []

abbrev pub decreases-passing : goal.decreases-passing
decreases-passing l = length l.rest
