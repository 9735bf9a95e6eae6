use Rattle.std.proofs.Common.{◌≡◌, ◌+◌, ◌≤◌, length, option_map}
use Rattle.line_text.specs.Common.{lines_of, significant_from, reading_from, reading_of}
use Rattle.line_text.proofs.reading.read_lines.Given as goal

-- what comes of the lines that are left is what comes of the whole text
abbrev pub invariant-lines : goal.invariant-lines
invariant-lines g l =
    let format = g.F.LineFormat in
    record {
      outcome : reading_from (format.rules l.format) (option_map format.state l.body) (significant_from (l.line + 1) (lines_of l.rest)) (length (lines_of l.fn.text)) ≡ reading_of (format.rules l.format) l.fn.text;
      counted : l.line + length (lines_of l.rest) ≡ length (lines_of l.fn.text);
      few : l.line + length l.rest ≤ length l.fn.text;
    }

abbrev pub decreases-lines : goal.decreases-lines
decreases-lines g l = length l.rest
