use Rattle.std.proofs.Common.{◌≡◌, ◌++◌, length, string_bytes}
use Rattle.report_text.specs.Common.{image_lines}
use Rattle.report_text.proofs.comparisons.push_images.Given as goal

abbrev pub invariant-writing : goal.invariant-writing
invariant-writing l = string_bytes l.fn.text ++ image_lines l.fn.names l.fn.images ≡ string_bytes l.text ++ image_lines l.blocks l.targets

abbrev pub decreases-writing : goal.decreases-writing
decreases-writing l = length l.blocks
