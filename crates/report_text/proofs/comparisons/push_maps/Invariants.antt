use Rattle.std.proofs.Common.{◌≡◌, ◌++◌, length, string_bytes}
use Rattle.report_text.specs.Common.{map_texts}
use Rattle.report_text.proofs.comparisons.push_maps.Given as goal

abbrev pub invariant-writing : goal.invariant-writing
invariant-writing l = string_bytes l.fn.text ++ map_texts l.fn.maps ≡ string_bytes l.text ++ map_texts l.rest

abbrev pub decreases-writing : goal.decreases-writing
decreases-writing l = length l.rest
