use Rattle.std.proofs.Common.{◌≡◌, ◌++◌, length, string_bytes}
use Rattle.report_text.specs.Common.{numbers_text}
use Rattle.report_text.proofs.numbers.push_numbers.Given as goal

abbrev pub invariant-writing : goal.invariant-writing
invariant-writing l = string_bytes l.fn.text ++ numbers_text l.fn.numbers ≡ string_bytes l.text ++ numbers_text l.rest

abbrev pub decreases-writing : goal.decreases-writing
decreases-writing l = length l.rest
