use Rattle.std.proofs.Common.{rules}
use Rattle.line_text.proofs.Digits.{numbers_of-none}
use Rattle.line_text.proofs.numerals.numbers.Goals as goal

pub returns-in_default : goal.returns-in_default
returns-in_default c = search (rules, numbers_of-none)
