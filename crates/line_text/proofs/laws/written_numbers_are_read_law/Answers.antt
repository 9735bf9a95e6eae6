use Rattle.line_text.proofs.Decimals.{is_word-decimal, number_of-decimal}
use Rattle.line_text.proofs.laws.written_numbers_are_read_law.Goals as goal

pub returns : goal.returns
returns c = record { word = is_word-decimal; number = number_of-decimal }
