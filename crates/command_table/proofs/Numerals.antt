-- What is written of the numbers in the tables.
-- Idea: digits with no 0 in front of others are the decimal text of their value.
use Rattle.std.proofs.Common.{◌≡◌, List, ℕ, true, codes, refl, rules, arith, decimal}
use Rattle.std.specs.Char.{is_ascii_digit}
use Rattle.std.specs.List.{list_all}
use Rattle.std.specs.Str.Parse.{digits_value}
use Rattle.std.proofs.lemmas.Fmt.{decimal-digits_value}
use Rattle.std.proofs.lemmas.Str.Parse.{IsDigitsTest, IsNumeralModel, numerals_by_value}

tells_digits : IsDigitsTest (λ ds. list_all is_ascii_digit ds ≡ true)
tells_digits = search rules

numerals : IsNumeralModel (λ ds. list_all is_ascii_digit ds ≡ true) (digits_value 10)
numerals = numerals_by_value (λ ds. list_all is_ascii_digit ds ≡ true) tells_digits

pub decimal-0 : decimal 0 ≡ codes "0"
decimal-0 = decimal-digits_value numerals (codes "0") refl (omega arith) (λ e. refl) (omega arith)

pub decimal-1 : decimal 1 ≡ codes "1"
decimal-1 = decimal-digits_value numerals (codes "1") refl (omega arith) (λ e. refl) (omega arith)

pub decimal-16 : decimal 16 ≡ codes "16"
decimal-16 = decimal-digits_value numerals (codes "16") refl (omega arith) (λ e. grind (arith, e)) (omega arith)

pub decimal-999999999 : decimal 999_999_999 ≡ codes "999999999"
decimal-999999999 = decimal-digits_value numerals (codes "999999999") refl (omega arith) (λ e. grind (arith, e)) (omega arith)
