-- A number is written as a word of digits, and by std they are read as that number. Below 10 ^ 9
-- they are nine at most, so the word is a number.
use Rattle.std.proofs.Common.{◌≡◌, ℕ, suc, ◌^◌, ◌≤◌, ◌<◌, List, [], ◌∷◌, All, length, map, Bool, true, not, ◌||◌, ◌==◌, Some, refl, ◌∙◌, ap, ap₂, arith, rules, decimal}
use Rattle.std.specs.Char.{is_ascii_digit}
use Rattle.std.specs.List.{list_all}
use Rattle.std.specs.Str.Parse.{digits_value}
use Rattle.std.proofs.lemmas.Bool.{and_from}
use Rattle.std.proofs.lemmas.Bool.Decides.{nat_tests}
use Rattle.std.proofs.lemmas.Fmt.{digits_decimal, digits_value-decimal, decimal_nonempty, length-decimal-le}
use Rattle.std.proofs.lemmas.Str.Parse.{IsNumeralModel, IsDigitsTest, numerals_by_value}
use Rattle.line_text.specs.Common.{is_line_feed, number_of, is_number, value_of, is_blank, is_word, AreWords}
use Rattle.line_text.proofs.Digits.{digits-cons}

-- the test for digits is std's
tells_digits : IsDigitsTest (λ ds. list_all is_ascii_digit ds ≡ true)
tells_digits = search rules

numerals : IsNumeralModel (λ ds. list_all is_ascii_digit ds ≡ true) (digits_value 10)
numerals = numerals_by_value (λ ds. list_all is_ascii_digit ds ≡ true) tells_digits

pub digits-decimal : (n : ℕ) → n < 10 ^ 9 → list_all is_ascii_digit (decimal n) ≡ true
digits-decimal n small = digits_decimal numerals n (omega arith)

-- what is true of each digit is true of each byte of a number
pub list_all-digits : (test : ℕ → Bool) → ((byte : ℕ) → 48 ≤ byte → byte ≤ 57 → test byte ≡ true) → (word : List ℕ) → list_all is_ascii_digit word ≡ true → list_all test word ≡ true
list_all-digits test holds [] digits = refl
list_all-digits test holds (byte ∷ word) digits =
    let first = digits-cons byte word digits in
    and_from _ _ (holds byte first.0 first.1) (list_all-digits test holds word first.2)

-- one to nine digits are a number
pub number_of-digits : (word : List ℕ) → 0 < length word → length word ≤ 9 → list_all is_ascii_digit word ≡ true → number_of word ≡ Some (digits_value 10 word)
unfolding number_of
number_of-digits word some few digits = grind arith

-- what is written of a number is read as that number
pub number_of-decimal : (n : ℕ) → n < 10 ^ 9 → number_of (decimal n) ≡ Some n
number_of-decimal n small =
    number_of-digits (decimal n) (decimal_nonempty n (omega arith)) (length-decimal-le 9 n (omega arith) small (omega arith)) (digits-decimal n small)
    ∙ ap (λ k. Some k) (digits_value-decimal numerals n (omega arith))

-- and it is a word
word_byte : (byte : ℕ) → 48 ≤ byte → byte ≤ 57 → not (is_blank byte || is_line_feed byte) ≡ true
word_byte byte low high = grind (arith, nat_tests)

pub nonempty : (word : List ℕ) → 0 < length word → not (length word == 0) ≡ true
nonempty word some = grind (arith, nat_tests)

pub is_word-decimal : (n : ℕ) → n < 10 ^ 9 → is_word (decimal n) ≡ true
is_word-decimal n small = grind (arith, and_from, nonempty, decimal_nonempty, list_all-digits, word_byte, digits-decimal)

-- the number that is read of it
pub value-decimal : (v : ℕ) → v < 10 ^ 9 → value_of (decimal v) ≡ v
value-decimal v less = rw (number_of-decimal v less) refl

pub number-decimal : (v : ℕ) → v < 10 ^ 9 → is_number (decimal v) ≡ true
number-decimal v less = rw (number_of-decimal v less) refl

-- lists of numbers
pub values-decimal : (x : List ℕ) → All (λ v. v < 10 ^ 9) x → map value_of (map decimal x) ≡ x
values-decimal [] small = refl
values-decimal (v ∷ x) small = ap₂ ◌∷◌ (value-decimal v (small 0 0 (omega arith))) (values-decimal x (λ k d less. small (suc k) d (omega arith)))

pub numbers-decimal : (x : List ℕ) → All (λ v. v < 10 ^ 9) x → list_all is_number (map decimal x) ≡ true
numbers-decimal [] small = refl
numbers-decimal (v ∷ x) small = and_from (is_number (decimal v)) (list_all is_number (map decimal x)) (number-decimal v (small 0 0 (omega arith))) (numbers-decimal x (λ k d less. small (suc k) d (omega arith)))

pub words-decimal : (x : List ℕ) → All (λ v. v < 10 ^ 9) x → AreWords (map decimal x)
words-decimal [] small = tt
words-decimal (v ∷ x) small = (is_word-decimal v (small 0 0 (omega arith)), words-decimal x (λ k d less. small (suc k) d (omega arith)))
