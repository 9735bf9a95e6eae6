-- Reading digits from the front: each digit more takes ten times the number and leaves one place
-- less, so that the number of nine digits at most stays below 10 ^ 9.
use Rattle.std.proofs.Common.{◌≡◌, ℕ, zero, suc, ◌+◌, ◌-◌, ◌*◌, ◌^◌, ◌≤◌, ◌<◌, List, [], ◌∷◌, true, false, arith, subst, sym, refl, length, get_or, None}
use Rattle.std.specs.Char.{is_ascii_digit}
use Rattle.std.specs.List.{list_all}
use Rattle.std.specs.Str.Parse.{digits_value_after}
use Rattle.std.proofs.lemmas.Bool.Decides.{nat_tests}
use Rattle.std.specs.Borrow.{Bor}
use Rattle.line_text.specs.Common.{number_of, is_number, numbers_of, texts_of}
use Rattle.std.proofs.lemmas.Bool.{and_right}
use Rattle.std.proofs.Math.Nat.{mul-le-mul_right, mul-le-mul_left, pow-succ', mul_assoc}

pow_positive : (k : ℕ) → 1 ≤ 10 ^ k
pow_positive zero = omega arith
pow_positive (suc k) = omega (arith, pow-succ' 10 k, pow_positive k)

-- a number with room for its further digits is small
pub small_with_room : (n k : ℕ) → (n + 1) * 10 ^ k ≤ 10 ^ 9 → n < 10 ^ 9
small_with_room n k room = omega (arith, mul-le-mul_left (n + 1) (pow_positive k))

-- a digit more, and one place less
pub room-digit : (n d k l : ℕ) → d ≤ 9 → l ≡ k + 1 → (n + 1) * 10 ^ l ≤ 10 ^ 9 → (n * 10 + d + 1) * 10 ^ k ≤ 10 ^ 9
room-digit n d k l digit longer room =
    let step : n * 10 + d + 1 ≤ (n + 1) * 10 = omega arith in
    let same : l ≡ suc k = omega arith in
    let whole : (n + 1) * 10 ^ suc k ≤ 10 ^ 9 = subst (λ (m : ℕ). (n + 1) * 10 ^ m ≤ 10 ^ 9) same room in
    let turned : (n + 1) * (10 * 10 ^ k) ≤ 10 ^ 9 = subst (λ (m : ℕ). (n + 1) * m ≤ 10 ^ 9) (pow-succ' 10 k) whole in
    omega (arith, mul-le-mul_right (10 ^ k) step, mul_assoc (n + 1) 10 (10 ^ k), turned)

-- the first of several digits is one, and so are the others
pub digits-cons : (byte : ℕ) (bytes : List ℕ) → list_all is_ascii_digit (byte ∷ bytes) ≡ true → (48 ≤ byte) × (byte ≤ 57) × (list_all is_ascii_digit bytes ≡ true)
digits-cons byte bytes digits = grind (arith, nat_tests)

-- the first digit makes ten times the number so far, and itself
pub digits_value_after-cons : (n byte : ℕ) (bytes : List ℕ) → 48 ≤ byte → byte ≤ 57 → digits_value_after 10 n (byte ∷ bytes) ≡ digits_value_after 10 (n * 10 + (byte - 48)) bytes
digits_value_after-cons n byte bytes low high = grind arith

-- among words one of which writes no number, not all are numbers
list_all-is_number : (words : List (Bor (List ℕ))) (i : ℕ) (d : Bor (List ℕ)) → i < length words → None ≡ number_of (get_or words i d).now → list_all is_number (texts_of words) ≡ false
list_all-is_number [] i d within none = absurd (omega arith)
list_all-is_number (word ∷ words) zero d within none = rw (sym none) refl
list_all-is_number (word ∷ words) (suc i) d within none = grind (arith, list_all-is_number words i d (omega arith) none, and_right (is_number word.now) false refl)

pub numbers_of-none : (words : List (Bor (List ℕ))) (i : ℕ) (d : Bor (List ℕ)) → i < length words → None ≡ number_of (get_or words i d).now → None ≡ numbers_of (texts_of words)
numbers_of-none words i d within none = rw (list_all-is_number words i d within none) refl
