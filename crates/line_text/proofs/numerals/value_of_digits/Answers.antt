use Rattle.std.proofs.Common.{arith, ℕ, List, length, true, ◌≡◌, ◌∷◌, ◌+◌, ◌-◌, ◌*◌, ◌^◌, ◌≤◌, ◌<◌, sym, ◌∙◌, ap, refl}
use Rattle.std.specs.Char.{is_ascii_digit}
use Rattle.std.specs.List.{list_all}
use Rattle.std.specs.Str.Parse.{digits_value_after}
use Rattle.line_text.proofs.Digits.{small_with_room, room-digit, digits-cons, digits_value_after-cons}
use Rattle.line_text.proofs.numerals.value_of_digits.Goals as goal

-- what one more digit does
record Step (n whole digit amount : ℕ) (rest others : List ℕ) : Type 0 where
  few : n * 10 + amount < 10 ^ 9
  digits : list_all is_ascii_digit others ≡ true
  value : digits_value_after 10 (n * 10 + amount) others ≡ whole
  room : (n * 10 + amount + 1) * 10 ^ length others ≤ 10 ^ 9

step : (n whole digit amount : ℕ) (rest others : List ℕ) → rest ≡ digit ∷ others → amount ≡ digit - 48 → list_all is_ascii_digit rest ≡ true → digits_value_after 10 n rest ≡ whole → (n + 1) * 10 ^ length rest ≤ 10 ^ 9 → Step n whole digit amount rest others
step n whole digit amount rest others first is digits value room =
    let split = digits-cons digit others (ap (list_all is_ascii_digit) (sym first) ∙ digits) in
    let low : 48 ≤ digit = split.0 in
    let high : digit ≤ 57 = split.1 in
    let more : (n * 10 + amount + 1) * 10 ^ length others ≤ 10 ^ 9 = room-digit n amount (length others) (length rest) (omega arith) (ap length first ∙ omega arith) room in
    grind (arith, small_with_room (n * 10 + amount) (length others) more, digits_value_after-cons n digit others low high)

pub overflow_mul-value : goal.overflow_mul-value
overflow_mul-value c =
    let i = c.digits.invariant in
    let s = step c.digits.value _ _ _ _ _ c.in-Some.ensures.cases.0 (refl) i.digits i.value i.room in
    omega (arith, s.few)

pub overflow_add-value : goal.overflow_add-value
overflow_add-value c =
    let i = c.digits.invariant in
    let s = step c.digits.value _ _ _ _ _ c.in-Some.ensures.cases.0 c.from.ensures i.digits i.value i.room in
    omega (arith, s.few)

pub digits-preserved : goal.digits-preserved
digits-preserved c =
    let i = c.digits.invariant in
    let s = step c.digits.value _ _ _ _ _ c.in-Some.ensures.cases.0 c.from.ensures i.digits i.value i.room in
    record { digits = s.digits; value = s.value; room = s.room }
