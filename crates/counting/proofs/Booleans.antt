-- Laws of tests that hold whatever they test: one of two, both, the first but not the second,
-- exactly one, and tests as the numbers 0 and 1. Those of one and of both that the standard
-- library has are not said again.
use Rattle.std.proofs.Common.{◌≡◌, ℕ, Bool, true, false, not, ◌&&◌, ◌||◌, ◌+◌, ◌*◌, ◌≤◌, arith}
use Rattle.counting.specs.Common.{bit}

-- twice denied
pub not_not : (b : Bool) → not (not b) ≡ b
not_not b = grind arith

pub not_not_back : (b : Bool) → b ≡ not (not b)
not_not_back b = grind arith

-- one of two, of which one is known
pub or_false : (b : Bool) → (b || false) ≡ b
or_false b = grind arith

pub or_false_back : (b : Bool) → b ≡ (b || false)
or_false_back b = grind arith

pub or_true : (b : Bool) → (b || true) ≡ true
or_true b = grind arith

-- both of two, of which one is known
pub and_false : (b : Bool) → (b && false) ≡ false
and_false b = grind arith

pub and_true : (b : Bool) → (b && true) ≡ b
and_true b = grind arith

-- the order of two or of three
pub and_comm : (a b : Bool) → (a && b) ≡ (b && a)
and_comm a b = grind arith

pub or_comm : (a b : Bool) → (a || b) ≡ (b || a)
or_comm a b = grind arith

pub or_assoc : (a b c : Bool) → ((a || b) || c) ≡ (a || (b || c))
or_assoc a b c = grind arith

pub or_assoc_back : (a b c : Bool) → (a || (b || c)) ≡ ((a || b) || c)
or_assoc_back a b c = grind arith

pub and_second : (a b : Bool) → (a && b) ≡ true → b ≡ true
and_second a b p = grind arith

pub and_fails_second : (a b : Bool) → a ≡ true → (a && b) ≡ false → b ≡ false
and_fails_second a b p q = grind arith

pub or_fails_first : (a b : Bool) → (a || b) ≡ false → a ≡ false
or_fails_first a b p = grind arith

pub or_second : (a b : Bool) → a ≡ false → (a || b) ≡ true → b ≡ true
or_second a b p q = grind arith

pub nor_left : (a b : Bool) → a ≡ true → not (a || b) ≡ false
nor_left a b p = grind arith

pub nor_right : (a b : Bool) → b ≡ true → not (a || b) ≡ false
nor_right a b p = grind arith

-- where one implies the other
pub and_implied : (a b : Bool) → (b ≡ true → a ≡ true) → (a && b) ≡ b
and_implied a b p = grind arith

pub same_tests : (a b : Bool) → (a ≡ true → b ≡ true) → (b ≡ true → a ≡ true) → a ≡ b
same_tests a b p q = grind arith

-- the first but not the second
pub but_from : (a b : Bool) → a ≡ true → b ≡ false → (a && not b) ≡ true
but_from a b p q = grind arith

pub but_not : (a b : Bool) → b ≡ true → (a && not b) ≡ false
but_not a b p = grind arith

pub but_fails_second : (a b : Bool) → a ≡ true → (a && not b) ≡ false → b ≡ true
but_fails_second a b p q = grind arith

pub not_but_parts : (a b : Bool) → not (a && not b) ≡ false → (a ≡ true) × (b ≡ false)
not_but_parts a b p = grind arith

-- exactly one of two
pub alike_not_apart : (a b : Bool) → a ≡ b → ((a && not b) || (not a && b)) ≡ false
alike_not_apart a b p = grind arith

pub apart_denied : (a b c : Bool) → (a && ((not b && not (not c)) || (not (not b) && not c))) ≡ (a && ((b && not c) || (not b && c)))
apart_denied a b c = grind arith

-- tests as the numbers 0 and 1
pub bit_le_one : (b : Bool) → bit b ≤ 1
bit_le_one b = grind arith

pub bit_le : (a b : Bool) → (a ≡ true → b ≡ true) → bit a ≤ bit b
bit_le a b p = grind arith

pub bit_times_le : (b : Bool) (k : ℕ) → bit b * k ≤ k
bit_times_le b k = grind arith

pub bit_and_false : (b : Bool) → bit (b && false) ≡ 0
bit_and_false b = grind arith

pub bit_and_true : (b : Bool) → bit (b && true) ≡ bit b
bit_and_true b = grind arith

pub bit_parted : (a b : Bool) → bit a ≡ bit (a && b) + bit (a && not b)
bit_parted a b = grind arith
