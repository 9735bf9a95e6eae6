-- The test of a range decides whether a number is in it, and so for all numbers of a list. Idea:
-- both tests compare with 0 and with n; an induction carries them along a list.
use Rattle.counting.proofs.Common.{◌≡◌, ◌||◌, ◌<◌, ◌^◌, ℕ, suc, List, [], ◌∷◌, All, false, refl, ap₂, arith, list_any, or_parts, nat_tests, All-nil, All-cons, Within}
use Rattle.line_text.specs.Common.{is_out_of_range}

pub in_range : (n v : ℕ) → is_out_of_range n v ≡ false → Within n v
in_range n v is = (grind (arith, nat_tests), grind (arith, nat_tests))

pub all-in_range : (n : ℕ) (vs : List ℕ) → list_any (is_out_of_range n) vs ≡ false → All (Within n) vs
all-in_range n [] is = All-nil (Within n)
all-in_range n (v ∷ vs) is =
    let parts = or_parts (is_out_of_range n v) (list_any (is_out_of_range n) vs) is in
    All-cons (Within n) v vs (in_range n v parts.0) (all-in_range n vs parts.1)

pub in_range-test : (n v : ℕ) → Within n v → is_out_of_range n v ≡ false
in_range-test n v within = let low = within.0 in let high = within.1 in grind (arith, nat_tests)

pub in_range-tests : (n : ℕ) (x : List ℕ) → All (Within n) x → list_any (is_out_of_range n) x ≡ false
in_range-tests n [] within = refl
in_range-tests n (v ∷ x) within = ap₂ (λ a b. a || b) (in_range-test n v (within 0 0 (omega arith))) (in_range-tests n x (λ k d less. within (suc k) d (omega arith)))

-- numbers in a small range have few digits
pub few-digits : (n : ℕ) (x : List ℕ) → n < 10 ^ 9 → All (Within n) x → All (λ v. v < 10 ^ 9) x
few-digits n x small within k d less = let in_order = within k d less in omega arith
