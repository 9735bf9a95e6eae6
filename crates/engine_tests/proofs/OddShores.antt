-- A set is an odd shore if the tests say so: it is a part of the vertices, and its size leaves
-- 1 when divided by 2. The remainder says what the definition by steps of one says.
use Rattle.tree_check.proofs.from_counting.Common.{◌≡◌, ℕ, ◌==◌, ◌%◌, List, true, ◌∙◌, ◌↔◌, is_odd_remainder, all_in_true, set-narrower, Within, is_odd, IsRisingIn, is_subset, mem}

pub subset-rises : (n : ℕ) (xs full : List ℕ) → IsRisingIn 128 xs → ((v : ℕ) → (mem full v ≡ true) ↔ Within n v) → is_subset xs full ≡ true → IsRisingIn n xs
subset-rises n xs full rises members inside = set-narrower 128 n xs rises (λ v m. ((members v).0 (all_in_true xs (mem full) inside v m)).1)

pub remainder-odd : (k : ℕ) → (k % 2 == 1) ≡ true → is_odd k ≡ true
remainder-odd k h = is_odd_remainder k ∙ h
