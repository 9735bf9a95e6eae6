-- The sets of a plan as lists: corners, complements, and equal shores. Idea: an increasing list is
-- determined by its members, so it is enough to compare members.
use Rattle.graph_core.proofs.from_counting.Common.{◌≡◌, ◌↔◌, ℕ, true, ◌&&◌, ◌||◌, not, List, sym, ◌∙◌, arith, same_tests, and_parts, mem-within, all_in_true, list-from_test, same_rising_list, set-narrower, Within, IsRisingIn, is_subset, mem, complement, meet, union}
use Rattle.tree_core.proofs.Common.{list-of, meet_list}
use Rattle.move_laws.specs.Common.{outer_of}

pub inner-is : (n : ℕ) (x y r : List ℕ) → IsRisingIn n x → IsRisingIn 128 r → ((v : ℕ) → mem r v ≡ (mem x v && mem y v)) → r ≡ meet_list n x y
inner-is n x y r rx rr tells = list-of n r (meet (mem x) (mem y)) rr tells (λ v m. (mem-within n x rx v (and_parts (mem x v) (mem y v) (sym (tells v) ∙ m)).0).1)

pub outer-is : (n : ℕ) (x y full u r : List ℕ) → ((v : ℕ) → (mem full v ≡ true) ↔ Within n v) → ((v : ℕ) → mem u v ≡ (mem x v || mem y v)) → IsRisingIn 128 r → ((v : ℕ) → mem r v ≡ (mem full v && not (mem u v))) → r ≡ outer_of n x y
outer-is n x y full u r whole both rr tells = grind (arith, list-from_test n r (complement (union (mem x) (mem y))), set-narrower 128 n r rr, and_parts)

-- two shores, each inside the other
pub same-shores : (n : ℕ) (x y : List ℕ) → IsRisingIn n x → IsRisingIn n y → is_subset y x ≡ true → is_subset x y ≡ true → x ≡ y
same-shores n x y rx ry h k = same_rising_list n x y rx ry (λ v w. same_tests (mem x v) (mem y v) (all_in_true x (mem y) k v) (all_in_true y (mem x) h v))
