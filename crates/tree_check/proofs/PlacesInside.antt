-- The places of the blocks in a shore, found block by block.
-- Idea: after i blocks the places found are those of 1 to i whose blocks lie in the shore.
use Rattle.graph_core.proofs.from_counting.Common.{◌≡◌, ◌<◌, ◌≤◌, ℕ, ◌+◌, true, false, ◌||◌, ◌==◌, List, length, arith, eq-eqb, ne_eqb, slice_get, Some, cases_eq, false_from_ne_true, or_right, get_or_from_slice_get, list-from_test, set-narrower, or_false, Within, IsRisingIn, is_subset, mem, rising_list}
use Rattle.move_laws.proofs.from_contraction.BlockLists.{length-partition}
use Rattle.graph_core.proofs.Common.{IsPartition, blocks_in}

-- the next place is that of a vertex
pub room : (n : ℕ) (p : List (List ℕ)) (i all : ℕ) → IsPartition n p → n ≤ 128 → all ≡ length p → i < all → i < 128
room n p i all is few sized less = let listed = length-partition n p is in omega arith

module _ (p : List (List ℕ)) (shore old : List ℕ) (i : ℕ) (within : (j : ℕ) → mem old j ≡ true → Within i j) (members : (j : ℕ) → Within i j → mem old j ≡ blocks_in p (mem shore) j) (b : List ℕ) (found : slice_get p i ≡ Some b) where
  -- whether the block at the next place is in the shore
  at-next : blocks_in p (mem shore) (i + 1) ≡ is_subset b shore
  at-next = grind (arith, get_or_from_slice_get p i b)

  -- the next place is added if its block is in the shore
  module _ (new : List ℕ) (tells : (j : ℕ) → mem new j ≡ (mem old j || (i + 1 == j))) where
    pub added-within : (j : ℕ) → mem new j ≡ true → Within (i + 1) j
    added-within j m = grind arith

    pub added-members : is_subset b shore ≡ true → (j : ℕ) → Within (i + 1) j → mem new j ≡ blocks_in p (mem shore) j
    added-members holds j w = grind (arith, cases_eq j (i + 1), or_right (mem old j) (i + 1 == j), eq-eqb (i + 1) j, at-next, ne_eqb (i + 1) j, or_false (mem old j))

  -- and else left out
  pub left-within : (j : ℕ) → mem old j ≡ true → Within (i + 1) j
  left-within j m = let w = within j m in (omega arith, omega arith)

  pub left-members : is_subset b shore ≡ false → (j : ℕ) → Within (i + 1) j → mem old j ≡ blocks_in p (mem shore) j
  left-members fails j w = grind (arith, cases_eq j (i + 1), false_from_ne_true (mem old j), at-next)

-- after the last block the set is the list of the places
pub all-places : (p : List (List ℕ)) (shore places : List ℕ) (i : ℕ) → i ≡ length p → IsRisingIn 128 places → ((j : ℕ) → mem places j ≡ true → Within i j) → ((j : ℕ) → Within i j → mem places j ≡ blocks_in p (mem shore) j) →
    places ≡ rising_list (length p) (blocks_in p (mem shore))
all-places p shore places i last rises within members = grind (arith, list-from_test (length p) places (blocks_in p (mem shore)), set-narrower 128 (length p) places rises)
