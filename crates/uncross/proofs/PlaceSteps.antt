-- Places of blocks, counted from 1, and the blocks there. Idea: the place of a vertex is one more
-- than the number of blocks before its own, so the block there is the item one before it.
use Rattle.graph_core.proofs.from_counting.Common.{List, Some, [], ◌∷◌, ap, arith, sym, get_or, ℕ, ◌+◌, ◌-◌, ◌≤◌, ◌∙◌, ◌≡◌, slice_get, get_or_from_slice_get}
use Rattle.graph_core.proofs.Common.{block, place}

-- no place is 0
pub place-positive : (p : List (List ℕ)) (v : ℕ) → 1 ≤ place p v
place-positive [] v = omega arith
place-positive (b ∷ p) v = grind (arith, place-positive p v)

-- the block at a place counted from 0
pub block-at : (p : List (List ℕ)) (v i : ℕ) (b : List ℕ) → i + 1 ≡ place p v → slice_get p i ≡ Some b → b ≡ block p (place p v)
block-at p v i b e at = let from_one : i ≡ place p v - 1 = omega arith in sym (get_or_from_slice_get p i b [] at) ∙ ap (λ (k : ℕ). get_or p k []) from_one
