-- The position of a number in a list: the number is there, and this is the only one if the list has
-- no number twice.
use Rattle.graph_core.proofs.from_counting.Common.{◌≡◌, ℕ, suc, zero, ◌+◌, ◌-◌, Bool, true, false, cond, ◌==◌, ◌||◌, List, [], ◌∷◌, length, refl, sym, ap, ◌∙◌, arith, eqb-true, slice_index, both_ways, Within, mem}
use Rattle.tree_core.proofs.Common.{position}

-- a number of the list is at its place
pub position-item : (xs : List ℕ) (j : ℕ) → mem xs j ≡ true → Within (length xs) (position xs j) × (slice_index xs (position xs j - 1) ≡ j)
position-item [] j h = absurd (both_ways false refl h)
position-item (x ∷ xs) j h = go (position-item xs j) (x == j) refl h
  where
    go : (mem xs j ≡ true → Within (length xs) (position xs j) × (slice_index xs (position xs j - 1) ≡ j)) → (b : Bool) → (x == j) ≡ b → (b || mem xs j) ≡ true → Within (suc (length xs)) (cond b 1 (position xs j + 1)) × (slice_index (x ∷ xs) (cond b 1 (position xs j + 1) - 1) ≡ j)
    go f true e h = ((omega arith, omega arith), eqb-true x j e)
    go f false e h = let r = f h in let w = r.0 in ((omega arith, omega arith), back (position xs j) w r.1)
      where
        back : (k : ℕ) → Within (length xs) k → slice_index xs (k - 1) ≡ j → slice_index (x ∷ xs) (k + 1 - 1) ≡ j
        back zero w t = absurd (omega arith)
        back (suc k) w t = let a : suc k + 1 - 1 ≡ suc k = omega arith in let b : suc k - 1 ≡ k = omega arith in ap (slice_index (x ∷ xs)) a ∙ ap (slice_index xs) (sym b) ∙ t
