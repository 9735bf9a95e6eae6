-- Each vertex is in exactly one of the Gallai-Edmonds sets D, A and C. Whether some maximum
-- matching misses a vertex is decided, and so is whether a vertex is adjacent to such a one.
use Rattle.counting.proofs.Common.{◌≡◌, ℕ, true, ◌⊎◌, inl, inr, arith, scan, Within, none}
use Rattle.graph_core.proofs.Common.{missed_or_met, InA, InC, InD, Graph, adjacent}

-- some maximum matching misses v, or none does
d_or_not : (g : Graph) (v : ℕ) → Within g.order v → (InD g v) ⊎ (InD g v → ⊥)
d_or_not g v w = grind (arith, missed_or_met g none v w)

-- v is adjacent to a vertex of D, or to none
next_or_not : (g : Graph) (v : ℕ) → ((w : ℕ) × Within g.order w × (InD g w × (adjacent g none v w ≡ true))) ⊎ ((w : ℕ) → Within g.order w → InD g w × (adjacent g none v w ≡ true) → ⊥)
next_or_not g v = scan g.order (λ w. InD g w × (adjacent g none v w ≡ true)) (λ w. InD g w × (adjacent g none v w ≡ true) → ⊥) (λ w ww. elim (d_or_not g w ww) [
  | inr n ↦ inr (λ p. n p.0)
  | inl d ↦ grind arith
])

-- each vertex is in one of the three
pub some_part : (g : Graph) (v : ℕ) → Within g.order v → (InD g v) ⊎ ((InA g v) ⊎ (InC g v))
some_part g v w = grind (arith, d_or_not g v w, next_or_not g v)
