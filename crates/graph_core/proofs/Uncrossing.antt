-- Uncrossing in one graph: the meet and the union of two tight shores are tight, and no edge
-- joins their differences. The edges of a perfect matching in the two cuts are those in the cuts
-- of meet and union and twice those between the differences.
use Rattle.vset_core.proofs.from_counting.Common.{◌≡◌, ℕ, ◌+◌, ◌≤◌, Bool, true, false, cond, refl, sym, ap, ◌∙◌, arith, ◌&&◌, not, inl, inr, cases_Bool, both_ways, count_meet_union, complement_odd, odd-add, odd-double, odd_pos, order_even, at_le_total, Within, bit, count, is_odd, Set, meet, minus, none, union}
use Rattle.graph_core.proofs.Parity.{parity, two_cuts}
use Rattle.graph_core.specs.Common.{IsCovered, Graph, IsGraph, connects, in_cut, inside, size, IsPerfect, IsTight}

-- the cut of an odd set meets each perfect matching
pub odd_meets : (g : Graph) (m x : Set) → IsGraph g → IsPerfect g none m → is_odd (count g.order x) ≡ true → 1 ≤ count (size g) (λ e. m e && in_cut g x e)
odd_meets g m x is p o =
    let k = count (size g) (λ e. m e && inside g x e) in
    let e : count g.order x ≡ count (size g) (λ e. m e && in_cut g x e) + (k + k) = omega (arith, parity g is m x p) in
    let a = odd-add (count (size g) (λ e. m e && in_cut g x e)) (k + k) in
    odd_pos (count (size g) (λ e. m e && in_cut g x e)) (go (is_odd (count (size g) (λ e. m e && in_cut g x e))) (is_odd (k + k)) (odd-double k) (sym a ∙ ap is_odd (sym e) ∙ o))
  where
    go : (s t : Bool) → t ≡ false → cond s (not t) t ≡ true → s ≡ true
    go s t a b = grind arith

module _ (g : Graph) (is : IsGraph g) (covered : IsCovered g) (x y : Set) (tx : IsTight g x) (ty : IsTight g y) (odd : is_odd (count g.order (meet x y)) ≡ true) where
  union_odd : is_odd (count g.order (union x y)) ≡ true
  union_odd = grind (arith, odd-add (count g.order (meet x y)) (count g.order (union x y)), count_meet_union g.order x y, odd-add (count g.order x) (count g.order y))

  one_each : (m : Set) → IsPerfect g none m →
      (count (size g) (λ e. m e && in_cut g (meet x y) e) ≡ 1) × (count (size g) (λ e. m e && in_cut g (union x y) e) ≡ 1) × (count (size g) (λ e. m e && connects g (minus x y) (minus y x) e) ≡ 0)
  one_each m p = grind (arith, odd_meets g m (meet x y) is p odd, odd_meets g m (union x y) is p union_odd, union_odd, two_cuts g m x y)

  pub no_edge_joins : (e : ℕ) → Within (size g) e → connects g (minus x y) (minus y x) e ≡ false
  no_edge_joins e w = elim (cases_Bool (connects g (minus x y) (minus y x) e)) [
    | inr f ↦ f
    | inl t ↦ let a = covered.allowed e w (λ l. both_ways (connects g (minus x y) (minus y x) e) (grind arith) t) in
        let z : bit (a.0 e && connects g (minus x y) (minus y x) e) ≡ 1 = rw (a.2, t) refl in
        absurd (omega (arith, at_le_total (size g) (λ i. bit (a.0 i && connects g (minus x y) (minus y x) i)) e w, (one_each a.0 a.1).2))
  ]

  pub meet_tight : IsTight g (meet x y)
  meet_tight = record { odd = odd; odd_complement = complement_odd g.order (meet x y) (order_even g.order x tx.odd tx.odd_complement) odd; cut = λ m p. (one_each m p).0 }

  pub union_tight : IsTight g (union x y)
  union_tight = record { odd = union_odd; odd_complement = complement_odd g.order (union x y) (order_even g.order x tx.odd tx.odd_complement) union_odd; cut = λ m p. (one_each m p).1 }
