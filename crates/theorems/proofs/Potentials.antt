-- A trivial tight shore, or its complement, is one vertex; so its cut is a star, and the numbers of
-- the vertices take it in: one more at each other vertex.
use Rattle.tree_check.proofs.from_counting.Common.{◌≡◌, ◌≢◌, ℕ, zero, suc, ◌+◌, ◌*◌, ◌≤◌, Bool, true, ◌&&◌, ◌||◌, not, List, [], ◌∷◌, refl, sym, arith, inl, inr, All, All-head, All-nil, All-tail, cases_eq, true≢false, odd_three, only_one, Within, bit, count, is_odd, Set, complement}
use Rattle.graph_core.proofs.Common.{Graph, HasOnlyTrivialTightCuts, IsCovered, IsGraph, IsTight, first_end, in_cut, second_end, size}
use Rattle.theorems.proofs.FlatWeights.{balances_flat, crossed, flat_balances}
use Rattle.theorems.specs.Weights.{IsFlat}

-- numbers that make up for the sets of a list: at each edge that is not a loop, with the number of
-- sets whose cut contains it, the numbers at its ends are 2 k
abbrev Evens : (g : Graph) (us : List Set) (k : ℕ) (r : ℕ → ℕ) → Type 0
Evens g us k r = (e : ℕ) → Within (size g) e → first_end g e ≢ second_end g e → crossed g us e + (r (first_end g e) + r (second_end g e)) ≡ 2 * k

odd_one : (k : ℕ) → is_odd k ≡ true → k ≢ 1 → 3 ≤ k
odd_one zero o d = absurd (true≢false (sym o))
odd_one (suc zero) o d = absurd (d refl)
odd_one (suc (suc k)) o d = odd_three (suc (suc k)) o (omega arith)

module _ (g : Graph) (is : IsGraph g) (only : HasOnlyTrivialTightCuts g) where
  -- one set
  star : (x : Set) → IsTight g x → (r : ℕ → ℕ) × ((e : ℕ) → Within (size g) e → first_end g e ≢ second_end g e → bit (in_cut g x e) + (r (first_end g e) + r (second_end g e)) ≡ 2)
  star x t = elim (cases_eq (count g.order x) 1) [
    | inl one ↦ ((λ v. bit (not (x v))), λ e i d. inside (x (first_end g e)) (x (second_end g e)) (λ h l. d (only_one g.order x one (first_end g e) (second_end g e) (is e i).0 (is e i).1 h l)))
    | inr more ↦ elim (cases_eq (count g.order (complement x)) 1) [
      | inl one ↦ ((λ v. bit (x v)), λ e i d. outside (x (first_end g e)) (x (second_end g e)) (λ h l. d (only_one g.order (complement x) one (first_end g e) (second_end g e) (is e i).0 (is e i).1 h l)))
      | inr others ↦ absurd (only x t (record { inside = odd_one (count g.order x) t.odd more; outside = odd_one (count g.order (complement x)) t.odd_complement others }))
    ]
  ]
    where
      inside : (a b : Bool) → (a ≡ true → b ≡ true → ⊥) → bit ((a && not b) || (not a && b)) + (bit (not a) + bit (not b)) ≡ 2
      inside a b h = grind arith

      outside : (a b : Bool) → (not a ≡ true → not b ≡ true → ⊥) → bit ((a && not b) || (not a && b)) + (bit a + bit b) ≡ 2
      outside a b h = grind arith

  stars : (us : List Set) → All (IsTight g) us → (k : ℕ) × (r : ℕ → ℕ) × Evens g us k r
  stars [] tight = (0, (λ v. 0), λ e i d. refl)
  stars (x ∷ us) tight =
      let a = star x (All-head (IsTight g) x us tight) in
      let b = stars us (All-tail (IsTight g) x us tight) in
      (b.0 + 1, (λ v. a.0 v + b.1 v), λ e i d. add (bit (in_cut g x e)) (crossed g us e) (a.0 (first_end g e)) (a.0 (second_end g e)) (b.1 (first_end g e)) (b.1 (second_end g e)) b.0 (a.1 e i d) (b.2 e i d))
    where
      add : (p s a b c d k : ℕ) → p + (a + b) ≡ 2 → s + (c + d) ≡ 2 * k → (p + s) + ((a + c) + (b + d)) ≡ 2 * (k + 1)
      add p s a b c d k h l = omega arith

pub flat_potential : (g : Graph) (w : ℕ → ℕ) → IsGraph g → IsCovered g → HasOnlyTrivialTightCuts g → IsFlat g w → (k : ℕ) × (q : ℕ → ℕ) ×
    ((e : ℕ) → Within (size g) e → first_end g e ≢ second_end g e → q (first_end g e) + q (second_end g e) ≡ 2 * (w e + k))
flat_potential g w is cov only flat =
    let b = flat_balances g w is flat cov in
    let s = stars g is only b.2 b.3 in
    (b.0 + s.0, (λ v. b.1 v + s.1 v), λ e i d. add (w e) b.0 s.0 (b.1 (first_end g e)) (b.1 (second_end g e)) (s.1 (first_end g e)) (s.1 (second_end g e)) (crossed g b.2 e) (b.4 e i d) (s.2 e i d))
  where
    add : (c k l a b r s p : ℕ) → a + b ≡ 2 * (c + k) + p → p + (r + s) ≡ 2 * l → (a + r) + (b + s) ≡ 2 * (c + (k + l))
    add c k l a b r s p h i = omega arith

pub potential_flat : (g : Graph) (w q : ℕ → ℕ) (k : ℕ) → IsGraph g → ((e : ℕ) → Within (size g) e → q (first_end g e) + q (second_end g e) ≡ 2 * (w e + k)) → IsFlat g w
potential_flat g w q k is each = balances_flat g w q k [] is (All-nil (IsTight g)) (λ e i loop_free. let h = each e i in omega arith)
