-- Two edges of the cut of a member without a common end: another member separates the one from the
-- other. The numbers at the four ends say that the members separate the ends of the edges less
-- often than the ends on the two sides.
use Rattle.graph_core.proofs.from_counting.Common.{◌≡◌, ℕ, ◌+◌, ◌≤◌, ◌<◌, ◌≢◌, Bool, true, false, ◌&&◌, ◌||◌, not, List, [], ◌∷◌, refl, sym, ap, ap₂, ◌∙◌, true≢false, arith, inl, inr, All, cases_lt, All-cons, All-head, All-tail, Within, bit, Set}
use Rattle.graph_core.proofs.Common.{Graph, HasEnds, IsGraph, size, IsTight}
use Rattle.brick_kit.proofs.CutEnds.{ends_within}
use Rattle.brick_kit.proofs.SetSums.{sum_plus}
use Rattle.brick_kit.specs.Balances.{IsBalanced, apart, parts}
use Rattle.brick_kit.specs.Weights.{sum_over}

-- two edges of the cut of x without a common end: e from u in x to v outside, f from u' to v'
pub record ApartEdges (g : Graph) (x : Set) : Type 0 where
  pub e : ℕ
  pub f : ℕ
  pub u : ℕ
  pub v : ℕ
  pub u' : ℕ
  pub v' : ℕ
  pub e_real : Within (size g) e
  pub f_real : Within (size g) f
  pub e_ends : HasEnds g e u v
  pub f_ends : HasEnds g f u' v'
  pub ins : (x u ≡ true) × (x u' ≡ true)
  pub outs : (x v ≡ false) × (x v' ≡ false)
  pub differ : (u ≢ u') × (v ≢ v')

-- t taken out of the list xs, and the rest
pub record Picked (g : Graph) (xs : List Set) (t : Set) (rest : List Set) : Type 0 where
  pub sums : (f : Set → ℕ) → sum_over f xs ≡ f t + sum_over f rest
  pub tight : All (IsTight g) xs → IsTight g t × All (IsTight g) rest

-- where a sum is less some term is less
pub some_less : (g : Graph) (f h : Set → ℕ) (xs : List Set) → sum_over f xs < sum_over h xs → (t : Set) × (rest : List Set) × Picked g xs t rest × (f t < h t)
some_less g f h [] l = absurd (omega arith)
some_less g f h (x ∷ xs) l = elim (cases_lt (f x) (h x)) [
  | inl a ↦ (x, xs, record { sums = λ k. refl; tight = λ a. (All-head (IsTight g) x xs a, All-tail (IsTight g) x xs a) }, a)
  | inr b ↦ let r = some_less g f h xs (omega arith) in (
    r.0,
    x ∷ r.1,
    record {
      sums = λ k. let e = r.2.sums k in omega arith;
      tight = λ a. let p = r.2.tight (All-tail (IsTight g) x xs a) in (p.0, All-cons (IsTight g) x r.1 (All-head (IsTight g) x xs a) p.1);
    },
    r.3,
  )
]

-- which set parts two vertices does not depend on their order
pub apart_turned : (xs : List Set) (u v : ℕ) → apart xs u v ≡ apart xs v u
apart_turned xs u v = grind arith

-- the balance at an edge that is not a loop, by its ends in either order
pub balance_ends : (g : Graph) (s : ℕ) (q : ℕ → ℕ) (xs : List Set) (e u v : ℕ) → IsBalanced g s q xs → Within (size g) e → HasEnds g e u v → u ≢ v → q u + q v ≡ (s + s) + apart xs u v
balance_ends g s q xs e u v b w ends differ = grind (arith, b.each e w)

in_and_out : (x : Set) (u v : ℕ) → x u ≡ true → x v ≡ false → u ≢ v
in_and_out x u v xu xv same = true≢false (sym xu ∙ ap x same ∙ xv)

parting_numbers : (s2 qu qv qu' qv' a b c d : ℕ) → qu + qv ≡ s2 + (1 + a) → qu' + qv' ≡ s2 + (1 + b) → qu + qu' ≤ s2 + (0 + c) → qv + qv' ≤ s2 + (0 + d) → a + b < c + d
parting_numbers s2 qu qv qu' qv' a b c d h i j k = omega arith

-- some other member has the two ends of each edge on one side, and the two edges on different sides
pub parting : (g : Graph) (s : ℕ) (q : ℕ → ℕ) (x : Set) (xs : List Set) → IsGraph g → IsBalanced g s q (x ∷ xs) →
    ((a b : ℕ) → Within g.order a → Within g.order b → a ≢ b → q a + q b ≤ (s + s) + apart (x ∷ xs) a b) → (d : ApartEdges g x) →
    (t : Set) × (rest : List Set) × Picked g xs t rest × (t d.u ≡ t d.v) × (t d.u' ≡ t d.v') × (t d.u ≡ not (t d.u'))
parting g s q x xs is b bound d = let r = some_less g (λ t. bit (parts t d.u d.v) + bit (parts t d.u' d.v')) (λ t. bit (parts t d.u d.u') + bit (parts t d.v d.v')) xs less in
    let z = table (r.0 d.u) (r.0 d.v) (r.0 d.u') (r.0 d.v') r.3 in (r.0, r.1, r.2, z.0, z.1, z.2)
  where
    few : apart xs d.u d.v + apart xs d.u' d.v' < apart xs d.u d.u' + apart xs d.v d.v'
    few = parting_numbers (s + s) (q d.u) (q d.v) (q d.u') (q d.v') (apart xs d.u d.v) (apart xs d.u' d.v') (apart xs d.u d.u') (apart xs d.v d.v')
        (balance_ends g s q (x ∷ xs) d.e d.u d.v b d.e_real d.e_ends (in_and_out x d.u d.v d.ins.0 d.outs.0) ∙ ap₂ (λ i j. (s + s) + (bit ((i && not j) || (not i && j)) + apart xs d.u d.v)) d.ins.0 d.outs.0)
        (balance_ends g s q (x ∷ xs) d.f d.u' d.v' b d.f_real d.f_ends (in_and_out x d.u' d.v' d.ins.1 d.outs.1) ∙ ap₂ (λ i j. (s + s) + (bit ((i && not j) || (not i && j)) + apart xs d.u' d.v')) d.ins.1 d.outs.1)
        (at_most (q d.u + q d.u') (apart xs d.u d.u') (x d.u) (x d.u') true d.ins.0 d.ins.1 (bound d.u d.u' (ends_within g is d.e d.u d.v d.e_real d.e_ends).0 (ends_within g is d.f d.u' d.v' d.f_real d.f_ends).0 d.differ.0))
        (at_most (q d.v + q d.v') (apart xs d.v d.v') (x d.v) (x d.v') false d.outs.0 d.outs.1 (bound d.v d.v' (ends_within g is d.e d.u d.v d.e_real d.e_ends).1 (ends_within g is d.f d.u' d.v' d.f_real d.f_ends).1 d.differ.1))
      where
        at_most : (k c : ℕ) (i j a : Bool) → i ≡ a → j ≡ a → k ≤ (s + s) + (bit ((i && not j) || (not i && j)) + c) → k ≤ (s + s) + (0 + c)
        at_most k c i j a p p' l = grind arith

    less : sum_over (λ t. bit (parts t d.u d.v) + bit (parts t d.u' d.v')) xs < sum_over (λ t. bit (parts t d.u d.u') + bit (parts t d.v d.v')) xs
    less = by_sums (sum_over (λ t. bit (parts t d.u d.v) + bit (parts t d.u' d.v')) xs) (sum_over (λ t. bit (parts t d.u d.u') + bit (parts t d.v d.v')) xs)
        (apart xs d.u d.v + apart xs d.u' d.v') (apart xs d.u d.u' + apart xs d.v d.v')
        (sum_plus (λ t. bit (parts t d.u d.v)) (λ t. bit (parts t d.u' d.v')) xs) (sum_plus (λ t. bit (parts t d.u d.u')) (λ t. bit (parts t d.v d.v')) xs) few
      where
        by_sums : (a b c d : ℕ) → a ≡ c → b ≡ d → c < d → a < b
        by_sums a b c d p q l = omega arith

    table : (a b c d : Bool) → bit ((a && not b) || (not a && b)) + bit ((c && not d) || (not c && d)) < bit ((a && not c) || (not a && c)) + bit ((b && not d) || (not b && d)) → (a ≡ b) × (c ≡ d) × (a ≡ not c)
    table a b c d l = grind arith
