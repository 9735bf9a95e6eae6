-- The marriage theorem: if there are as many partners as members, the pairs that Hall's condition
-- gives are a perfect matching of the two sets. Conversely a perfect matching matches a set on one
-- side into its neighbours.
use Rattle.tree_check.proofs.from_counting.Common.{◌≡◌, ℕ, ◌≤◌, Bool, true, false, ◌==◌, ◌&&◌, ◌||◌, not, refl, sym, ap, ◌∙◌, arith, eq-eqb, eqb-true, ◌↔◌, inl, inr, and_from, and_implied, and_parts, both_ways, not-true, or_cases, or_left, or_right, same_tests, some_congr, some_true, true_some, count_congr, count_mono, Within, count, some, Set, complement, meet, none, singleton, union}
use Rattle.barrier_kit.proofs.Common.{hits, neighbours, perfect_congr}
use Rattle.graph_core.proofs.Common.{adjacent-edge, Graph, HasPerfect, IsGraph, IsMultigraph, IsPerfect, IsSide, adjacent, has_ends, size}
use Rattle.quick_kinds.proofs.from_matching_digraph.Balance.{other_side, side_count}
use Rattle.theorems.proofs.BrickFacts.{turned_cut}
use Rattle.theorems.proofs.HallMatchings.{near_beside}
use Rattle.theorems.proofs.Neighbourhoods.{near_count}
use Rattle.theorems.proofs.Partners.{beside, matched_pairs, own_paired, paired, paired_cases, partner_paired, picks}
use Rattle.theorems.specs.Braces.{neighbourhood}

module _ (g : Graph) (l r : Set) (is : IsGraph g) (apart : (v : ℕ) → l v ≡ true → r v ≡ true → ⊥) (as_many : count g.order l ≡ count g.order r)
    (enough : (z : Set) → count g.order (meet z l) ≤ count g.order (neighbours g.order (beside g) r (meet z l))) where
  -- as many members as others: each of these is a partner
  cover : (v : ℕ) → Within g.order v → paired g l r is apart enough v ≡ union l r v
  cover v w = same_tests (paired g l r is apart enough v) (union l r v) there back
    where
      there : paired g l r is apart enough v ≡ true → union l r v ≡ true
      there h = elim (paired_cases g l r is apart enough v h) [
        | inl t ↦ or_left (l v) (r v) t
        | inr t ↦ or_right (l v) (r v) t
      ]

      back : union l r v ≡ true → paired g l r is apart enough v ≡ true
      back h = elim (or_cases (l v) (r v) h) [
        | inl t ↦ own_paired g l r is apart enough v w t
        | inr t ↦
            let k = hits g.order (beside g) l r (picks g l r is apart enough) as_many v w t in
            ap (paired g l r is apart enough) (sym k.3) ∙ partner_paired g l r is apart enough k.0 k.1 k.2
      ]

  pub matched_sides : HasPerfect g (complement (union l r))
  matched_sides =
      let m = matched_pairs g l r is apart enough in
      (m.0, perfect_congr g (complement (paired g l r is apart enough)) (complement (union l r)) m.0 (λ v w. ap not (cover v w)) m.1)

module _ (g : Graph) (a : Set) (is : IsMultigraph g) (two : IsSide g a) where
  -- what a set has past the last vertex plays no part
  module _ (s : Set) (sub : (v : ℕ) → Within g.order v → s v ≡ true → a v ≡ true) where
    pub within_side : (v : ℕ) → meet a s v ≡ true → a v ≡ true
    within_side v h = (and_parts (a v) (s v) h).0

    pub same_part : (v : ℕ) → Within g.order v → meet a s v ≡ s v
    same_part v w = and_implied (a v) (s v) (sub v w)

    pub same_count : count g.order (meet a s) ≡ count g.order s
    same_count = count_congr g.order _ _ same_part

    pub same_near : count g.order (neighbourhood g (meet a s)) ≡ count g.order (neighbourhood g s)
    same_near = count_congr g.order _ _ (λ v w. some_congr g.order _ _ (λ u x. ap (λ k. k && adjacent g none u v) (same_part u x)))

    into_near : (m : Set) → IsPerfect g none m → count g.order s ≤ count g.order (neighbourhood g s)
    into_near m p =
        let n = near_count g is a two (meet a s) within_side m p in
        let c = same_count in
        let d = same_near in omega arith

  sides_alike : (m : Set) → IsPerfect g none m → count g.order a ≡ count g.order (complement a)
  sides_alike m p =
      let i = side_count g is.ends a a m two (λ v h. h) p in
      let j = side_count g is.ends (complement a) (complement a) m (other_side g is.ends a two) (λ v h. h) p in
      let c = turned_cut g m a in omega arith

  pub marriage : HasPerfect g none ↔ ((count g.order a ≡ count g.order (complement a)) × ((s : Set) → ((v : ℕ) → Within g.order v → s v ≡ true → a v ≡ true) → count g.order s ≤ count g.order (neighbourhood g s)))
  marriage = (
    (λ m. (sides_alike m.0 m.1, λ s sub. into_near s sub m.0 m.1)),
    (λ h. let m = matched_sides g a (complement a) is.ends (λ v i j. both_ways (a v) (not-true (a v) j) i) h.0 (λ z.
        let sub : (v : ℕ) → meet z a v ≡ true → a v ≡ true = λ v i. (and_parts (z v) (a v) i).1 in
        let few = h.1 (meet z a) (λ v w. sub v) in
        let more = count_mono g.order (neighbourhood g (meet z a)) (neighbours g.order (beside g) (complement a) (meet z a)) (near_beside g a is two (meet z a) sub) in omega arith) in
        (m.0, perfect_congr g (complement (union a (complement a))) none m.0 (λ v w. all (a v)) m.1)),
  )
    where
      all : (b : Bool) → not (b || not b) ≡ false
      all true = refl
      all false = refl
