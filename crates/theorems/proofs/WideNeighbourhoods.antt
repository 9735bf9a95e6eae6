-- A bipartite covered graph has no nontrivial tight cut if and only if its small sets on a side
-- have two neighbours more than vertices. A set with one neighbour more is with its neighbours a
-- tight shore; and a nontrivial tight shore gives such a set.
use Rattle.tree_check.proofs.from_counting.Common.{◌≡◌, ℕ, ◌+◌, ◌≤◌, true, ◌&&◌, not, sym, ap, ◌∙◌, arith, ◌↔◌, inl, inr, and_from, and_parts, cases_lt, not-true, count_congr, and_implied, count_member, two_members, two_of, odd_three, count_mono, count_split, some_congr, Within, count, Set, complement, meet, minus, none, union}
use Rattle.graph_core.proofs.Common.{IsSide, IsCovered, Graph, IsMultigraph, HasOnlyTrivialTightCuts, IsTight, adjacent, tight_from_cut, covered_perfect}
use Rattle.theorems.proofs.Neighbourhoods.{both_count, ends_cross, leaning, near_count, near_out, neighbour_edge, surplus}
use Rattle.theorems.specs.Braces.{HasWideNeighbourhoods, neighbourhood}

module _ (g : Graph) (is : IsMultigraph g) (cov : IsCovered g) (a : Set) (two : IsSide g a) where
  -- two vertices of the side outside a small set
  two_left : (s : Set) → ((v : ℕ) → s v ≡ true → a v ≡ true) → count g.order s + 2 ≤ count g.order a → 2 ≤ count g.order (minus a s)
  two_left s sub small =
      let c = count_split g.order a s in
      let d : count g.order (meet a s) ≡ count g.order s = count_congr g.order _ _ (λ v w. and_implied (a v) (s v) (sub v)) in omega arith

  two_more : HasOnlyTrivialTightCuts g → (s : Set) → ((v : ℕ) → s v ≡ true → a v ≡ true) → 1 ≤ count g.order s → count g.order s + 2 ≤ count g.order a → count g.order s + 2 ≤ count g.order (neighbourhood g s)
  two_more none_tight s sub some small = elim (cases_lt (count g.order s + 1) (count g.order (neighbourhood g s))) [
    | inl l ↦ omega arith
    | inr l ↦
        let u = count_member g.order s (omega arith) in
        let p = two_of g.order (minus a s) (two_left s sub small) in
        let q = and_parts (a p.0) (not (s p.0)) p.5 in
        let r = and_parts (a p.1) (not (s p.1)) p.6 in
        let out0 = near_out g is a two s sub p.0 q.0 (not-true (s p.0) q.1) in
        let out1 = near_out g is a two s sub p.1 r.0 (not-true (s p.1) r.1) in
        let k = surplus g is a two s sub cov u.0 p.0 u.1 p.2 u.2 q.0 (not-true (s p.0) q.1) in
        let m = covered_perfect g is.ends cov in
        let t : IsTight g (union s (neighbourhood g s)) = tight_from_cut g (union s (neighbourhood g s)) m.0 is.ends m.1 (λ i pi. let c = near_count g is a two s sub i pi in omega arith) in
        let b = both_count g is a two s sub in
        absurd (none_tight (union s (neighbourhood g s)) t (record {
          inside = omega arith;
          outside = odd_three _ t.odd_complement (two_members g.order (complement (union s (neighbourhood g s))) p.0 p.1 p.2 p.3 p.4 (ap not out0) (ap not out1));
        }))
  ]

  -- what a set has past the last vertex plays no part
  wide : HasOnlyTrivialTightCuts g → HasWideNeighbourhoods g a
  wide none_tight s sub some small =
      let same : (v : ℕ) → Within g.order v → meet a s v ≡ s v = λ v w. and_implied (a v) (s v) (sub v w) in
      let c : count g.order (meet a s) ≡ count g.order s = count_congr g.order _ _ same in
      let d : count g.order (neighbourhood g (meet a s)) ≡ count g.order (neighbourhood g s) = count_congr g.order _ _ (λ v w. some_congr g.order _ _ (λ u x. ap (λ k. k && adjacent g none u v) (same u x))) in
      let t = two_more none_tight (meet a s) (λ v h. (and_parts (a v) (s v) h).0) (omega arith) (omega arith) in omega arith

  narrow : HasWideNeighbourhoods g a → HasOnlyTrivialTightCuts g
  narrow wide x t nontrivial =
      let z = leaning g is a two cov x t nontrivial in
      let l = z.1 in
      let more = l.more in
      let few = count_mono g.order (neighbourhood g (meet z.0 a)) (minus z.0 a) (λ v w h.
      let e = neighbour_edge g (meet z.0 a) v h in
      let p = and_parts (z.0 e.0) (a e.0) e.3 in
      and_from (z.0 v) (not (a v)) (l.closed e.0 v e.1 e.4 e.5 p.0 p.1) (sym (ends_cross g is a two e.0 v e.1 e.4 e.5) ∙ p.1)) in
      let many = wide (meet z.0 a) (λ v w h. (and_parts (z.0 v) (a v) h).1) l.some_in l.some_out in absurd (omega arith)

  pub wide_or_tight : HasOnlyTrivialTightCuts g ↔ HasWideNeighbourhoods g a
  wide_or_tight = (wide, narrow)
