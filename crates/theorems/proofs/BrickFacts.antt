-- A graph is a brick if and only if it has four vertices, is bicritical and has no cut pair. Each
-- edge of a bicritical graph is in a perfect matching; two vertices of one side of a bipartite
-- graph leave the sides unequal.
use Rattle.tree_check.proofs.from_counting.Common.{◌≡◌, ℕ, ◌≤◌, Bool, true, ◌==◌, ◌&&◌, not, sym, ap, ◌∙◌, arith, eqb-true, ◌↔◌, inl, inr, or_cases, apart_denied, count_complement, count_congr, two_of, total_congr, total_none, bit, count, Set, complement, minus, none, pair_set}
use Rattle.barrier_kit.proofs.Common.{two_less, no_sides}
use Rattle.graph_core.proofs.Common.{IsSide, IsCovered, Graph, IsBipartite, IsMultigraph, edges_in_cut, first_end, second_end, size, IsBicritical, IsCutPair, HasOnlyTrivialTightCuts, degrees}
use Rattle.quick_kinds.proofs.from_brick_kit.Bricks.{no_shore}
use Rattle.quick_kinds.proofs.from_matching_digraph.Balance.{equal_sides, no_inner, other_side}
use Rattle.separation_kit.proofs.CutPairs.{brick_facts}
use Rattle.theorems.proofs.AddedEdges.{allowed_from, degrees_outside}
use Rattle.theorems.proofs.ThreeConnected.{pair_or_three}
use Rattle.theorems.specs.Bricks.{IsThreeConnected}

-- the complement has the same cut
pub turned_cut : (g : Graph) (m x : Set) → edges_in_cut g m (complement x) ≡ edges_in_cut g m x
turned_cut g m x = total_congr (size g) _ _ (λ e w. ap bit (apart_denied (m e) (x (first_end g e)) (x (second_end g e))))

module _ (g : Graph) (is : IsMultigraph g) (bi : IsBicritical g) where
  -- a bicritical graph that is connected and has two vertices is covered
  covered : IsThreeConnected g → IsCovered g
  covered three = grind (arith, none, count, total_none, allowed_from, first_end, second_end)

  -- a covered bicritical graph with four vertices is not bipartite
  not_bipartite : IsCovered g → 4 ≤ g.order → IsBipartite g → ⊥
  not_bipartite cov four sides =
      let x : Set = sides.0 in
      let two : IsSide g x = λ e w d. sides.1 e w in
      let half = equal_sides g is.ends x two cov in
      let all = count_complement g.order x in
      let p = two_of g.order x (omega arith) in
      let m = bi p.0 p.1 p.2 p.3 p.4 in
      let r : Set = pair_set p.0 p.1 in
      let a = degrees g is.ends m.0 x in
      let b = degrees g is.ends m.0 (complement x) in
      let c = no_inner g is.ends x x r m.0 two (λ v h. h) m.1 in
      let d = no_inner g is.ends (complement x) (complement x) r m.0 (other_side g is.ends x two) (λ v h. h) m.1 in
      let e = degrees_outside g r m.0 x m.1 in
      let f = degrees_outside g r m.0 (complement x) m.1 in
      let h = turned_cut g m.0 x in
      let i = two_less g.order x p.0 p.1 p.2 p.3 p.4 p.5 p.6 in
      let j : count g.order (minus (complement x) r) ≡ count g.order (complement x) = count_congr g.order _ _ (λ v w. outside (x v) (r v) (λ t. elim (or_cases (p.0 == v) (p.1 == v) t) [
        | inl k ↦ ap x (sym (eqb-true p.0 v k)) ∙ p.5
        | inr k ↦ ap x (sym (eqb-true p.1 v k)) ∙ p.6
      ])) in
      omega arith
    where
      outside : (s t : Bool) → (t ≡ true → s ≡ true) → (not s && not t) ≡ not s
      outside s t h = grind arith

pub brick_facts_of : (g : Graph) → IsMultigraph g → IsCovered g → (IsBipartite g → ⊥) → HasOnlyTrivialTightCuts g → (4 ≤ g.order) × IsBicritical g × ((u v : ℕ) → IsCutPair g u v → ⊥)
brick_facts_of g is cov odd none = let f = brick_facts g is.ends cov (no_sides g is.no_loop odd) none in (f.0, f.1, λ u v p. f.2 u v p.first p.second p)

pub brick_from : (g : Graph) → IsMultigraph g → 4 ≤ g.order → IsBicritical g → ((u v : ℕ) → IsCutPair g u v → ⊥) → IsCovered g × (IsBipartite g → ⊥) × HasOnlyTrivialTightCuts g
brick_from g is four bi no_pair = grind (arith, covered, pair_or_three, not_bipartite, no_shore g is.ends)

-- a brick, by 3-connectedness
pub three_brick : (g : Graph) → IsMultigraph g → (IsCovered g × (IsBipartite g → ⊥) × HasOnlyTrivialTightCuts g) ↔ (IsThreeConnected g × IsBicritical g)
three_brick g is = grind (arith, brick_facts_of, pair_or_three, brick_from)
