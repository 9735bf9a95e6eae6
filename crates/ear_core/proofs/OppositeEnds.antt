-- Two vertices on opposite sides of a stage whose edges all cross between the sides serve.
-- Idea: the stage as a graph of its own is matching covered and bipartite, so it has a perfect
-- matching without the two.
use Rattle.graph_core.proofs.from_counting.Common.{◌≡◌, ℕ, Bool, true, false, ◌==◌, refl, ap, sym, ◌∙◌, arith, ◌&&◌, not, eq-eqb, eqb-true, and_from, and_parts, cases_Bool, or_comm, same_tests, rank_once, some_true, true_some, Within, count, Set, pair_set, some}
use Rattle.two_ears.proofs.from_barrier_kit.Common.{perfect_congr}
use Rattle.graph_core.proofs.Common.{IsSide, Graph, IsGraph, in_cut, size, HasPerfect}
use Rattle.ear_core.proofs.EngineGraphs.{ends-met}
use Rattle.ear_core.proofs.NextStages.{met-within}
use Rattle.ear_core.proofs.RankedStages.{first_end-ranked, off-loop, rank-test, rank-within, ranked-covered, ranked-graph, ranked-off, second_end-ranked, size-ranked, stage_graph}
use Rattle.ear_core.specs.Common.{Serves, IsStage, is_met}
use Rattle.two_ears.proofs.OppositeSides.{opposite}

module _ (g : Graph) (is : IsGraph g) (f a : Set) (sides : (e : ℕ) → Within (size g) e → f e ≡ true → in_cut g a e ≡ true) where
  abbrev t : Set
  t = is_met g f

  -- the side by rank
  by_rank : Set
  by_rank k = some g.order (λ v. (t v && a v) && (count v t == k))

  rank_side : (v : ℕ) → Within g.order v → t v ≡ true → by_rank (count v t) ≡ a v
  unfolding by_rank
  rank_side v w tv = same_tests (by_rank (count v t)) (a v)
      (λ h. let u = some_true g.order (λ u. (t u && a u) && (count u t == count v t)) h in
      let b = and_parts (t u.0 && a u.0) (count u.0 t == count v t) u.2 in
      let c = and_parts (t u.0) (a u.0) b.0 in ap a (sym (rank_once t u.0 v c.0 tv (eqb-true (count u.0 t) (count v t) b.1))) ∙ c.1)
      (λ h. true_some g.order (λ u. (t u && a u) && (count u t == count v t)) v w (and_from (t v && a v) (count v t == count v t) (and_from (t v) (a v) tv h) (eq-eqb (count v t) (count v t) refl)))

  stage_sides : IsSide (stage_graph g f) by_rank
  stage_sides e we d = grind (arith, size-ranked, size, cases_Bool, off-loop, ends-met, first_end-ranked, rank_side, second_end-ranked)

  module _ (s : IsStage g f) where
    -- without two vertices on opposite sides
    opposite-served : (v z : ℕ) → t v ≡ true → t z ≡ true → a v ≡ true → a z ≡ false → HasPerfect (stage_graph g f) (pair_set (count v t) (count z t))
    opposite-served v z tv tz hv hz =
        let wv = met-within g is f v tv in
        let wz = met-within g is f z tz in
        opposite (stage_graph g f) (ranked-graph g is f s) (ranked-covered g is f s) by_rank stage_sides (count v t) (count z t) (rank-within g.order t v wv tv) (rank-within g.order t z wz tz)
        (rank_side v wv tv ∙ hv) (rank_side z wz tz ∙ hz)

    served : (v z : ℕ) → t v ≡ true → t z ≡ true → a z ≡ not (a v) → (b : Bool) → a v ≡ b → HasPerfect (stage_graph g f) (pair_set (count v t) (count z t))
    served v z tv tz e b h = grind (arith, opposite-served, perfect_congr, stage_graph, or_comm)

    pub opposite-serve : (v z : ℕ) → t v ≡ true → t z ≡ true → a z ≡ not (a v) → Serves g f (pair_set v z)
    opposite-serve v z tv tz e = grind (arith, served v z tv tz e (a v) refl, ranked-off g is f (pair_set v z) (pair_set (count v t) (count z t)), rank-test t v, rank-test t z, ranked-graph g is f s)
