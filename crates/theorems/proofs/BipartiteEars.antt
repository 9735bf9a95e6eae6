-- A bipartite graph of which each vertex is at an edge is matching covered if and only if single
-- ears lead from an edge to all edges. An ear is odd, so its ends are on opposite sides and serve.
use Rattle.tree_check.proofs.from_counting.Common.{◌≡◌, ℕ, true, not, ◌==◌, ap, ◌∙◌, List, [], ◌∷◌, ◌↔◌, AllByRecursion, Within, Set, everything, singleton}
use Rattle.ear_text.proofs.from_ear_core.BipartiteStages.{last_vertex-side}
use Rattle.ear_text.proofs.from_ear_core.FirstStage.{first-stage}
use Rattle.ear_text.proofs.from_ear_core.Rests.{covered-meets}
use Rattle.ear_text.proofs.from_ear_core.Stepping.{covered-edge}
use Rattle.ear_text.proofs.from_ear_core.WholeStages.{stage-covered}
use Rattle.ear_text.specs.from_ear_core.Common.{AreSteps, IsSingle, IsStage, PlainEar, PlainStep, is_met, one, two, with_edges}
use Rattle.graph_core.proofs.Common.{degree_congr, Graph, IsCovered, IsMultigraph, IsSide, in_cut, size}
use Rattle.theorems.proofs.EarSteps.{ear-list-exists}
use Rattle.theorems.proofs.HetyeiEars.{opposite-ends}
use Rattle.theorems.specs.Bipartite.{AreEarsInTurn}

module _ (g : Graph) (a : Set) (is : IsMultigraph g) (side : IsSide g a) where
  crosses : (e : ℕ) → Within (size g) e → in_cut g a e ≡ true
  crosses e w = side e w (is.no_loop e w)

  -- single steps as ears
  ears_of : (f : Set) (steps : List PlainStep) → AreSteps g f steps → AllByRecursion IsSingle steps → (ears : List PlainEar) × AreEarsInTurn g f ears
  ears_of f [] all single = ([], all)
  ears_of f (one b ∷ steps) are single = let r = ears_of (with_edges f b.edges) steps are.2 single.1 in (b ∷ r.0, (are.0, r.1))
  ears_of f (two b c ∷ steps) are single = absurd single.0

  -- ears keep a stage matching covered
  stage_after : (f : Set) (ears : List PlainEar) → IsStage g f → AreEarsInTurn g f ears → (h : Set) × IsStage g h × ((e : ℕ) → Within (size g) e → h e ≡ true)
  stage_after f [] stage all = (f, stage, all)
  stage_after f (b ∷ ears) stage are =
      let ear = are.0 in
      let far = last_vertex-side g a crosses b.begin b.edges ear.follow ear.odd in
      stage_after (with_edges f b.edges) ears (opposite-ends g f a b.begin b.edges is.ends stage (λ e w h. crosses e w) ear far) are.1

  pub by_ears : IsCovered g ↔ ((e : ℕ) × (ears : List PlainEar) × Within (size g) e × AreEarsInTurn g (singleton e) ears × ((v : ℕ) → Within g.order v → is_met g everything v ≡ true))
  by_ears = (
    (λ cov. let list = ear-list-exists g 1 is cov (covered-edge g is cov) in
        let ears = ears_of (singleton list.0.start) list.0.steps list.1.steps (list.4 (a, crosses)) in
        (list.0.start, ears.0, list.1.start, ears.1, covered-meets g is cov)),
    (λ h. let last = stage_after (singleton h.0) h.1 (first-stage g is h.0 h.2) h.3 in
        stage-covered g last.0 last.2 is (λ v w. ap (λ k. not (k == 0)) (degree_congr g last.0 everything v last.2) ∙ h.4 v w) last.1),
  )
