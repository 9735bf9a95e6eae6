-- A stage that holds every edge and meets every vertex has the walks and the perfect matchings of
-- the graph itself, so it is matching covered exactly when the graph is. An ear list leads to
-- such a stage if no vertex is isolated.
use Rattle.graph_core.proofs.from_counting.Common.{◌≡◌, ℕ, true, not, ◌==◌, List, [], ◌∷◌, refl, sym, ap, ◌∙◌, arith, rules, and_from, and_parts, true≢false, some_true, true_some, Within, Set, everything, none, singleton}
use Rattle.graph_core.proofs.Common.{degree_congr, IsCovered, Graph, IsMultigraph, has_ends, size, Joined, Walk, adjacent}
use Rattle.ear_core.proofs.Stepping.{covered-allowed, covered-edge}
use Rattle.ear_core.specs.Common.{AreSteps, IsEarList, PlainEars, PlainStep, next_stage, IsStage, adjacent_by, is_met}

-- each edge of g is in f
abbrev pub HoldsEdges : Graph → Set → Type 0
HoldsEdges g f = (e : ℕ) → Within (size g) e → f e ≡ true

module _ (g : Graph) (f : Set) (edges : HoldsEdges g f) where
  walk-of_graph : (u : ℕ) (ws : List ℕ) (v : ℕ) → Walk (adjacent_by g f) u ws v → Walk (adjacent g none) u ws v
  walk-of_graph u [] v walk = walk
  walk-of_graph u (x ∷ ws) v walk = grind (arith, some_true (size g), true_some (size g) (has_ends g u x), and_parts, walk-of_graph x ws v walk.1)

  walk-of_stage : (u : ℕ) (ws : List ℕ) (v : ℕ) → Walk (adjacent g none) u ws v → Walk (adjacent_by g f) u ws v
  walk-of_stage u [] v walk = walk
  walk-of_stage u (x ∷ ws) v walk = search (rules, some_true (size g) (has_ends g u x) walk.0, true_some (size g), and_from, walk-of_stage x ws v walk.1)

  module _ (is : IsMultigraph g) (vertices : (v : ℕ) → Within g.order v → is_met g f v ≡ true) where
    pub stage-covered : IsStage g f → IsCovered g
    unfolding Joined
    stage-covered stage = record {
      two = let e = stage.some_edge in let ends = is.ends e.0 e.1 in let a = ends.0 in let b = ends.1 in let differ = is.no_loop e.0 e.1 in omega arith;
      connected = λ u v wu wv. let walk = stage.connected u v wu wv (vertices u wu) (vertices v wv) in (walk.0, walk-of_graph u walk.0 v walk.1);
      allowed = λ e w differ. let m = stage.allowed e w (edges e w) in
          (m.0, record { once = λ v wv outside. m.1.once v wv (vertices v wv); away = λ v wv removed. absurd (true≢false (sym removed)) }, m.2);
    }

  pub covered-stage : IsMultigraph g → IsCovered g → IsStage g f
  unfolding Joined
  covered-stage is covered = record {
    some_edge = let w = covered-edge g is covered in (1, w, edges 1 w);
    connected = λ u v wu wv tu tv. let walk = covered.connected u v wu wv in (walk.0, walk-of_stage u walk.0 v walk.1);
    allowed = λ e w held. let m = covered-allowed g is covered e w in
        (m.0, record { part = λ d wd h. edges d wd; once = λ v wv met. m.1.once v wv refl }, m.2);
  }

-- steps lead to a stage of all edges
last-stage : (g : Graph) (f : Set) (steps : List PlainStep) → IsStage g f → AreSteps g f steps → (l : Set) × IsStage g l × HoldsEdges g l
last-stage g f [] stage all = (f, stage, all)
last-stage g f (s ∷ steps) stage are = last-stage g (next_stage f s) steps are.1 are.2

pub listed-covered : (g : Graph) (list : PlainEars) → IsMultigraph g → IsEarList g list → ((v : ℕ) → Within g.order v → is_met g everything v ≡ true) → IsCovered g
listed-covered g list is ears met =
    let last = last-stage g (singleton list.start) list.steps ears.first_stage ears.steps in
    stage-covered g last.0 last.2 is (λ v w. ap (λ k. not (k == 0)) (degree_congr g last.0 everything v last.2) ∙ met v w) last.1
