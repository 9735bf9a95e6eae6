-- The rest of a graph off a stage. The even edges of an ear meet its inner vertices alone, so with
-- a perfect matching off the new stage they are one off the stage before; at the last stage nothing
-- is left.
use Rattle.graph_core.proofs.from_counting.Common.{◌≡◌, ℕ, true, false, ◌==◌, not, refl, sym, ap, ◌∙◌, arith, eq-eqb, List, [], ◌∷◌, both_ways, cases_Bool, false_from_ne_true, true≢false, Within, Set, everything, none, union}
use Rattle.graph_core.proofs.Common.{degree_congr, ends_le_degree, ends_of, IsCovered, Graph, IsGraph, IsMultigraph, degree, first_end, size, HasPerfect, IsPerfect}
use Rattle.ear_core.proofs.AddedEars.{even_on}
use Rattle.ear_core.proofs.EngineGraphs.{ends-met}
use Rattle.ear_core.proofs.NextStages.{second_ear}
use Rattle.ear_core.proofs.Stepping.{covered-perfect, still-met}
use Rattle.ear_core.proofs.TraceEdges.{degree_le, degree_or, some-met, unmet, zero_degree}
use Rattle.ear_core.specs.Common.{AreSteps, IsStep, PlainStep, next_stage, one, two, IsEar, evens, IsPerfectOff, is_met, with_edges}

-- an edge of q has no end that q leaves out
pub edge-away : (g : Graph) (q : Set) (e : ℕ) → Within (size g) e → q e ≡ true → degree g q (first_end g e) ≡ 0 → ⊥
unfolding ends_of
edge-away g q e w t o = grind (arith, ends_le_degree g q e (first_end g e) w t, eq-eqb (first_end g e) (first_end g e) refl)

module _ (g : Graph) (is : IsGraph g) where
  module _ (h r p q : Set) (on : (w : ℕ) → r w ≡ true → is_met g h w ≡ true) (inside : IsPerfectOff g h r p) (rest : IsPerfect g (is_met g h) q) where
    pub apart-rest : (e : ℕ) → Within (size g) e → h e ≡ true → q e ≡ false
    apart-rest e w t = false_from_ne_true (q e) (λ i. edge-away g q e w i (rest.away (first_end g e) (is e w).0 (ends-met g h e w t).0))

    -- a perfect matching of h without r, with one of g off h
    pub filled : IsPerfect g r (union p q)
    filled = grind (arith, cases_Bool, unmet g h, degree_le g p h, degree_or g p q, apart-rest)

  -- the rest before an ear
  rest-ear : (f : Set) (v : ℕ) (es : List ℕ) → IsEar g f v es → HasPerfect g (is_met g (with_edges f es)) → HasPerfect g (is_met g f)
  rest-ear f v es ear rest = (
    union (with_edges none (evens es)) rest.0,
    filled (with_edges f es) (is_met g f) (with_edges none (evens es)) rest.0 (λ w t. still-met g f es w t) (even_on g f v es ear (is_met g f) none (λ w ww t. t) nothing) rest.1,
  )
    where
      nothing : IsPerfectOff g f (is_met g f) none
      nothing = record { part = λ e w t. absurd (true≢false (sym t)); once = λ w ww t o. absurd (both_ways (is_met g f w) o t); away = λ w ww t. zero_degree g w }

  rest-step : (f : Set) (s : PlainStep) → IsStep g f s → HasPerfect g (is_met g (next_stage f s)) → HasPerfect g (is_met g f)
  rest-step f (one a) ear rest = rest-ear f a.begin a.edges ear rest
  rest-step f (two a b) pair rest = rest-ear f a.begin a.edges pair.first (rest-ear (with_edges f a.edges) b.begin b.edges (second_ear g f a.begin a.edges b.begin b.edges pair) rest)

  -- steps to all edges leave a rest with a perfect matching
  pub rest-perfect : ((v : ℕ) → Within g.order v → is_met g everything v ≡ true) → (f : Set) (steps : List PlainStep) → AreSteps g f steps → HasPerfect g (is_met g f)
  rest-perfect meets f [] all =
      (none, record { once = λ w ww o. absurd (both_ways (is_met g f w) o (ap (λ k. not (k == 0)) (degree_congr g f everything w all) ∙ meets w ww)); away = λ w ww t. zero_degree g w })
  rest-perfect meets f (s ∷ steps) are = rest-step f s are.0 (rest-perfect meets (next_stage f s) steps are.2)

-- each vertex of a covered graph is at an edge
pub covered-meets : (g : Graph) → IsMultigraph g → IsCovered g → (v : ℕ) → Within g.order v → is_met g everything v ≡ true
covered-meets g is cov v w =
    let m = covered-perfect g is cov in
    let a = m.1.once v w refl in
    let b = degree_le g m.0 everything v (λ e we t. refl) in some-met g everything v (omega arith)
