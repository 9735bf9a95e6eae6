-- From a conformal stage of a matching covered graph ears lead on to the whole graph: a perfect
-- matching of the stage and one of the rest are kept together.
use Rattle.tree_check.proofs.from_counting.Common.{◌≡◌, ℕ, ◌+◌, Bool, true, false, cond, ◌==◌, sym, arith, eq-eqb, inl, inr, List, subst, AllByRecursion, or_left, or_right, true≢false, count, Set, complement, none, union}
use Rattle.ear_text.proofs.from_ear_core.AddedEars.{but_none}
use Rattle.ear_text.proofs.from_ear_core.EngineGraphs.{ends-met}
use Rattle.ear_text.proofs.from_ear_core.Mates.{row-is}
use Rattle.ear_text.proofs.from_ear_core.Rests.{covered-meets, filled, rest-perfect}
use Rattle.ear_text.proofs.from_ear_core.Walking.{joins}
use Rattle.ear_text.specs.from_ear_core.Common.{AllowedBy, AreForced, AreNeeded, AreSteps, IsSingle, IsStage, KeepsMates, PlainStep, is_met, other_end, row_edge}
use Rattle.graph_core.proofs.Common.{edge_at, Graph, IsBipartite, IsCovered, IsMultigraph, IsPerfect, first_end, second_end, size}
use Rattle.match_core.proofs.MatchingEdges.{marked_matching}
use Rattle.theorems.proofs.EarPaths.{perfect-rows, rows-hold}
use Rattle.theorems.proofs.EarSteps.{steps-exist}
use Rattle.theorems.specs.Ears.{IsConformal}

module _ (g : Graph) (is : IsMultigraph g) (cov : IsCovered g) (f : Set) (stage : IsStage g f) (rest : IsConformal g f) where
  own : AllowedBy g f stage.some_edge.0
  own = stage.allowed stage.some_edge.0 stage.some_edge.1 stage.some_edge.2

  abbrev whole : Set
  whole = union own.0 rest.0

  perfect : IsPerfect g none whole
  perfect = filled g is.ends f none own.0 rest.0 (λ w t. absurd (true≢false (sym t))) (but_none g f own.0 own.1 is.ends) rest.1

  -- the mate of a vertex of the stage is on the stage
  keeps : KeepsMates g (row_edge (marked_matching g whole).rows) (is_met g f)
  keeps w ww t =
      let o = own.1.once w ww t in
      let e = edge_at g own.0 w (omega arith) in
      let h : joins g e.0 w ≡ true = elim e.3.1 [
        | inl q ↦ or_left (first_end g e.0 == w) (second_end g e.0 == w) (eq-eqb (first_end g e.0) w q.0)
        | inr q ↦ or_right (first_end g e.0 == w) (second_end g e.0 == w) (eq-eqb (second_end g e.0) w q.1)
      ] in
      let by = perfect-rows g whole perfect in
      let same = row-is g is.ends (marked_matching g whole) by w e.0 ww e.1 (rows-hold g whole e.0 e.1 (or_left (own.0 e.0) (rest.0 e.0) e.2)) h in
      let met = ends-met g f e.0 e.1 (own.1.part e.0 e.1 e.2) in
      subst (λ i. is_met g f (other_end g i w) ≡ true) same (either (first_end g e.0 == w) (first_end g e.0) (second_end g e.0) met.0 met.1)
    where
      either : (b : Bool) (x y : ℕ) → is_met g f x ≡ true → is_met g f y ≡ true → is_met g f (cond b y x) ≡ true
      either true x y h k = k
      either false x y h k = h

  pub conformal_goes_on : (steps : List PlainStep) × AreSteps g f steps × AreNeeded g f steps × (IsBipartite g → AllByRecursion IsSingle steps) × AreForced g f steps
  conformal_goes_on = steps-exist g is cov (marked_matching g whole) (perfect-rows g whole perfect) (count (size g) (complement f) + 1) f stage keeps (omega arith)

-- and only a conformal one does
pub goes_on_conformal : (g : Graph) (f : Set) (steps : List PlainStep) → IsMultigraph g → IsCovered g → AreSteps g f steps → IsConformal g f
goes_on_conformal g f steps is cov goes = rest-perfect g is.ends (covered-meets g is cov) f steps goes
