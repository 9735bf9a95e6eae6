-- One edge is a stage: its two ends are joined, and it is itself the perfect matching. And the
-- edges of steps that are taken are more and more: each step adds one.
use Rattle.graph_core.proofs.from_counting.Common.{◌≡◌, ℕ, ◌+◌, ◌≤◌, true, ◌==◌, refl, sym, ap, ◌∙◌, arith, ◌&&◌, eq-eqb, ne_eqb, eqb-true, ◌⊎◌, inl, inr, [], ◌∷◌, List, length, cases_eq, and_from, true≢false, or_left, or_right, or_cases, count_more, true_some, at_le_total, bit, count, Within, is_odd, mem, Set, singleton}
use Rattle.graph_core.proofs.Common.{degree_congr, ends_of, has_ends-own, has_ends-back, Graph, size, first_end, second_end, degree, has_ends, IsMultigraph}
use Rattle.ear_core.proofs.TraceEdges.{list_ends, mem_degree, met-some, edges-within}
use Rattle.ear_core.specs.Common.{PlainStep, next_stage, IsStep, IsEar, is_met, adjacent_by, IsStage, with_edges}

module _ (g : Graph) (is : IsMultigraph g) (e1 : ℕ) (w1 : Within (size g) e1) where
  one-degree : (v : ℕ) → degree g (singleton e1) v ≡ bit (first_end g e1 == v) + bit (second_end g e1 == v)
  unfolding ends_of list_ends
  one-degree v = grind (arith, degree_congr g (singleton e1) (mem (e1 ∷ [])) v, mem_degree g (e1 ∷ []) v, or_cases, eqb-true e1, true≢false)

  pub one-ends : (v : ℕ) → is_met g (singleton e1) v ≡ true → (first_end g e1 ≡ v) ⊎ (second_end g e1 ≡ v)
  one-ends v t = grind (arith, met-some g (singleton e1) v t, one-degree v, cases_eq (first_end g e1) v, cases_eq (second_end g e1) v, ne_eqb (first_end g e1) v, ne_eqb (second_end g e1) v)

  one-once : (v : ℕ) → is_met g (singleton e1) v ≡ true → degree g (singleton e1) v ≡ 1
  one-once v t = grind (arith, one-degree v, one-ends v t, eq-eqb (first_end g e1) v, ne_eqb (second_end g e1) v, eq-eqb (second_end g e1) v, ne_eqb (first_end g e1) v)

  step_on : adjacent_by g (singleton e1) (first_end g e1) (second_end g e1) ≡ true
  step_on = true_some (size g) (λ e. (e1 == e) && has_ends g (first_end g e1) (second_end g e1) e) e1 w1 (and_from (e1 == e1) _ (eq-eqb e1 e1 refl) (has_ends-own g e1))

  step_back : adjacent_by g (singleton e1) (second_end g e1) (first_end g e1) ≡ true
  step_back = true_some (size g) (λ e. (e1 == e) && has_ends g (second_end g e1) (first_end g e1) e) e1 w1 (and_from (e1 == e1) _ (eq-eqb e1 e1 refl) (has_ends-back g (first_end g e1) (second_end g e1) e1 (has_ends-own g e1)))

  -- a single edge is a stage
  pub first-stage : IsStage g (singleton e1)
  first-stage = record {
    some_edge = (e1, w1, eq-eqb e1 e1 refl);
    connected = λ u v wu wv tu tv. elim (one-ends u tu) [
      | inl i ↦ elim (one-ends v tv) [
        | inl j ↦ ([], sym i ∙ j)
        | inr j ↦ (second_end g e1 ∷ [], (ap (λ k. adjacent_by g (singleton e1) k (second_end g e1)) (sym i) ∙ step_on, j))
      ]
      | inr i ↦ elim (one-ends v tv) [
        | inl j ↦ (first_end g e1 ∷ [], (ap (λ k. adjacent_by g (singleton e1) k (first_end g e1)) (sym i) ∙ step_back, j))
        | inr j ↦ ([], sym i ∙ j)
      ]
    ];
    allowed = λ e w t. (singleton e1, record { part = λ d wd h. h; once = λ v wv tv. one-once v tv }, t);
  }

-- a stage has an edge
pub stage-counts : (g : Graph) (f : Set) → IsStage g f → 1 ≤ count (size g) f
stage-counts g f stage =
    let e = stage.some_edge in
    let a = at_le_total (size g) (λ d. bit (f d)) e.0 e.1 in
    let b = ap bit e.2 in omega arith

an_edge : (es : List ℕ) → is_odd (length es) ≡ true → (e : ℕ) × (mem es e ≡ true)
an_edge [] o = absurd (true≢false (sym o))
an_edge (e ∷ es) o = (e, or_left (e == e) (mem es e) (eq-eqb e e refl))

-- an ear adds an edge
pub ear-adds : (g : Graph) (f : Set) (v : ℕ) (es : List ℕ) → IsEar g f v es → count (size g) f + 1 ≤ count (size g) (with_edges f es)
ear-adds g f v es ear = grind (arith, an_edge es ear.odd, count_more (size g) f (with_edges f es), or_left, edges-within g v es ear.follow, or_right)

-- and so does a step
pub step-adds : (g : Graph) (f : Set) (s : PlainStep) → IsStep g f s → count (size g) f + 1 ≤ count (size g) (next_stage f s)
step-adds g f s ear = grind (arith, ear-adds g f, an_edge, count_more (size g) f, or_left, edges-within g, or_right)
