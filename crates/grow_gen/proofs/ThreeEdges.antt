-- The three edges at a vertex of a cubic graph. Idea: the marks of the edges at a vertex are a
-- list of three, and exactly one of them is true for a perfect matching.
use Rattle.graph_core.proofs.from_counting.Common.{◌≡◌, ℕ, ◌+◌, ◌<◌, Bool, true, false, cond, ◌==◌, List, [], ◌∷◌, length, filter, refl, sym, ap, ◌∙◌, arith, slice_index_or, Within, bit, Set, everything, none}
use Rattle.graph_core.proofs.Common.{Graph, size, degree, IsMultigraph, IsPerfect, IsCovered, degree_congr}
use Rattle.grow_gen.specs.Common.{IsCubic, is_at}
use Rattle.grow_gen.proofs.EdgeSums.{Each, sum_edges, ends_at, by_test, marks_from, marked, each-edge, edge-at_place, degree-marks, degree-marked, length-marks_from, length-marks_where, marked-marks_from}
use Rattle.grow_gen.proofs.Rehanging.{IsEdge, flags_at, not_at-ends, no_end}

-- how many are true
abbrev pub true_count : List Bool → ℕ
true_count [] = 0
true_count (b ∷ bs) = bit b + true_count bs

-- three marks of which that at place c alone is true
abbrev pub unit : ℕ → List Bool
unit c = (c == 0) ∷ (c == 1) ∷ (c == 2) ∷ []

-- the edges at w give the ends at w
pub true_count-flags : (n w : ℕ) (bs : List Bool) (es : List (ℕ × ℕ)) → Each (IsEdge n) es → length bs ≡ length es → true_count (flags_at w bs es) ≡ sum_edges (ends_at w) bs es
true_count-flags n w bs [] c l = refl
true_count-flags n w [] (e ∷ es) c l = absurd (omega arith)
true_count-flags n w (b ∷ bs) (e ∷ es) c l = by_test (is_at w e) (λ s. true_count (cond s (b ∷ flags_at w bs es) (flags_at w bs es)) ≡ ends_at w b e + sum_edges (ends_at w) bs es)
    (λ s. let h = true_count-flags n w bs es c.1 (omega arith) in let q = one_end s in omega (arith, h, q))
    (λ s. let h = true_count-flags n w bs es c.1 (omega arith) in let d = not_at-ends w e s in let x = no_end b e.0 w d.0 in let y = no_end b e.1 w d.1 in omega (arith, h, x, y))
  where
    one_end : is_at w e ≡ true → ends_at w b e ≡ bit b
    one_end s = grind arith

-- all edges at w are as many as there are
true_count-everything : (k w : ℕ) (es : List (ℕ × ℕ)) → true_count (flags_at w (marks_from k (length es) everything) es) ≡ length (filter (is_at w) es)
true_count-everything k w [] = refl
true_count-everything k w (e ∷ es) = by_test (is_at w e) (λ s. true_count (cond s (true ∷ flags_at w (marks_from (k + 1) (length es) everything) es) (flags_at w (marks_from (k + 1) (length es) everything) es)) ≡ length (cond s (e ∷ filter (is_at w) es) (filter (is_at w) es)))
    (λ s. let h = true_count-everything (k + 1) w es in omega arith)
    (λ s. true_count-everything (k + 1) w es)

pub three-items : {A : Type 0} (xs : List A) → length xs ≡ 3 → (a : A) × (b : A) × (c : A) × (xs ≡ a ∷ b ∷ c ∷ [])
three-items [] l = absurd (omega arith)
three-items (a ∷ []) l = absurd (omega arith)
three-items (a ∷ b ∷ []) l = absurd (omega arith)
three-items (a ∷ b ∷ c ∷ []) l = (a, b, c, refl)
three-items (a ∷ b ∷ c ∷ d ∷ xs) l = absurd (omega arith)

-- three of which one is true
pub unit-of_one : (a b c : Bool) → true_count (a ∷ b ∷ c ∷ []) ≡ 1 → (i : ℕ) × (i < 3) × ((a ∷ b ∷ c ∷ []) ≡ unit i)
unit-of_one a b c h = grind arith

-- three of which one is true, and which it is
pub unit-at : (a b c : Bool) (i : ℕ) → true_count (a ∷ b ∷ c ∷ []) ≡ 1 → slice_index_or (a ∷ b ∷ c ∷ []) i false ≡ true → (a ∷ b ∷ c ∷ []) ≡ unit i
unit-at a b c i h k = grind arith

-- three that are all true
pub three-true : (a b c : Bool) → true_count (a ∷ b ∷ c ∷ []) ≡ 3 → (a ∷ b ∷ c ∷ []) ≡ true ∷ true ∷ true ∷ []
three-true a b c h = grind arith

-- the edges of a multigraph as pairs
pub each-edge_of : (g : Graph) → IsMultigraph g → Each (IsEdge g.order) g.ends
each-edge_of g m = each-edge (IsEdge g.order) g.ends (λ i w. ((m.ends i w).0, (m.ends i w).1, m.no_loop i w))

-- the marks of a perfect matching
pub record PerfectMarks (g : Graph) : Type 0 where
  pub marks : List Bool
  pub whole : length marks ≡ size g
  pub perfect : IsPerfect g none (marked marks)

module _ (g : Graph) (m : IsMultigraph g) (cubic : IsCubic g) (w : ℕ) (ww : Within g.order w) where
  -- a vertex has three edges
  pub edges-at : length (filter (is_at w) g.ends) ≡ 3
  edges-at = sym (true_count-everything 0 w g.ends) ∙ true_count-flags g.order w (marks_from 0 (size g) everything) g.ends (each-edge_of g m) (length-marks_from 0 (size g) everything)
      ∙ sym (degree-marks g everything w) ∙ cubic w ww

  -- the marks at a vertex are three, of which as many are true as the set has ends there
  pub flags-three : (bs : List Bool) → length bs ≡ size g → (a : Bool) × (b : Bool) × (c : Bool) × (flags_at w bs g.ends ≡ a ∷ b ∷ c ∷ []) × (true_count (a ∷ b ∷ c ∷ []) ≡ degree g (marked bs) w)
  flags-three bs l =
      let r = three-items (flags_at w bs g.ends) (length-marks_where (is_at w) bs g.ends l ∙ edges-at) in
      (r.0, r.1, r.2, r.3, ap true_count (sym r.3) ∙ true_count-flags g.order w bs g.ends (each-edge_of g m) l ∙ sym (degree-marked g bs w l))

  -- the marks of a perfect matching are perfect
  pub perfect-marks : (k : Set) → IsPerfect g none k → IsPerfect g none (marked (marks_from 0 (size g) k))
  perfect-marks k p = record {
    once = λ v u o. degree_congr g (marked (marks_from 0 (size g) k)) k v same ∙ p.once v u o;
    away = λ v u o. degree_congr g (marked (marks_from 0 (size g) k)) k v same ∙ p.away v u o;
  }
    where
      same : (e : ℕ) → Within (size g) e → marked (marks_from 0 (size g) k) e ≡ k e
      same e u = marked-marks_from 0 (size g) k e u ∙ ap k (let q : 0 + e ≡ e = omega arith in q)

  -- an edge of a covered graph is in a perfect matching
  pub marks-with : IsCovered g → (e : ℕ) → Within (size g) e → (r : PerfectMarks g) × (marked r.marks e ≡ true)
  marks-with cov e u = let a = cov.allowed e u (m.no_loop e u) in (
    record { marks = marks_from 0 (size g) a.0; whole = length-marks_from 0 (size g) a.0; perfect = perfect-marks a.0 a.1 },
    marked-marks_from 0 (size g) a.0 e u ∙ ap a.0 (let q : 0 + e ≡ e = omega arith in q) ∙ a.2,
  )

  -- some perfect matching of a covered graph has the edge at place i at w
  pub marks-through : IsCovered g → (i : ℕ) → i < 3 → (r : PerfectMarks g) × (flags_at w r.marks g.ends ≡ unit i)
  marks-through cov i l =
      let e = edge-at_place (is_at w) g.ends i (let q = edges-at in omega arith) in
      let r = marks-with cov e.0 e.1.0 in
      let f = flags-three r.0.marks r.0.whole in
      (r.0, f.3 ∙ unit-at f.0 f.1 f.2 i (f.4 ∙ r.0.perfect.once w ww refl) (ap (λ fs. slice_index_or fs i false) (sym f.3) ∙ e.1.1 r.0.marks r.0.whole ∙ r.1))
