-- The edges that a spliced graph brings in: those not at its vertex 1, with new numbers for their
-- ends. Idea: a vertex has all its edges, once those to vertex 1 are counted among the edges that
-- got new ends.
use Rattle.graph_core.proofs.from_counting.Common.{◌≡◌, ℕ, ◌+◌, ◌-◌, ◌≤◌, ◌<◌, ◌≢◌, Bool, true, cond, ◌==◌, ◌&&◌, not, ◌⊎◌, inl, inr, List, [], ◌∷◌, length, map, filter, refl, sym, ap, ap₂, ◌∙◌, arith, ne_eqb, cases_eq, cases_lt, Within, bit}
use Rattle.grow_gen.specs.Common.{is_at, end_opposite, new_number, renumbered_edge}
use Rattle.grow_gen.proofs.EdgeSums.{Each, sum_edges, ends_at, by_test, marks_where}
use Rattle.grow_gen.proofs.Rehanging.{IsEdge, flags_at, caught, not_at-ends, no_end}

-- the edges that are not at vertex 1
abbrev pub kept_edges : List (ℕ × ℕ) → List (ℕ × ℕ)
kept_edges es = filter (λ e. not (is_at 1 e)) es

-- their marks
abbrev pub kept_marks : List Bool → List (ℕ × ℕ) → List Bool
kept_marks bs es = marks_where (λ e. not (is_at 1 e)) bs es

-- the other ends of the edges at v
abbrev pub ends_beside : ℕ → List (ℕ × ℕ) → List ℕ
ends_beside v es = map (end_opposite v) (filter (is_at v) es)

module _ (n w : ℕ) (ww : Within n w) where
  -- the new numbers of different vertices differ
  pub new_number-apart : (x y : ℕ) → 2 ≤ x → 2 ≤ y → x ≢ y → new_number n w x ≢ new_number n w y
  new_number-apart x y a b d q = grind arith

  pub new_number-same : (x y : ℕ) → 2 ≤ x → 2 ≤ y → (new_number n w x == new_number n w y) ≡ (x == y)
  new_number-same x y a b = grind arith

  -- a new number is w or past n
  pub new_number-where : (k x : ℕ) → 2 ≤ k → 2 ≤ x → x ≤ k → Within (n + k - 2) (new_number n w x) × ((new_number n w x ≡ w) ⊎ (n < new_number n w x))
  new_number-where k x l a b = grind arith

  -- each vertex is an old one, or a new one with its number in the spliced graph
  pub old_or_new : (k v : ℕ) → 2 ≤ k → Within (n + k - 2) v → (Within n v × (v ≢ w)) ⊎ ((x : ℕ) × (2 ≤ x) × (x ≤ k) × (new_number n w x ≡ v))
  old_or_new k v l u = grind (arith, cases_eq v w, go, cases_lt n v)
    where
      go : v ≢ w → (n < v) ⊎ (v ≤ n) → (Within n v × (v ≢ w)) ⊎ ((x : ℕ) × (2 ≤ x) × (x ≤ k) × (new_number n w x ≡ v))
      go q (inl p) = let z : v + 2 - n ≢ 2 = λ r. absurd (omega arith) in
          inr (v + 2 - n, omega arith, omega arith, ap (λ b. cond b w (n + (v + 2 - n) - 2)) (ne_eqb (v + 2 - n) 2 z) ∙ (let e : n + (v + 2 - n) - 2 ≡ v = omega arith in e))
      go q (inr p) = inl ((u.0, p), q)

  -- an edge between new vertices has its new ends as it had its ends
  moved_ends : (x : ℕ) (b : Bool) (e : ℕ × ℕ) → 2 ≤ x → 2 ≤ e.0 → 2 ≤ e.1 → ends_at (new_number n w x) b (renumbered_edge n w e) ≡ ends_at x b e
  moved_ends x b e a p q = ap₂ (λ s t. bit (b && s) + bit (b && t)) (new_number-same e.0 x p a) (new_number-same e.1 x q a)

  -- an end that is not 1
  above_one : (k : ℕ) (v : ℕ) → Within k v → v ≢ 1 → 2 ≤ v
  above_one k v u d = omega arith

  -- a new vertex has its edges in the graph, those to vertex 1 by the new ends
  pub sum_edges-kept_new : (k x : ℕ) (bs : List Bool) (es : List (ℕ × ℕ)) → 2 ≤ x → Each (IsEdge k) es → length bs ≡ length es →
      sum_edges (ends_at (new_number n w x)) (kept_marks bs es) (map (renumbered_edge n w) (kept_edges es)) + caught (λ t. t == x) (flags_at 1 bs es) (ends_beside 1 es) ≡ sum_edges (ends_at x) bs es
  sum_edges-kept_new k x bs [] a c l = refl
  sum_edges-kept_new k x [] (e ∷ es) a c l = absurd (omega arith)
  sum_edges-kept_new k x (b ∷ bs) (e ∷ es) a c l = by_test (is_at 1 e)
      (λ s. sum_edges (ends_at (new_number n w x)) (cond (not s) (b ∷ kept_marks bs es) (kept_marks bs es)) (map (renumbered_edge n w) (cond (not s) (e ∷ kept_edges es) (kept_edges es)))
      + caught (λ t. t == x) (cond s (b ∷ flags_at 1 bs es) (flags_at 1 bs es)) (map (end_opposite 1) (cond s (e ∷ filter (is_at 1) es) (filter (is_at 1) es))) ≡ ends_at x b e + sum_edges (ends_at x) bs es)
      (λ s. let h = sum_edges-kept_new k x bs es a c.1 (omega arith) in let q = beside s in omega (arith, h, q))
      (λ s. let h = sum_edges-kept_new k x bs es a c.1 (omega arith) in let d = not_at-ends 1 e s in
      let q = moved_ends x b e a (above_one k e.0 c.0.0 d.0) (above_one k e.1 c.0.1 d.1) in omega (arith, h, q))
    where
      beside : is_at 1 e ≡ true → ends_at x b e ≡ bit (b && (end_opposite 1 e == x))
      beside s = grind arith

  -- an old vertex has none of them
  pub sum_edges-kept_old : (k v : ℕ) (bs : List Bool) (es : List (ℕ × ℕ)) → 2 ≤ k → v ≤ n → v ≢ w → Each (IsEdge k) es → length bs ≡ length es →
      sum_edges (ends_at v) (kept_marks bs es) (map (renumbered_edge n w) (kept_edges es)) ≡ 0
  sum_edges-kept_old k v bs [] t l d c m = refl
  sum_edges-kept_old k v [] (e ∷ es) t l d c m = absurd (omega arith)
  sum_edges-kept_old k v (b ∷ bs) (e ∷ es) t l d c m = by_test (is_at 1 e)
      (λ s. sum_edges (ends_at v) (cond (not s) (b ∷ kept_marks bs es) (kept_marks bs es)) (map (renumbered_edge n w) (cond (not s) (e ∷ kept_edges es) (kept_edges es))) ≡ 0)
      (λ s. sum_edges-kept_old k v bs es t l d c.1 (omega arith))
      (λ s. let q = not_at-ends 1 e s in let h = sum_edges-kept_old k v bs es t l d c.1 (omega arith) in
      let x = no_end b (new_number n w e.0) v (far e.0 c.0.0 q.0) in let y = no_end b (new_number n w e.1) v (far e.1 c.0.1 q.1) in omega (arith, h, x, y))
    where
      far : (x : ℕ) → Within k x → x ≢ 1 → new_number n w x ≢ v
      far x u r z = elim (new_number-where k x t (above_one k x u r) u.1).1 [ inl a ↦ d (sym z ∙ a) | inr a ↦ absurd (omega arith) ]

  -- the edges stay edges
  pub each-kept : (k : ℕ) (es : List (ℕ × ℕ)) → 2 ≤ k → Each (IsEdge k) es → Each (IsEdge (n + k - 2)) (map (renumbered_edge n w) (kept_edges es))
  each-kept k [] t c = tt
  each-kept k (e ∷ es) t c = by_test (is_at 1 e) (λ s. Each (IsEdge (n + k - 2)) (map (renumbered_edge n w) (cond (not s) (e ∷ kept_edges es) (kept_edges es))))
      (λ s. each-kept k es t c.1)
      (λ s. let q = not_at-ends 1 e s in let a = above_one k e.0 c.0.0 q.0 in let b = above_one k e.1 c.0.1 q.1 in
      (((new_number-where k e.0 t a c.0.0.1).0, (new_number-where k e.1 t b c.0.1.1).0, new_number-apart e.0 e.1 a b c.0.2), each-kept k es t c.1))

-- the neighbours of vertex 1 are 2 and on
pub each-beside : (k : ℕ) (es : List (ℕ × ℕ)) → Each (IsEdge k) es → Each (λ v. (2 ≤ v) × (v ≤ k)) (ends_beside 1 es)
each-beside k [] c = tt
each-beside k (e ∷ es) c = grind (arith, by_test (is_at 1 e), in_range, each-beside k es c.1)
  where
    in_range : is_at 1 e ≡ true → (2 ≤ end_opposite 1 e) × (end_opposite 1 e ≤ k)
    in_range s = grind arith
