-- Is a trace a walk? Yes, by its edges from the start to each of its vertices; and a walk by some
-- edges is one by more.
use Rattle.graph_core.proofs.from_counting.Common.{◌≡◌, ℕ, true, ◌==◌, refl, ◌&&◌, ◌||◌, eq-eqb, eqb-true, inl, inr, [], ◌∷◌, List, arith, and_parts, and_from, or_left, or_right, or_cases, true_some, some_true, mem, Set}
use Rattle.ear_core.specs.Common.{other_end, Follow, trail, adjacent_by}
use Rattle.graph_core.proofs.Common.{Graph, size, first_end, second_end, has_ends, Walk}

pub adjacent_by-back : (g : Graph) (f : Set) (u v : ℕ) → adjacent_by g f u v ≡ true → adjacent_by g f v u ≡ true
adjacent_by-back g f u v h = grind arith

pub walk_more : (g : Graph) (f k : Set) → ((e : ℕ) → f e ≡ true → k e ≡ true) → (u v : ℕ) (ws : List ℕ) → Walk (adjacent_by g f) u ws v → Walk (adjacent_by g k) u ws v
walk_more g f k h u v [] w = w
walk_more g f k h u v (x ∷ ws) w = (more, walk_more g f k h x v ws w.1)
  where
    more : adjacent_by g k u x ≡ true
    more =
        let e = some_true (size g) (λ e. f e && has_ends g u x e) w.0 in
        let b = and_parts (f e.0) (has_ends g u x e.0) e.2 in
        true_some (size g) (λ e. k e && has_ends g u x e) e.0 e.1 (and_from (k e.0) (has_ends g u x e.0) (h e.0 b.0) b.1)

pub other_end-has_ends : (g : Graph) (e v : ℕ) → (first_end g e == v || second_end g e == v) ≡ true → has_ends g v (other_end g e v) e ≡ true
other_end-has_ends g e v h = grind arith

-- the trace as a walk
pub trail_walk : (g : Graph) (k : Set) (v : ℕ) (es : List ℕ) → Follow g v es → ((e : ℕ) → mem es e ≡ true → k e ≡ true) → (w : ℕ) → mem (trail g v es) w ≡ true → (ws : List ℕ) × Walk (adjacent_by g k) v ws w
trail_walk g k v [] t h w m = grind arith
trail_walk g k v (e ∷ es) t h w m = elim (or_cases (v == w) (mem (trail g (other_end g e v) es) w) m) [
  | inl i ↦ ([], eqb-true v w i)
  | inr i ↦
      let r = trail_walk g k (other_end g e v) es t.1 (λ d x. h d (or_right (e == d) (mem es d) x)) w i in
      let s = true_some (size g) (λ d. k d && has_ends g v (other_end g e v) d) e t.0.0 (and_from (k e) (has_ends g v (other_end g e v) e) (h e (or_left (e == e) (mem es e) (eq-eqb e e refl))) (other_end-has_ends g e v t.0.1)) in
      (other_end g e v ∷ r.0, (s, r.1))
]
