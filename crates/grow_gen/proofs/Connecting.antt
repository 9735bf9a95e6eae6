-- A splice of two covered cubic graphs is connected. Idea: let no edge leave a set S of its
-- vertices. By parity each of the joined edges is inside S where S has an odd number of old
-- vertices, and else each is outside; so S, with the vertex that was given up put on that side,
-- is all or nothing in both graphs.
use Rattle.graph_core.proofs.from_counting.Common.{◌≡◌, ℕ, suc, ◌+◌, ◌≤◌, ◌≢◌, Bool, true, cond, ◌==◌, ◌&&◌, ◌||◌, not, inl, inr, List, [], ◌∷◌, length, map, filter, refl, sym, ap, ap₂, ◌∙◌, arith, subst, eq-eqb, ne_eqb, Within, bit, Set, none, mem, same_tests}
use Rattle.graph_core.proofs.Common.{Graph, size, first_end, second_end, IsGraph, has_ends, Joined, Walk, adjacent, joined, IsConnected, adjacent-edge, adjacent_from, has_ends-back, has_ends-cases, has_ends-own, joined_on, joined_self, joined_walk, walk_joined}
use Rattle.grow_gen.specs.Common.{is_at, end_opposite, edge_with_end, new_number, renumbered_edge, rehung_edges}
use Rattle.grow_gen.proofs.EdgeSums.{Each, by_test, sum_edges, each-edge, edge-at}
use Rattle.grow_gen.proofs.Rehanging.{IsEdge, flags_at, caught, caught-none, not_at-ends, rehung_edges-none, member-later}
use Rattle.grow_gen.proofs.Renumbering.{kept_edges, ends_beside}

-- the edge has both ends in x or none
abbrev pub Stays : Set → ℕ × ℕ → Type 0
Stays x e = x e.0 ≡ x e.1

-- in a connected graph a set that no edge leaves is all or nothing
pub steady-connected : (g : Graph) → IsConnected g → (x : Set) → Each (Stays x) g.ends → (u v : ℕ) → Within g.order u → Within g.order v → x u ≡ x v
unfolding Joined
steady-connected g c x s u v wu wv = let j = c u v wu wv in along u j.0 j.1
  where
    along : (u : ℕ) (ws : List ℕ) → Walk (adjacent g none) u ws v → x u ≡ x v
    along u [] k = ap x k
    along u (y ∷ ws) k =
        let a = adjacent-edge g none u y k.0 in
        let t = edge-at (Stays x) g.ends s a.2.0 a.2.1 in
        elim (has_ends-cases g u y a.2.0 a.2.2) [
          | inl p ↦ ap x (sym p.0) ∙ t ∙ ap x p.1
          | inr p ↦ ap x (sym p.1) ∙ sym t ∙ ap x p.0
        ] ∙ along y ws k.1

-- a graph in which each such set is all or nothing is connected
pub connected-steady : (g : Graph) → IsGraph g → ((x : Set) → Each (Stays x) g.ends → (u v : ℕ) → Within g.order u → Within g.order v → x u ≡ x v) → IsConnected g
unfolding Joined
connected-steady g is h u v wu wv = joined_walk g none u v (sym (h (joined g none u) (each-edge (Stays (joined g none u)) g.ends same) u v wu wv) ∙ walk_joined g none is u u wu (joined_self g none u))
  where
    step : (a b e : ℕ) → Within (size g) e → has_ends g a b e ≡ true → joined g none u a ≡ true → joined g none u b ≡ true
    step a b e w k j = walk_joined g none is u b wu (joined_on g none u a b (joined_walk g none u a j) (b ∷ [], (adjacent_from g none a b e refl refl w k, refl)))

    same : (e : ℕ) → Within (size g) e → joined g none u (first_end g e) ≡ joined g none u (second_end g e)
    same e w = same_tests (joined g none u (first_end g e)) (joined g none u (second_end g e)) (step (first_end g e) (second_end g e) e w (has_ends-own g e)) (step (second_end g e) (first_end g e) e w (has_ends-back g (first_end g e) (second_end g e) e (has_ends-own g e)))

-- x without w
abbrev pub without : ℕ → Set → Set
without w x v = not (v == w) && x v

-- x with w put in or out
abbrev pub with_answer : ℕ → Bool → Set → Set
with_answer w s x v = cond (v == w) s (x v)

-- the edge has one end in x
abbrev pub crosses : Set → ℕ × ℕ → Bool
crosses x e = (x e.0 && not (x e.1)) || (not (x e.0) && x e.1)

without-other : (w v : ℕ) (x : Set) → v ≢ w → without w x v ≡ x v
without-other w v x d = ap (λ b. not b && x v) (ne_eqb v w d)

pub answer-own : (w v : ℕ) (s : Bool) (x : Set) → v ≡ w → with_answer w s x v ≡ s
answer-own w v s x q = ap (λ b. cond b s (x v)) (eq-eqb v w q)

pub answer-other : (w v : ℕ) (s : Bool) (x : Set) → v ≢ w → with_answer w s x v ≡ x v
answer-other w v s x d = ap (λ b. cond b s (x v)) (ne_eqb v w d)

crosses-none : (b : Bool) (x : Set) (e : ℕ × ℕ) → Stays x e → bit (b && crosses x e) ≡ 0
crosses-none b x e h = grind arith

-- where no edge of the splice leaves x, the edges of g that leave x without w are those at w with
-- their new end in x
pub sum_edges-crossing : (n w : ℕ) (x : Set) (ts : List ℕ) (bs : List Bool) (es : List (ℕ × ℕ)) → Each (IsEdge n) es → Each (Stays x) (rehung_edges w ts es) → length bs ≡ length es → length (flags_at w bs es) ≤ length ts →
    sum_edges (λ b e. bit (b && crosses (without w x) e)) bs es ≡ caught x (flags_at w bs es) ts
sum_edges-crossing n w x ts bs [] c s l f = refl
sum_edges-crossing n w x ts [] (e ∷ es) c s l f = absurd (omega arith)
sum_edges-crossing n w x [] (b ∷ bs) (e ∷ es) c s l f = by_test (is_at w e)
    (λ a. length (cond a (b ∷ flags_at w bs es) (flags_at w bs es)) ≤ 0 → bit (b && crosses (without w x) e) + sum_edges (λ b e. bit (b && crosses (without w x) e)) bs es ≡ caught x (cond a (b ∷ flags_at w bs es) (flags_at w bs es)) [])
    (λ a k. absurd (omega arith))
    (λ a k. let d = not_at-ends w e a in
    ap₂ ◌+◌ (crosses-none b (without w x) e (without-other w e.0 x d.0 ∙ s.0 ∙ sym (without-other w e.1 x d.1)))
    (sum_edges-crossing n w x [] bs es c.1 (subst (Each (Stays x)) (sym (rehung_edges-none w es)) s.1) (omega arith) k ∙ caught-none x (flags_at w bs es))
    ∙ sym (caught-none x (flags_at w bs es)))
    f
sum_edges-crossing n w x (t ∷ ts) (b ∷ bs) (e ∷ es) c s l f = by_test (is_at w e)
    (λ a. is_at w e ≡ a → Each (Stays x) (cond a (edge_with_end w t e ∷ rehung_edges w ts es) (e ∷ rehung_edges w (t ∷ ts) es)) → length (cond a (b ∷ flags_at w bs es) (flags_at w bs es)) ≤ suc (length ts) →
    bit (b && crosses (without w x) e) + sum_edges (λ b e. bit (b && crosses (without w x) e)) bs es ≡ caught x (cond a (b ∷ flags_at w bs es) (flags_at w bs es)) (t ∷ ts))
    (λ a p z k. ap₂ ◌+◌ (grind arith) (sum_edges-crossing n w x ts bs es c.1 z.1 (omega arith) (omega arith)))
    (λ a p z k. let d = not_at-ends w e a in
    ap₂ ◌+◌ (crosses-none b (without w x) e (without-other w e.0 x d.0 ∙ z.0 ∙ sym (without-other w e.1 x d.1))) (sum_edges-crossing n w x (t ∷ ts) bs es c.1 z.1 (omega arith) k)
    ∙ (let q : 0 + caught x (flags_at w bs es) (t ∷ ts) ≡ caught x (flags_at w bs es) (t ∷ ts) = omega arith in q))
    refl s f

-- with w put where the new ends are, no edge of g leaves x
pub each-stays_old : (n w : ℕ) (x : Set) (s : Bool) (ts : List ℕ) (es : List (ℕ × ℕ)) → Each (IsEdge n) es → Each (Stays x) (rehung_edges w ts es) → length (filter (is_at w) es) ≤ length ts → ((t : ℕ) → mem ts t ≡ true → x t ≡ s) → Each (Stays (with_answer w s x)) es
each-stays_old n w x s ts [] c k l h = tt
each-stays_old n w x s [] (e ∷ es) c k l h = by_test (is_at w e) (λ a. length (cond a (e ∷ filter (is_at w) es) (filter (is_at w) es)) ≤ 0 → Each (Stays (with_answer w s x)) (e ∷ es))
    (λ a m. absurd (omega arith))
    (λ a m. let d = not_at-ends w e a in
    (answer-other w e.0 s x d.0 ∙ k.0 ∙ sym (answer-other w e.1 s x d.1), each-stays_old n w x s [] es c.1 (subst (Each (Stays x)) (sym (rehung_edges-none w es)) k.1) m h))
    l
each-stays_old n w x s (t ∷ ts) (e ∷ es) c k l h = by_test (is_at w e)
    (λ a. Each (Stays x) (cond a (edge_with_end w t e ∷ rehung_edges w ts es) (e ∷ rehung_edges w (t ∷ ts) es)) → length (cond a (e ∷ filter (is_at w) es) (filter (is_at w) es)) ≤ suc (length ts) → Each (Stays (with_answer w s x)) (e ∷ es))
    (λ a z m. ((grind arith), each-stays_old n w x s ts es c.1 z.1 (omega arith) (λ u j. h u (member-later u t ts j))))
    (λ a z m. let d = not_at-ends w e a in
    (answer-other w e.0 s x d.0 ∙ z.0 ∙ sym (answer-other w e.1 s x d.1), each-stays_old n w x s (t ∷ ts) es c.1 z.1 m h))
    k l

-- with 1 put where its neighbours are, no edge of h leaves the set of vertices whose new numbers
-- are in x
pub each-stays_new : (k n w : ℕ) (x : Set) (s : Bool) (es : List (ℕ × ℕ)) → Each (IsEdge k) es → Each (Stays x) (map (renumbered_edge n w) (kept_edges es)) → Each (λ v. x (new_number n w v) ≡ s) (ends_beside 1 es) → Each (Stays (with_answer 1 s (λ v. x (new_number n w v)))) es
each-stays_new k n w x s [] c z b = tt
each-stays_new k n w x s (e ∷ es) c z b = by_test (is_at 1 e)
    (λ a. Each (Stays x) (map (renumbered_edge n w) (cond (not a) (e ∷ kept_edges es) (kept_edges es))) → Each (λ v. x (new_number n w v) ≡ s) (map (end_opposite 1) (cond a (e ∷ filter (is_at 1) es) (filter (is_at 1) es))) → Each (Stays (with_answer 1 s (λ v. x (new_number n w v)))) (e ∷ es))
    (λ a p q. ((grind arith), each-stays_new k n w x s es c.1 p q.1))
    (λ a p q. let d = not_at-ends 1 e a in
    (answer-other 1 e.0 s (λ v. x (new_number n w v)) d.0 ∙ p.0 ∙ sym (answer-other 1 e.1 s (λ v. x (new_number n w v)) d.1), each-stays_new k n w x s es c.1 p.1 q))
    z b
