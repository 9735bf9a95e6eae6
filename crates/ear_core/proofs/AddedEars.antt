-- What does a stage with an ear match? The odd edges of an ear meet each of its vertices once,
-- and the even ones each but its two ends; so a perfect matching of the stage with the even edges
-- is one of the new stage, and only the odd edges are left to ask.
use Rattle.graph_core.proofs.from_counting.Common.{◌≡◌, ℕ, ◌+◌, ◌≤◌, Bool, true, false, ◌==◌, refl, sym, arith, ◌||◌, eq-eqb, ne_eqb, ◌⊎◌, inl, inr, subst, ◌++◌, List, cases_eq, cases_Bool, both_ways, true≢false, false_from_ne_true, or_left, or_right, or_parts, or_cases, or_from, times_mem, bit, Within, mem, times, Set, none, pair_set, union}
use Rattle.ear_core.specs.Common.{trail, last_vertex, IsEar, odds, evens, IsNearlyStage, is_met, adjacent_by, IsPerfectOf, IsPerfectOff, with_edges}
use Rattle.graph_core.proofs.Common.{ends_of, edge_at, ends_le_degree, Walk-join, Walk-back, Graph, size, first_end, second_end, IsGraph, degree, Walk}
use Rattle.ear_core.proofs.TraceEdges.{odds_ends, evens_ends, mem_times, times_ends, mem_degree, degree_or, degree_le, met-some, some-met, unmet, edges-within, trail_has, mem_odds, mem_evens, mem_parts}
use Rattle.ear_core.proofs.TraceWalks.{adjacent_by-back, walk_more, trail_walk}

module _ (g : Graph) (f : Set) (v : ℕ) (es : List ℕ) (ear : IsEar g f v es) where
  -- a vertex of the new stage is one of f or of the ear
  pub new-met : (w : ℕ) → is_met g (with_edges f es) w ≡ true → (is_met g f w ≡ true) ⊎ (mem (trail g v es) w ≡ true)
  unfolding ends_of
  new-met w t =
      let e = edge_at g (with_edges f es) w (met-some g (with_edges f es) w t) in
      grind (arith, or_cases, some-met, ends_le_degree, meets, has_end, trail_has)
    where
      has_end : (e w : ℕ) → ends_of g e w ≡ bit (first_end g e == w) + bit (second_end g e == w)
      has_end e w = refl

      meets : (a b w y : ℕ) → ((a ≡ w) × (b ≡ y)) ⊎ ((a ≡ y) × (b ≡ w)) → 1 ≤ bit (a == w) + bit (b == w)
      meets a b w y h = grind arith

  one_trail : (w : ℕ) → times (trail g v es) w ≤ 1
  one_trail w = ear.once w

  -- the odd edges of the ear, and the even ones, at each vertex
  pub odds_at : (w : ℕ) → degree g (mem (odds es)) w ≡ times (trail g v es) w
  odds_at w = grind (arith, mem_degree g (odds es) w, edges-within g v es ear.follow, mem_odds es, times_ends g (odds es), odds_ends g v es, one_trail, odds_ends g v es w ear.follow ear.odd)

  pub evens_at : (w : ℕ) → degree g (mem (evens es)) w + (bit (v == w) + bit (last_vertex g v es == w)) ≡ times (trail g v es) w
  evens_at w = grind (arith, mem_degree g (evens es) w, edges-within g v es ear.follow, mem_evens es, times_ends g (evens es), evens_ends g v es, one_trail, evens_ends g v es w ear.follow ear.odd)

  -- a vertex of f is off the ear, or one of its ends
  on_f : (w : ℕ) → is_met g f w ≡ true → (times (trail g v es) w ≡ 0) ⊎ ((v ≡ w) ⊎ (last_vertex g v es ≡ w))
  on_f w t = grind (arith, cases_eq v w, cases_eq (last_vertex g v es) w, cases_eq (times (trail g v es) w) 0, both_ways (is_met g f w), times_mem (trail g v es) w)

  -- a new vertex is on the ear, and no end
  off_f : (w : ℕ) → is_met g f w ≡ false → is_met g (with_edges f es) w ≡ true → (times (trail g v es) w ≡ 1) × (bit (v == w) ≡ 0) × (bit (last_vertex g v es == w) ≡ 0)
  off_f w o t = grind (arith, new-met w t, both_ways (is_met g f w) o, mem_times (trail g v es) w, one_trail w, ne_eqb v w, ne_eqb (last_vertex g v es) w)

  not_new : (q : Set) → ((e : ℕ) → Within (size g) e → q e ≡ true → f e ≡ true) → (e : ℕ) → Within (size g) e → q e ≡ true → mem es e ≡ false
  not_new q part e w t = false_from_ne_true (mem es e) (λ m. both_ways (f e) (ear.new e m) (part e w t))

  no_old : (q : Set) → ((e : ℕ) → Within (size g) e → q e ≡ true → f e ≡ true) → (w : ℕ) → is_met g f w ≡ false → degree g q w ≡ 0
  no_old q part w o = let a = unmet g f w o in let b = degree_le g q f w part in omega arith

  -- some edges of the ear, beside those of a part of f
  some_part : (q : Set) (xs : List ℕ) → ((e : ℕ) → mem xs e ≡ true → mem es e ≡ true) → ((e : ℕ) → Within (size g) e → q e ≡ true → f e ≡ true) → (e : ℕ) → Within (size g) e → with_edges q xs e ≡ true → with_edges f es e ≡ true
  some_part q xs on part e w t = elim (or_cases (q e) (mem xs e) t) [ inl x ↦ or_left (f e) (mem es e) (part e w x) | inr x ↦ or_right (f e) (mem es e) (on e x) ]

  some_degree : (q : Set) (xs : List ℕ) → ((e : ℕ) → mem xs e ≡ true → mem es e ≡ true) → ((e : ℕ) → Within (size g) e → q e ≡ true → f e ≡ true) → (w : ℕ) → degree g (with_edges q xs) w ≡ degree g q w + degree g (mem xs) w
  some_degree q xs on part w = degree_or g q (mem xs) w (λ e we t. false_from_ne_true (mem xs e) (λ m. both_ways (mem es e) (not_new q part e we t) (on e m)))

  -- a perfect matching of f, but for r, with the even edges of the ear
  pub even_on : (r q : Set) → ((w : ℕ) → Within g.order w → r w ≡ true → is_met g f w ≡ true) → IsPerfectOff g f r q → IsPerfectOff g (with_edges f es) r (with_edges q (evens es))
  even_on r q r_in p = record { part = some_part q (evens es) (mem_evens es) p.part; once = once; away = away }
    where
      sum : (w : ℕ) → degree g (with_edges q (evens es)) w ≡ degree g q w + degree g (mem (evens es)) w
      sum = some_degree q (evens es) (mem_evens es) p.part

      none_even : (w : ℕ) → is_met g f w ≡ true → degree g (mem (evens es)) w ≡ 0
      none_even w t = grind (arith, evens_at w, one_trail w, on_f w t, eq-eqb v w, eq-eqb (last_vertex g v es) w)

      once : (w : ℕ) → Within g.order w → is_met g (with_edges f es) w ≡ true → r w ≡ false → degree g (with_edges q (evens es)) w ≡ 1
      once w ww t o = let s = sum w in elim (cases_Bool (is_met g f w)) [
        | inl x ↦ let a = p.once w ww x o in let b = none_even w x in omega arith
        | inr x ↦ let a = no_old q p.part w x in let b = off_f w x t in let b0 = b.0 in let b1 = b.1 in let b2 = b.2 in let c = evens_at w in omega arith
      ]

      away : (w : ℕ) → Within g.order w → r w ≡ true → degree g (with_edges q (evens es)) w ≡ 0
      away w ww o = let s = sum w in let a = p.away w ww o in let b = none_even w (r_in w ww o) in omega arith

  -- a perfect matching of f, but for the ends of the ear and r, with the odd edges
  pub odd_on : (r q : Set) → ((w : ℕ) → Within g.order w → r w ≡ true → is_met g f w ≡ true) → r v ≡ false → r (last_vertex g v es) ≡ false → IsPerfectOff g f (union (pair_set v (last_vertex g v es)) r) q → IsPerfectOff g (with_edges f es) r (with_edges q (odds es))
  odd_on r q r_in r0 r1 p = record { part = some_part q (odds es) (mem_odds es) p.part; once = once; away = away }
    where
      sum : (w : ℕ) → degree g (with_edges q (odds es)) w ≡ degree g q w + degree g (mem (odds es)) w
      sum = some_degree q (odds es) (mem_odds es) p.part

      end_of : (w : ℕ) → Within g.order w → pair_set v (last_vertex g v es) w ≡ true → (degree g q w ≡ 0) × (times (trail g v es) w ≡ 1)
      end_of w ww t = grind (arith, or_left (pair_set v (last_vertex g v es) w) (r w) t, evens_at w, one_trail w, or_one (v == w) (last_vertex g v es == w) t)
        where
          or_one : (a b : Bool) → (a || b) ≡ true → 1 ≤ bit a + bit b
          or_one a b h = grind arith

      off : (w : ℕ) → is_met g f w ≡ true → pair_set v (last_vertex g v es) w ≡ false → times (trail g v es) w ≡ 0
      off w t o = grind (arith, on_f, both_ways, or_left, eq-eqb, or_right)

      once : (w : ℕ) → Within g.order w → is_met g (with_edges f es) w ≡ true → r w ≡ false → degree g (with_edges q (odds es)) w ≡ 1
      once w ww t o = let s = sum w in let d = odds_at w in elim (cases_Bool (is_met g f w)) [
        | inl x ↦ elim (cases_Bool (pair_set v (last_vertex g v es) w)) [
          | inl y ↦ let a = end_of w ww y in let a0 = a.0 in let a1 = a.1 in omega arith
          | inr y ↦ let a = p.once w ww x (or_from (pair_set v (last_vertex g v es) w) (r w) y o) in let b = off w x y in omega arith
        ]
        | inr x ↦ let a = no_old q p.part w x in let b = off_f w x t in let b0 = b.0 in omega arith
      ]

      away : (w : ℕ) → Within g.order w → r w ≡ true → degree g (with_edges q (odds es)) w ≡ 0
      away w ww o =
          let s = sum w in
          let d = odds_at w in
          let a = p.away w ww (or_right (pair_set v (last_vertex g v es) w) (r w) o) in
          let n = or_from (v == w) (last_vertex g v es == w) (ne_eqb v w (λ e. both_ways (r w) (subst (λ k. r k ≡ false) e r0) o)) (ne_eqb (last_vertex g v es) w (λ e. both_ways (r w) (subst (λ k. r k ≡ false) e r1) o)) in
          let b = off w (r_in w ww o) n in omega arith

pub but_none : (g : Graph) (f m : Set) → IsPerfectOf g f m → IsGraph g → IsPerfectOff g f none m
but_none g f m p is = record { part = p.part; once = λ w ww t o. p.once w ww t; away = λ w ww o. absurd (true≢false (sym o)) }

pub none_but : (g : Graph) (f m : Set) → IsPerfectOff g f none m → IsPerfectOf g f m
none_but g f m p = record { part = p.part; once = λ w ww t. p.once w ww t refl }

-- the stage with the ear: all but its odd edges as before
pub grow : (g : Graph) → IsGraph g → (f o : Set) (v : ℕ) (es : List ℕ) → IsEar g f v es → Within g.order v → IsNearlyStage g f o → IsNearlyStage g (with_edges f es) (λ e. o e || mem (odds es) e)
grow g is f o v es ear wv near_f = record {
  some_edge = (near_f.some_edge.0, near_f.some_edge.1, or_left (f near_f.some_edge.0) _ near_f.some_edge.2);
  connected = λ a b wa wb ta tb. let x = from_start a wa ta in let y = from_start b wb tb in
      let z = Walk-back g.order (adjacent_by g (with_edges f es)) (adjacent_by-back g (with_edges f es)) v a x.0 x.1 in
      (z.0 ++ y.0, Walk-join (adjacent_by g (with_edges f es)) a v b z.0 y.0 z.1 y.1);
  perfect = (with_edges near_f.perfect.0 (evens es), lift near_f.perfect.0 near_f.perfect.1);
  allowed = allowed;
}
  where
    lift : (m : Set) → IsPerfectOf g f m → IsPerfectOf g (with_edges f es) (with_edges m (evens es))
    lift m p = none_but g (with_edges f es) (with_edges m (evens es)) (even_on g f v es ear none m (λ w ww t. absurd (true≢false (sym t))) (but_none g f m p is))

    from_start : (w : ℕ) → Within g.order w → is_met g (with_edges f es) w ≡ true → (ws : List ℕ) × Walk (adjacent_by g (with_edges f es)) v ws w
    from_start w ww t = grind (arith, new-met g f v es ear w t, walk_more g f (with_edges f es), or_left, trail_walk g (with_edges f es) v es ear.follow, or_right)

    allowed : (e : ℕ) → Within (size g) e → with_edges f es e ≡ true → (o e || mem (odds es) e) ≡ false → (m : Set) × IsPerfectOf g (with_edges f es) m × (m e ≡ true)
    allowed e w t n =
        let q = or_parts (o e) (mem (odds es) e) n in
        elim (or_cases (f e) (mem es e) t) [
          | inl x ↦ let m = near_f.allowed e w x q.0 in (with_edges m.0 (evens es), lift m.0 m.1, or_left (m.0 e) _ m.2)
          | inr x ↦ grind (arith, mem_parts es e x, both_ways (mem (odds es) e) q.1, lift near_f.perfect.0 near_f.perfect.1, or_right (near_f.perfect.0 e))
        ]
