-- The ears that two perfect matchings make at a stage. Each is an ear of the stage and no two
-- share a vertex; each vertex of the stage that the one matching leads out of it is an end of
-- one. So the edges of this matching on the stage are a perfect matching of it without all the
-- ends.
use Rattle.graph_core.proofs.from_counting.Common.{◌≡◌, ℕ, ◌+◌, ◌≤◌, true, false, ◌==◌, refl, sym, ap, ◌∙◌, arith, ◌&&◌, ◌||◌, not, eq-eqb, ne_eqb, eqb-true, inl, inr, subst, [], ◌∷◌, List, cases_eq, cases_Bool, and_parts, and_from, both_ways, true≢false, false_from_ne_true, not-true, not-false, or_left, or_right, or_parts, or_cases, times_mem, bit, Within, mem, times, IsIn, Set, none}
use Rattle.graph_core.proofs.Common.{ends_of, edge_at, ends_le_degree, Graph, size, degree, IsPerfect}
use Rattle.two_ears.specs.VertexPairs.{pairs_at, in_pairs}
use Rattle.ear_core.specs.Common.{LeadsAlternately, IsClear, HoldsMatesOff, IsMatedEar, ends_of_ears, AreMatedEars, is_left, AreCandidates, PlainEar, trail, last_vertex, is_met, IsPerfectOff}
use Rattle.ear_core.proofs.TraceEdges.{edges-within, ends_of-other_end, degree_le, some-met}
use Rattle.ear_core.proofs.AddedEars.{evens_at}
use Rattle.ear_core.proofs.Mates.{AreMates}
use Rattle.ear_core.proofs.Walking.{joins}

-- an edge with an end off the stage is not on the stage
pub off-stage : (g : Graph) (f : Set) (e v : ℕ) → Within (size g) e → joins g e v ≡ true → is_met g f v ≡ false → f e ≡ false
off-stage g f e v w h o = grind (arith, false_from_ne_true (f e), ends_le_degree g f e v w, ends_of-other_end g e v v h, eq-eqb v v refl, both_ways (is_met g f v) o, some-met g f v)

-- z with the vertices of an ear
abbrev pub with_trail : Graph → Set → PlainEar → Set
with_trail g z a w = z w || mem (trail g a.begin a.edges) w

module _ (g : Graph) (f : Set) (m n : ℕ → ℕ) where
  ends-on : (a : PlainEar) → IsMatedEar g f m n a → (w : ℕ) → bit (a.begin == w) + bit (last_vertex g a.begin a.edges == w) ≤ times (trail g a.begin a.edges) w
  ends-on a good w = let e = evens_at g f a.begin a.edges good.ear w in omega arith

  -- one ear more
  pub one-more : (z : Set) (a : PlainEar) (ears : List PlainEar) → IsMatedEar g f m n a → ((w : ℕ) → mem (trail g a.begin a.edges) w ≡ true → z w ≡ false) → AreMatedEars g f m n (with_trail g z a) ears → AreMatedEars g f m n z (a ∷ ears)
  one-more z a ears good avoid p = record {
    each = λ b i. elim i [ inl j ↦ subst (IsMatedEar g f m n) (sym j) good | inr j ↦ p.each b j ];
    avoid = λ b i w h. elim i [
      | inl j ↦ avoid w (subst (λ (c : PlainEar). mem (trail g c.begin c.edges) w ≡ true) j h)
      | inr j ↦ (or_parts (z w) (mem (trail g a.begin a.edges) w) (p.avoid b j w h)).0
    ];
    apart = λ b c i j. elim i [
      | inl x ↦ elim j [
        | inl y ↦ inl (x ∙ sym y)
        | inr y ↦ inr (λ w h k. both_ways (mem (trail g a.begin a.edges) w) ((or_parts (z w) (mem (trail g a.begin a.edges) w) (p.avoid c y w k)).1) (subst (λ (c : PlainEar). mem (trail g c.begin c.edges) w ≡ true) x h))
      ]
      | inr x ↦ elim j [
        | inl y ↦ inr (λ w h k. both_ways (mem (trail g a.begin a.edges) w) ((or_parts (z w) (mem (trail g a.begin a.edges) w) (p.avoid b x w h)).1) (subst (λ (c : PlainEar). mem (trail g c.begin c.edges) w ≡ true) y k))
        | inr y ↦ p.apart b c x y
      ]
    ];
    once = λ w. let e = ends-on a good w in let t = good.ear.once w in elim (cases_eq (times (trail g a.begin a.edges) w) 0) [
      | inl i ↦ let q = p.once w in omega arith
      | inr i ↦ let q = p.off w (or_right (z w) _ (times_mem (trail g a.begin a.edges) w (omega arith))) in omega arith
    ];
    off = λ w h. let e = ends-on a good w in let q = p.off w (or_left (z w) _ h) in elim (cases_eq (times (trail g a.begin a.edges) w) 0) [
      | inl i ↦ omega arith
      | inr i ↦ absurd (both_ways (z w) (avoid w (times_mem (trail g a.begin a.edges) w (omega arith))) h)
    ];
    all = λ w ww t b. elim (p.all w ww t b) [
      | inr i ↦ inr (omega arith)
      | inl i ↦ grind (arith, or_cases, cases_eq, eq-eqb, both_ways)
    ];
  }

  -- none if no vertex is left
  pub none-left : (z : Set) → ((v : ℕ) → Within g.order v → is_left (is_met g f) f m z v ≡ false) → AreMatedEars g f m n z []
  none-left z h = grind arith

  -- the vertices of an ear hold their mates too
  pub passed-too : (z : Set) (a : PlainEar) → HoldsMatesOff g (is_met g f) m n z → IsMatedEar g f m n a → HoldsMatesOff g (is_met g f) m n (with_trail g z a)
  passed-too z a c good = grind (arith, or_cases, or_left, or_right)

  -- at a vertex that is left a path may begin
  pub left-clear : (z : Set) (v : ℕ) → HoldsMatesOff g (is_met g f) m n z → is_left (is_met g f) f m z v ≡ true → IsClear g (is_met g f) m n z v
  left-clear z v c t = grind arith

  -- and the path is an ear
  pub path-mated : (z : Set) (v : ℕ) (es : List ℕ) → is_left (is_met g f) f m z v ≡ true → LeadsAlternately g (is_met g f) m n z v es → IsMatedEar g f m n (record { begin = v; edges = es })
  path-mated z v es t p = record {
    ear = record { follow = p.follow; once = p.once; odd = p.odd; start = a.0; end = p.end; inner = p.inner; new = new };
    by_m = p.by_m;
    by_n = λ w h o. p.by_n w h o (λ e. both_ways (is_met g f v) (ap (is_met g f) (sym e) ∙ o) a.0);
    leaves = leaves;
    arrives = new (m (last_vertex g v es)) p.last;
  }
    where
      a : (is_met g f v ≡ true) × ((not (f (m v)) && not (z v)) ≡ true)
      a = and_parts (is_met g f v) (not (f (m v)) && not (z v)) t

      leaves : f (m v) ≡ false
      leaves = not-true (f (m v)) (and_parts (not (f (m v))) (not (z v)) a.1).0

      new : (e : ℕ) → mem es e ≡ true → f e ≡ false
      new e i = elim (p.new e i) [
        | inl j ↦ ap f j ∙ leaves
        | inr j ↦ off-stage g f e j.0 (edges-within g v es p.follow e i) j.1 j.2
      ]

  -- m leads out of f from each end of an ear
  ends-lead : (ears : List PlainEar) → ((a : PlainEar) → IsIn a ears → IsMatedEar g f m n a) → (w : ℕ) → 1 ≤ pairs_at (ends_of_ears g ears) w → f (m w) ≡ false
  ends-lead [] h w l = absurd (omega arith)
  ends-lead (a ∷ ears) h w l = let x = h a (inl refl) in elim (cases_eq a.begin w) [
    | inl i ↦ ap (λ k. f (m k)) (sym i) ∙ x.leaves
    | inr i ↦ elim (cases_eq (last_vertex g a.begin a.edges) w) [
      | inl j ↦ ap (λ k. f (m k)) (sym j) ∙ x.arrives
      | inr j ↦ let b = ap bit (ne_eqb a.begin w i) in let c = ap bit (ne_eqb (last_vertex g a.begin a.edges) w j) in ends-lead ears (λ b k. h b (inr k)) w (omega arith)
    ]
  ]

  module _ (ms : Set) (perfect : IsPerfect g none ms) (mates : AreMates g m) (held : (v : ℕ) → Within g.order v → ms (m v) ≡ true) (one : (v e : ℕ) → Within g.order v → Within (size g) e → ms e ≡ true → joins g e v ≡ true → e ≡ m v) where
    -- the edges of m on the stage
    edges-kept : (ears : List PlainEar) → AreMatedEars g f m n none ears → IsPerfectOff g f (in_pairs (ends_of_ears g ears)) (λ e. ms e && f e)
    unfolding ends_of
    edges-kept ears p = record {
      part = λ e w t. (and_parts (ms e) (f e) t).1;
      once = λ v w t o. elim (cases_Bool (f (m v))) [
        | inr b ↦ absurd (elim (p.all v w t b) [ inl i ↦ true≢false (sym i) | inr i ↦ zero_not (pairs_at (ends_of_ears g ears) v) o i ])
        | inl b ↦
            let x = ends_le_degree g (λ e. ms e && f e) (m v) v (mates.within v w) (and_from (ms (m v)) (f (m v)) (held v w) b) in
            let y = ends_of-other_end g (m v) v v (mates.at v w) in
            let u = ap bit (eq-eqb v v refl) in
            let l = degree_le g (λ e. ms e && f e) ms v (λ e we h. (and_parts (ms e) (f e) h).0) in
            let q = perfect.once v w refl in omega arith
      ];
      away = λ v w o. elim (cases_eq (degree g (λ e. ms e && f e) v) 0) [
        | inl i ↦ i
        | inr i ↦ grind (arith, edge_at g, and_parts, or_left, eq-eqb, or_right, both_ways, ends-lead ears, pos (pairs_at (ends_of_ears g ears) v) o)
      ];
    }
      where
        zero_not : (k : ℕ) → not (k == 0) ≡ false → 1 ≤ k → ⊥
        zero_not k o l = let e = eqb-true k 0 (not-false (k == 0) o) in omega arith

        pos : (k : ℕ) → not (k == 0) ≡ true → 1 ≤ k
        pos k h = grind arith

    -- the ears are candidates for a step, if m leads out of the stage somewhere
    pub mated-candidates : (ears : List PlainEar) → AreMatedEars g f m n none ears → (v : ℕ) → Within g.order v → is_met g f v ≡ true → f (m v) ≡ false → AreCandidates g f ears
    mated-candidates ears p v w t leads = grind (arith, true≢false, edges-kept ears p)
