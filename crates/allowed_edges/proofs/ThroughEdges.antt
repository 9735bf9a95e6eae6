-- Perfect matchings through one edge or two, from a perfect matching of the graph without their
-- ends and back. The edges meet their ends once, so they are glued to the one and cut off the
-- other; and a perfect matching leaves few vertices missed when the edges at these ends are taken
-- out.
use Rattle.graph_core.proofs.from_counting.Common.{◌≡◌, ℕ, ◌*◌, ◌≢◌, true, false, ◌==◌, ◌||◌, ◌⊎◌, refl, sym, ap, ◌∙◌, arith, inl, inr, eqb-true, ne_eqb, both_ways, cases_eq, false_from_ne_true, true≢false, or_cases, Within, bit, Set, none, put, union, minus, everything}
use Rattle.graph_core.proofs.Common.{Graph, IsGraph, IsMultigraph, degree, first_end, second_end, size, Allowed, HasPerfect, IsPerfect, Together, degree_congr, none_matching, degree_put, ends_of}
use Rattle.match_core.proofs.from_match_search.AlternatingPaths.{put_off, put_at}
use Rattle.match_core.specs.from_match_search.Common.{MeetOnce}
use Rattle.match_core.proofs.ClearedMatchings.{left_misses}
use Rattle.match_core.proofs.from_match_search.Gluing.{cut_off, glued, meet_more}
use Rattle.allowed_edges.specs.Leaving.{LeavesFew, ShareNone}

-- being a perfect matching depends only on the values at the edges
pub perfect_alike : (g : Graph) (r m n : Set) → ((e : ℕ) → n e ≡ m e) → IsPerfect g r m → IsPerfect g r n
perfect_alike g r m n h p = grind arith

-- the sets with the ends of an edge, and of another
abbrev pub AddsEnds : Graph → ℕ → Set → Set → Type 0
AddsEnds g e x y = (v : ℕ) → y v ≡ ((x v || (first_end g e == v)) || (second_end g e == v))

pub ends_within : (g : Graph) (e : ℕ) (x y : Set) → IsGraph g → Within (size g) e → AddsEnds g e x y → ((v : ℕ) → x v ≡ true → Within g.order v) → (v : ℕ) → y v ≡ true → Within g.order v
ends_within g e x y is we adds before v t = grind arith

-- nothing meets nothing
pub none_meets : (g : Graph) (x : Set) → ((v : ℕ) → x v ≡ false) → MeetOnce g none x
none_meets g x h v w = (none_matching g everything).away v w refl ∙ sym (ap bit (h v))

-- one edge meets its ends once
pub one_meets : (g : Graph) → IsMultigraph g → (e : ℕ) (x y : Set) → Within (size g) e → ((v : ℕ) → x v ≡ false) → AddsEnds g e x y → MeetOnce g (put none e true) y
one_meets g is e x y we empty adds = meet_more g none x y e (first_end g e) (second_end g e) we (inl (refl, refl)) (is.no_loop e we) refl (none_meets g x empty) (empty (first_end g e)) (empty (second_end g e)) adds

pub put_only : (x : Set) (e i : ℕ) → put x e true i ≡ true → (i ≡ e) ⊎ (x i ≡ true)
put_only x e i h = elim (cases_eq i e) [ inl q ↦ inl q | inr d ↦ inr (sym (put_off x e true i d) ∙ h) ]

-- an edge that shares no end with e is not at the ends of e
pub ends_free : (g : Graph) (e f : ℕ) (x y : Set) → ((v : ℕ) → x v ≡ false) → AddsEnds g e x y → ShareNone g e f → (y (first_end g f) ≡ false) × (y (second_end g f) ≡ false)
ends_free g e f x y empty adds apart = (
  false_from_ne_true (y (first_end g f)) (λ t. at (first_end g f) (inl refl) t),
  false_from_ne_true (y (second_end g f)) (λ t. at (second_end g f) (inr refl) t),
)
  where
    at : (v : ℕ) → (first_end g f ≡ v) ⊎ (second_end g f ≡ v) → y v ≡ true → ⊥
    at v end t = elim (or_cases (x v || (first_end g e == v)) (second_end g e == v) (sym (adds v) ∙ t)) [
      | inl p ↦ elim (or_cases (x v) (first_end g e == v) p) [
        | inl q ↦ both_ways (x v) (empty v) q
        | inr q ↦ apart v (inl (eqb-true (first_end g e) v q)) end
      ]
      | inr p ↦ apart v (inr (eqb-true (second_end g e) v p)) end
    ]

-- an edge has no end at a vertex that is not one of its ends
pub ends_none : (g : Graph) (e v : ℕ) → ((first_end g e ≡ v) ⊎ (second_end g e ≡ v) → ⊥) → ends_of g e v ≡ 0
unfolding ends_of
ends_none g e v h = let a = ap bit (ne_eqb (first_end g e) v (λ q. h (inl q))) in let b = ap bit (ne_eqb (second_end g e) v (λ q. h (inr q))) in omega arith

-- the edge e alone
pub only_one : (e i : ℕ) → (e == i) ≡ put none e true i
only_one e i = grind arith

-- two edges that share no end are two
pub apart_differ : (g : Graph) (e f : ℕ) → ShareNone g e f → f ≢ e
apart_differ g e f apart q = apart (first_end g e) (inl refl) (inl (ap (first_end g) q))

module _ (g : Graph) (is : IsMultigraph g) (e : ℕ) (we : Within (size g) e) (x y : Set) (empty : (v : ℕ) → x v ≡ false) (first : AddsEnds g e x y) where
  -- a perfect matching leaves few vertices missed
  pub one_leaves : (m : Set) → IsPerfect g none m → LeavesFew g y m
  one_leaves m perfect = left_misses g is.ends m (put none e true) y e perfect (one_meets g is e x y we empty first) we (put_at none e true) (λ i wi ci other. elim (put_only none e i ci) [
    | inl q ↦ absurd (other q)
    | inr q ↦ absurd (true≢false (sym q))
  ])

  -- from a perfect matching without the ends to one with the edge, and back
  pub one_glued : (q m : Set) → IsPerfect g y q → ((i : ℕ) → m i ≡ (q i || (e == i))) → IsPerfect g none m
  one_glued q m perfect h = perfect_alike g none (union q (put none e true)) m (λ i. h i ∙ ap (λ b. q i || b) (only_one e i)) (glued g (put none e true) y q is.ends (one_meets g is e x y we empty first) perfect)

  pub one_cut : Allowed g e → HasPerfect g y
  one_cut t = grind (arith, cut_off g (put none e true) y t.0 (one_meets g is e x y we empty first) t.1, one_meets g is e x y we empty first, put_only none e, true≢false)

  -- the edge can be joined to it
  pub edge_free : (r q : Set) → IsPerfect g r q → ((v : ℕ) → y v ≡ true → r v ≡ true) → (degree g q (first_end g e) ≡ 0) × (degree g q (second_end g e) ≡ 0)
  edge_free r q perfect in_r = grind arith

module _ (g : Graph) (is : IsMultigraph g) (e f : ℕ) (we : Within (size g) e) (wf : Within (size g) f) (apart : ShareNone g e f) (x y z : Set) (empty : (v : ℕ) → x v ≡ false) (first : AddsEnds g e x y) (second : AddsEnds g f y z) where
  abbrev pub pair : Set
  pair = put (put none e true) f true

  -- two edges that share no end meet their ends once
  pub two_meet : MeetOnce g pair z
  two_meet =
      let free = ends_free g e f x y empty first apart in
      meet_more g (put none e true) y z f (first_end g f) (second_end g f) wf (inl (refl, refl)) (is.no_loop f wf) (put_off none e true f (apart_differ g e f apart)) (one_meets g is e x y we empty first) free.0 free.1 second

  -- a perfect matching that contains the first leaves few vertices missed
  pub two_leave : (m : Set) → IsPerfect g none m → m e ≡ true → LeavesFew g z m
  two_leave m perfect me = left_misses g is.ends m pair z f perfect two_meet wf (put_at (put none e true) f true) (λ i wi ci other. elim (put_only (put none e true) f i ci) [
    | inl q ↦ absurd (other q)
    | inr q ↦ elim (put_only none e i q) [ inl s ↦ ap m s ∙ me | inr s ↦ absurd (true≢false (sym s)) ]
  ])

  -- from a perfect matching without the ends to one with both edges, and back
  pub two_glued : (q m : Set) → IsPerfect g z q → ((i : ℕ) → m i ≡ ((q i || (e == i)) || (f == i))) → IsPerfect g none m
  two_glued q m perfect h = perfect_alike g none (union q pair) m (λ i. h i ∙ (grind arith)) (glued g pair z q is.ends two_meet perfect)

  pub two_cut : Together g e f → HasPerfect g z
  two_cut t = (
    minus t.0 pair,
    cut_off g pair z t.0 two_meet t.1 (λ i ci. elim (put_only (put none e true) f i ci) [
      | inl q ↦ ap t.0 q ∙ t.3
      | inr q ↦ elim (put_only none e i q) [ inl s ↦ ap t.0 s ∙ t.2 | inr s ↦ absurd (true≢false (sym s)) ]
    ]),
  )

  -- the second edge can be joined to what holds the first
  pub second_free : (q m : Set) → IsPerfect g z q → ((i : ℕ) → m i ≡ (q i || (e == i))) → (degree g m (first_end g f) ≡ 0) × (degree g m (second_end g f) ≡ 0)
  second_free q m perfect h = (at (first_end g f) (is.ends f wf).0 (inl refl), at (second_end g f) (is.ends f wf).1 (inr refl))
    where
      at : (v : ℕ) → Within g.order v → (first_end g f ≡ v) ⊎ (second_end g f ≡ v) → degree g m v ≡ 0
      at v wv end =
          let a = perfect.away v wv (grind arith) in
          let s = degree_congr g m (put q e true) v (λ i wi. h i ∙ Rattle.match_core.proofs.from_match_search.GrownRows.with_put q e i) in
          let p = degree_put g q e true v we in
          let n = ap (λ k. bit (q e) * k) (ends_none g e v (λ s. apart v s end)) in
          let l = ends_none g e v (λ s. apart v s end) in
          omega arith
