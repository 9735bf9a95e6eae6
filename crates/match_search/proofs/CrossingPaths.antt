-- The path of an outer vertex to a set that can be shrunk: it avoids the set, or comes to it at the
-- base and leaves it for good some pairs later. By induction along the path up.
use Rattle.graph_core.proofs.from_counting.Common.{◌≡◌, ◌≢◌, ℕ, zero, suc, ◌+◌, ◌-◌, ◌≤◌, ◌<◌, ◌⊎◌, true, false, refl, sym, ap, ◌∙◌, arith, not, inl, inr, subst, both_ways, cases_Bool, cases_eq, cases_lt, false_from_ne_true, odd-double, Within, Set}
use Rattle.match_search.proofs.MatePairs.{mate_back}
use Rattle.match_search.proofs.ShrunkForests.{ShrunkForest, WalksUp}

-- the path of u comes to c at the base z, and leaves it for good s pairs later
pub record Crosses (c : Set) (k : ℕ → ℕ) (v : ℕ → ℕ → ℕ) (z u s : ℕ) : Type 0 where
  pub within : k z + s ≤ k u
  pub last : c (v u (k z + s + (k z + s))) ≡ true
  pub beyond : (j : ℕ) → k z + s + (k z + s) < j → j ≤ k u + k u → c (v u j) ≡ false
  pub over : (j : ℕ) → j ≤ k z + k z → v u j ≡ v z j

-- the path of u avoids c, or crosses it
abbrev pub Way : Set → (ℕ → ℕ) → (ℕ → ℕ → ℕ) → ℕ → ℕ → ℕ → Type 0
Way c k v z u s = Crosses c k v z u s ⊎ ((s ≡ 0) × ((j : ℕ) → j ≤ k u + k u → c (v u j) ≡ false))

not_later : (c : Set) (k : ℕ → ℕ) (v : ℕ → ℕ → ℕ) (z u s t : ℕ) → Crosses c k v z u s → Crosses c k v z u t → s < t → ⊥
not_later c k v z u s t a b l = both_ways (c (v u (k z + t + (k z + t)))) (a.beyond (k z + t + (k z + t)) (omega arith) (let w = b.within in omega arith)) b.last

-- the number of pairs is determined
pub same_way : (c : Set) (k : ℕ → ℕ) (v : ℕ → ℕ → ℕ) (z u s t : ℕ) → Way c k v z u s → Way c k v z u t → s ≡ t
same_way c k v z u s t x y = elim x [
  | inl a ↦ elim y [
    | inl b ↦ elim (cases_lt s t) [
      | inl l ↦ absurd (not_later c k v z u s t a b l)
      | inr l ↦ elim (cases_lt t s) [
        | inl m ↦ absurd (not_later c k v z u t s b a m)
        | inr m ↦ omega arith
      ]
    ]
    | inr b ↦ absurd (both_ways (c (v u (k z + s + (k z + s)))) (b.1 (k z + s + (k z + s)) (let w = a.within in omega arith)) a.last)
  ]
  | inr a ↦ elim y [
    | inl b ↦ absurd (both_ways (c (v u (k z + t + (k z + t)))) (a.1 (k z + t + (k z + t)) (let w = b.within in omega arith)) b.last)
    | inr b ↦ a.0 ∙ sym b.0
  ]
]

module _ (given : ShrunkForest) where
  open given use {g, is, r, f, outer, inner, parent, mate, has, walked, c, z, fits}
  open given.walked use {k, v, forest}

  abbrev Up : ℕ → ℕ → Type 0
  Up u p = WalksUp outer k v parent mate u p

  -- the mate of a vertex with a path up
  pub inner_mate : (u p : ℕ) → outer u ≡ true → Up u p → inner (mate u) ≡ true
  inner_mate u p o w = let q = w.pairs in ap inner (sym w.inner) ∙ (forest.sides u o (suc (k p + k p)) (omega arith)).1 ∙ ap not (odd-double (k p))

  pub mate_within : (u p : ℕ) → outer u ≡ true → Up u p → Within g.order (mate u)
  mate_within u p o w = let q = w.pairs in subst (Within g.order) w.inner ((forest.path u o).path.within (suc (k p + k p)) (omega arith))

  pub mate_out : (u p : ℕ) → outer u ≡ true → c u ≡ false → Up u p → c (mate u) ≡ false
  mate_out u p o cu w = false_from_ne_true (c (mate u)) (λ t. both_ways (c u) cu (ap c (sym back) ∙ fits.pairs (mate u) t not_base))
    where
      not_base : mate u ≢ z
      not_base q = both_ways (inner z) (forest.apart z fits.base_outer) (ap inner (sym q) ∙ inner_mate u p o w)

      back : mate (mate u) ≡ u
      back = (mate_back g is r f mate has u (forest.outer_in u o).0 (λ q. let a = mate_within u p o w in absurd (omega arith))).1

  -- the two last vertices of the path of a vertex outside c
  above : (u p : ℕ) → outer u ≡ true → c u ≡ false → Up u p → (j : ℕ) → k p + k p < j → j ≤ k u + k u → c (v u j) ≡ false
  above u p o cu w j lo hi = let q = w.pairs in elim (cases_eq j (suc (k p + k p))) [
    | inl s ↦ ap (λ i. c (v u i)) s ∙ ap c w.inner ∙ mate_out u p o cu w
    | inr s ↦ let t : j ≡ k u + k u = omega arith in ap (λ i. c (v u i)) t ∙ ap c (forest.last u o) ∙ cu
  ]

  pub way_on : (u p s : ℕ) → outer u ≡ true → c u ≡ false → Up u p → Way c k v z p s → Way c k v z u s
  way_on u p s o cu w way = elim way [
    | inl x ↦ inl (record {
      within = let a = w.pairs in let b = x.within in omega arith;
      last = ap c (w.before (k z + s + (k z + s)) (let b = x.within in omega arith)) ∙ x.last;
      beyond = λ j lo hi. elim (cases_lt (k p + k p) j) [
        | inl l ↦ above u p o cu w j l hi
        | inr l ↦ ap c (w.before j l) ∙ x.beyond j lo l
      ];
      over = λ j l. w.before j (let b = x.within in omega arith) ∙ x.over j l;
    })
    | inr x ↦ inr (
      x.0,
      λ j l. elim (cases_lt (k p + k p) j) [
        | inl b ↦ above u p o cu w j b l
        | inr b ↦ ap c (w.before j b) ∙ x.1 j b
      ],
    )
  ]

  pub way_in : (u : ℕ) → c u ≡ true → outer u ≡ true → Way c k v z u (k u - k z)
  way_in u t o = let a = fits.over u t o in let few = a.0 in inl (record {
    within = omega arith;
    last = ap (λ i. c (v u i)) (omega arith) ∙ ap c (forest.last u o) ∙ t;
    beyond = λ j lo hi. absurd (omega arith);
    over = a.1;
  })

  way_root : (u : ℕ) → outer u ≡ true → c u ≡ false → k u ≡ 0 → Way c k v z u 0
  way_root u o q n = inr (refl, λ j l. let t : j ≡ k u + k u = omega arith in ap (λ i. c (v u i)) t ∙ ap c (forest.last u o) ∙ q)

  find : (n u : ℕ) → k u ≤ n → outer u ≡ true → (s : ℕ) × Way c k v z u s
  find zero u l o = elim (cases_Bool (c u)) [
    | inl t ↦ (k u - k z, way_in u t o)
    | inr q ↦ (0, way_root u o q (omega arith))
  ]
  find (suc n) u l o = elim (cases_Bool (c u)) [
    | inl t ↦ (k u - k z, way_in u t o)
    | inr q ↦ elim (cases_eq (k u) 0) [
      | inl s ↦ (0, way_root u o q s)
      | inr s ↦
          let p = walked.up u o s in
          let h = find n p.0 (let a = p.1.pairs in omega arith) p.1.outer_is in
          (h.0, way_on u p.0 h.0 o q p.1 h.1)
    ]
  ]

  -- how many pairs each path leaves out
  pub ways : (u : ℕ) → (s : ℕ) × (outer u ≡ true → Way c k v z u s)
  ways u = elim (cases_Bool (outer u)) [
    | inl o ↦ let h = find (k u) u (omega arith) o in (h.0, λ t. h.1)
    | inr q ↦ (0, λ t. absurd (both_ways (outer u) q t))
  ]
