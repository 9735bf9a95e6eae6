-- A search takes one component after another, each from the least vertex that is left. What does
-- the list hold at the end? The components, in the order of their least vertices, and the trees
-- of the searches are one forest.
use Rattle.std.proofs.Common.{◌≡◌, ℕ, suc, zero, ◌<◌, Bool, true, false, ◌==◌, refl, sym, ap, ap₂, ◌∙◌, arith, ◌&&◌, not, ◌⊎◌, inl, inr, List, [], ◌∷◌, ◌++◌, subst, eq-eqb, eqb-true, ne_eqb, cond, map, append_assoc, append-nil, nat_lt, ltb-true}
use Rattle.vset_core.proofs.from_counting.Common.{not_from_false, and_from, and_parts, both_ways, cases_Bool, cases_eq, false_from_ne_true, not-true, not-false, or_parts, rising_list-congr, rising_list-rises, mem-rising_list, same_rising_list, some_true, not_but_parts, or_fails_first, same_tests, and_false, and_true, Within, IsRisingIn, mem, rising_list, Set, complement, meet, minus, union, some}
use Rattle.graph_core.specs.Common.{components, is_least, Graph, IsGraph, IsComponentStage, Hangs, IsForest, Joined, Walk, adjacent, joined}
use Rattle.graph_core.proofs.Components.{joined_walk, walk_joined}
use Rattle.graph_core.proofs.Trees.{adjacent_more, hangs_more, joined_more, least_same}
use Rattle.graph_core.proofs.Walks.{adjacent-edge, adjacent_from, adjacent_within, adjacent_back, joined_self, joined_on}

-- nothing passes
rising_list-nothing : (n : ℕ) (x : Set) → ((v : ℕ) → Within n v → x v ≡ false) → rising_list n x ≡ []
rising_list-nothing zero x h = refl
rising_list-nothing (suc n) x h = ap₂ ◌++◌ (rising_list-nothing n x (λ v w. h v (omega arith))) (ap (λ b. cond b (suc n ∷ []) []) (h (suc n) (omega arith)))

-- the first of an increasing list is the least that passes
rising_list-first : (n : ℕ) (x y : Set) (u : ℕ) → Within n u → x u ≡ true → ((v : ℕ) → v < u → x v ≡ false) → ((v : ℕ) → Within n v → y v ≡ (x v && not (u == v))) → rising_list n x ≡ u ∷ rising_list n y
rising_list-first zero x y u w t low h = absurd (omega arith)
rising_list-first (suc n) x y u w t low h = elim (cases_eq u (suc n)) [
  | inl e ↦
      let xn : x (suc n) ≡ true = ap x (sym e) ∙ t in
      let yn : y (suc n) ≡ false = h (suc n) (omega arith) ∙ rw (eq-eqb u (suc n) e) (and_false (x (suc n))) in
      ap₂ ◌++◌ (rising_list-nothing n x (λ v wv. low v (omega arith))) (ap (λ b. cond b (suc n ∷ []) []) xn)
      ∙ ap (λ k. k ∷ []) (sym e)
      ∙ ap (λ ks. u ∷ ks) (sym (ap₂ ◌++◌ (rising_list-nothing n y (λ v wv. h v (omega arith) ∙ ap (λ b. b && not (u == v)) (low v (omega arith)))) (ap (λ b. cond b (suc n ∷ []) []) yn)))
  | inr d ↦
      let yn : y (suc n) ≡ x (suc n) = h (suc n) (omega arith) ∙ rw (ne_eqb u (suc n) d) (and_true (x (suc n))) in
      ap₂ ◌++◌ (rising_list-first n x y u (omega arith) t low (λ v wv. h v (omega arith))) (ap (λ b. cond b (suc n ∷ []) []) (sym yn))
]

-- the components found so far are the first ones of g - s; `left` has the vertices of the others
pub record AreFirst (g : Graph) (s left : Set) (parts : List (List ℕ)) : Type 0 where
  pub vertices : (v : ℕ) → left v ≡ true → Within g.order v × (s v ≡ false)
  pub closed : (u v : ℕ) → adjacent g s u v ≡ true → left u ≡ left v
  pub rest : parts ++ map (λ u. rising_list g.order (joined g s u)) (rising_list g.order (meet left (is_least g s))) ≡ components g s

module _ (g : Graph) (s : Set) (is : IsGraph g) where
  -- all vertices outside s are left
  pub parts_start : (left : Set) → ((v : ℕ) → left v ≡ true → Within g.order v × (s v ≡ false)) → ((v : ℕ) → Within g.order v → s v ≡ false → left v ≡ true) → AreFirst g s left []
  unfolding components
  parts_start left only all = grind (arith, adjacent-edge g s, adjacent_within g s is, both_ways, rising_list-congr g.order (meet left (is_least g s)) (is_least g s), not-true, and_parts)

  -- the same, with trees
  pub stage_start : (left : Set) (parent depth : ℕ → ℕ) → ((v : ℕ) → left v ≡ true → Within g.order v × (s v ≡ false)) → ((v : ℕ) → Within g.order v → s v ≡ false → left v ≡ true) → IsComponentStage g s left [] parent depth
  unfolding components
  stage_start left parent depth only all = grind (arith, adjacent-edge g s, adjacent_within g s is, both_ways, rising_list-congr g.order (meet left (is_least g s)) (is_least g s), not-true, and_parts)

  -- the vertices of the component of u, which is the first that is left, are those that a walk in
  -- what is left leads to
  joined_in_left : (left : Set) → ((v : ℕ) → left v ≡ true → Within g.order v × (s v ≡ false)) → ((u v : ℕ) → adjacent g s u v ≡ true → left u ≡ left v) → (u v : ℕ) → left u ≡ true → joined g (complement left) u v ≡ joined g s u v
  unfolding Joined
  joined_in_left left vertices closed u v lu = same_tests (joined g (complement left) u v) (joined g s u v)
      (λ h. walk_joined g s is u v wu (joined_more g (complement left) s (λ w o. (vertices w (not-false (left w) o)).1) u v (joined_walk g (complement left) u v h)))
      (λ h. let j = joined_walk g s u v h in walk_joined g (complement left) is u v wu (j.0, inside u j.0 lu j.1))
    where
      wu : Within g.order u
      wu = (vertices u lu).0

      inside : (u : ℕ) (ws : List ℕ) → left u ≡ true → Walk (adjacent g s) u ws v → Walk (adjacent g (complement left)) u ws v
      inside u [] lu w = w
      inside u (y ∷ ws) lu w =
          let ly : left y ≡ true = sym (closed u y w.0) ∙ lu in
          let p = adjacent-edge g s u y w.0 in
          (adjacent_from g (complement left) u y p.2.0 (ap not lu) (ap not ly) p.2.1 p.2.2, inside y ws ly w.1)

  -- the component of the first vertex that is left, and what is left after it
  module _ (left left' : Set) (parts : List (List ℕ)) (u : ℕ) (old : AreFirst g s left parts) (lu : left u ≡ true) (low : (v : ℕ) → v < u → left v ≡ false)
      (smaller : (v : ℕ) → left' v ≡ true → left v ≡ true) (takes : (v : ℕ) → Within g.order v → (left v && not (left' v)) ≡ joined g (complement left) u v) where
    wu : Within g.order u
    wu = (old.vertices u lu).0

    taken : (v : ℕ) → Within g.order v → (left v && not (left' v)) ≡ joined g s u v
    taken v w = takes v w ∙ joined_in_left left old.vertices old.closed u v lu

    -- u is the least of its component
    u_least : is_least g s u ≡ true
    u_least = and_from (not (s u)) (not (some g.order (λ v. joined g s u v && nat_lt v u))) (not_from_false (s u) (old.vertices u lu).1) (elim (cases_Bool (some g.order (λ v. joined g s u v && nat_lt v u))) [
      | inr n ↦ not_from_false _ n
      | inl t ↦ let q = some_true g.order (λ v. joined g s u v && nat_lt v u) t in
          let b = and_parts (joined g s u q.0) (nat_lt q.0 u) q.2 in
          let l = (and_parts (left q.0) (not (left' q.0)) (taken q.0 q.1 ∙ b.0)).0 in
          absurd (both_ways (left q.0) (low q.0 (ltb-true q.0 u b.1)) l)
    ])

    u_gone : left' u ≡ false
    u_gone = not-true (left' u) (and_parts (left u) (not (left' u)) (taken u wu ∙ walk_joined g s is u u wu (joined_self g s u))).1

    -- it goes from what is left to the list
    pub parts_step : (part : List ℕ) → IsRisingIn g.order part → ((v : ℕ) → Within g.order v → mem part v ≡ (left v && not (left' v))) → AreFirst g s left' (parts ++ part ∷ [])
    unfolding Joined
    parts_step part rising is_part = record {
      vertices = λ v h. old.vertices v (smaller v h);
      closed = closed';
      rest = append_assoc parts (part ∷ []) (map f (rising_list g.order (meet left' (is_least g s)))) ∙ ap (λ xs. parts ++ xs ∷ map f (rising_list g.order (meet left' (is_least g s)))) part_is ∙ ap (λ us. parts ++ map f us) (sym first) ∙ old.rest;
    }
      where
        f : ℕ → List ℕ
        f u = rising_list g.order (joined g s u)

        part_is : part ≡ f u
        part_is = same_rising_list g.order part (f u) rising (rising_list-rises g.order (joined g s u)) (λ v w. is_part v w ∙ taken v w ∙ sym (mem-rising_list g.order (joined g s u) v w))

        closed' : (a b : ℕ) → adjacent g s a b ≡ true → left' a ≡ left' b
        closed' a b ab =
            let w = adjacent_within g s is a b ab in
            rest_same (left a) (left b) (left' a) (left' b) (old.closed a b ab) (smaller a) (smaller b)
            (taken a w.0 ∙ same_tests (joined g s u a) (joined g s u b)
            (λ h. walk_joined g s is u b wu (joined_on g s u a b (joined_walk g s u a h) (b ∷ [], (ab, refl))))
            (λ h. walk_joined g s is u a wu (joined_on g s u b a (joined_walk g s u b h) (a ∷ [], (adjacent_back g s a b ab, refl))))
            ∙ sym (taken b w.1))
          where
            rest_same : (p q p' q' : Bool) → p ≡ q → (p' ≡ true → p ≡ true) → (q' ≡ true → q ≡ true) → (p && not p') ≡ (q && not q') → p' ≡ q'
            rest_same p q p' q' e f h k = grind arith

        -- the least vertices that are left: u, and those that are left after it
        first : rising_list g.order (meet left (is_least g s)) ≡ u ∷ rising_list g.order (meet left' (is_least g s))
        first = rising_list-first g.order (meet left (is_least g s)) (meet left' (is_least g s)) u wu (and_from (left u) (is_least g s u) lu u_least) (λ v l. ap (λ b. b && is_least g s v) (low v l)) (λ v w. elim (cases_eq u v) [
          | inl e ↦ ap (λ b. b && is_least g s v) (ap left' (sym e) ∙ u_gone) ∙ sym (rw (eq-eqb u v e) (and_false (left v && is_least g s v)))
          | inr d ↦ rw (ne_eqb u v d) (keep (left v) (left' v) (is_least g s v) (smaller v) (λ l. false_from_ne_true (left v && not (left' v)) (λ t. d (least_same g s is u v wu w u_least l (joined_walk g s u v (sym (taken v w) ∙ t))))))
        ])
          where
            keep : (a b l : Bool) → (b ≡ true → a ≡ true) → (l ≡ true → (a && not b) ≡ false) → (b && l) ≡ ((a && l) && true)
            keep a b l f h = grind arith

  -- the same with the trees
  pub stage_step : (left left' : Set) (parts : List (List ℕ)) (part : List ℕ) (parent parent' depth depth' : ℕ → ℕ) (u : ℕ) → IsComponentStage g s left parts parent depth → left u ≡ true → ((v : ℕ) → v < u → left v ≡ false) →
      ((v : ℕ) → left' v ≡ true → left v ≡ true) → ((v : ℕ) → Within g.order v → (left v && not (left' v)) ≡ joined g (complement left) u v) → IsForest g (complement (minus left left')) (λ v. u == v) parent' depth' →
      ((v : ℕ) → Within g.order v → left v ≡ false → (parent' v ≡ parent v) × (depth' v ≡ depth v)) → IsRisingIn g.order part → ((v : ℕ) → Within g.order v → mem part v ≡ (left v && not (left' v))) →
      IsComponentStage g s left' (parts ++ part ∷ []) parent' depth'
  stage_step left left' parts part parent parent' depth depth' u old lu low smaller takes tree same rising is_part = record {
    vertices = now.vertices;
    closed = now.closed;
    tree = record { stands = λ v w out. stand v w (or_parts (s v) (left' v) out) };
    rest = now.rest;
  }
    where
      first : AreFirst g s left parts
      first = record { vertices = old.vertices; closed = old.closed; rest = old.rest }

      now : AreFirst g s left' (parts ++ part ∷ [])
      now = parts_step left left' parts u first lu low smaller takes part rising is_part

      least : is_least g s u ≡ true
      least = u_least left left' parts u first lu low smaller takes

      -- what is outside the new set was found now or before
      stand : (v : ℕ) → Within g.order v → (s v ≡ false) × (left' v ≡ false) → ((is_least g s v ≡ true) × (depth' v ≡ 0)) ⊎ Hangs g (union s left') parent' depth' v
      stand v w out = elim (cases_Bool (left v)) [
        | inl l ↦ elim (tree.stands v w (rw (l, out.1) refl)) [
          | inl k ↦ let e = eqb-true u v k.0 in inl (subst (λ v. is_least g s v ≡ true) e least, k.1)
          | inr k ↦ inr (hangs_more g (complement (minus left left')) (union s left') parent' depth' v now k)
        ]
        | inr l ↦ elim (old.tree.stands v w (rw (out.0, l) refl)) [
          | inl k ↦ inl (k.0, (same v w l).1 ∙ k.1)
          | inr k ↦ inr (before k)
        ]
      ]
        where
          now : (w : ℕ) → complement (minus left left') w ≡ false → union s left' w ≡ false
          now w h = let p = not_but_parts (left w) (left' w) h in rw ((old.vertices w p.0).1, p.1) refl

          before : Hangs g (union s left) parent depth v → Hangs g (union s left') parent' depth' v
          before k = grind (arith, or_parts, adjacent-edge, adjacent_within, adjacent_more)

  -- with nothing left, the list is that of the components, and the trees are search trees of g - s
  pub stage_end : (left : Set) (parts : List (List ℕ)) (parent depth : ℕ → ℕ) → IsComponentStage g s left parts parent depth → ((v : ℕ) → left v ≡ false) → (parts ≡ components g s) × IsForest g s (is_least g s) parent depth
  stage_end left parts parent depth old none_left = grind (arith, append-nil parts, rising_list-nothing g.order (meet left (is_least g s)), hangs_more g (union s left) s parent depth, or_fails_first)

  pub parts_end : (left : Set) (parts : List (List ℕ)) → AreFirst g s left parts → ((v : ℕ) → left v ≡ false) → parts ≡ components g s
  parts_end left parts old none_left = grind (arith, append-nil parts, rising_list-nothing g.order (meet left (is_least g s)))
