-- Hall's theorem: where each part of a set has at least as many neighbours, each member gets a
-- neighbour of its own. By induction on the set: either some proper part is just met, and both
-- sides are done apart, or one member takes any neighbour.
use Rattle.graph_core.proofs.from_counting.Common.{◌≡◌, ℕ, suc, zero, ◌+◌, ◌≤◌, ◌<◌, ◌≢◌, Bool, true, false, cond, ◌==◌, refl, ap, ◌∙◌, arith, ◌&&◌, ◌||◌, not, eq-eqb, eqb-true, nat_lt, lt-ltb, ltb-true, inl, inr, cases_eq, false_from_ne_true, both_ways, and_parts, and_from, Respects, choose_set, count_congr, count_le_one, count_of_one, count_member, count_minus, count_zero, member_count, count_singleton, count_mono, some_congr, some_true, true_some, some_or, total_add, total_congr, total_le, total_none, total_swap, total_tight, Within, bit, count, total, Set, meet, minus, singleton, union, some}
use Rattle.barrier_kit.specs.Common.{Picks, neighbours}

module _ (n : ℕ) (f : ℕ → ℕ → Bool) where
  abbrev Enough : Set → Set → Type 0
  Enough a c = (z : Set) → count n (meet z a) ≤ count n (neighbours n f c (meet z a))

  met_congr : (c y z : Set) → ((u : ℕ) → Within n u → y u ≡ z u) → count n (neighbours n f c y) ≡ count n (neighbours n f c z)
  met_congr c y z h = count_congr n _ _ (λ v w. ap (λ k. c v && k) (some_congr n _ _ (λ u x. ap (λ k. k && f u v) (h u x))))

  no_members : (a c : Set) → count n a ≡ 0 → Picks n f a c
  no_members a c e = record {
    to = λ u. u;
    lands = λ u w t. absurd (both_ways (a u) (count_zero n a e u w) t);
    apart = λ u v wu wv tu tv q. q;
  }

  -- a set of members with no more than they need, apart from the rest
  module _ (a c z : Set) (enough : Enough a c) (critical : count n (meet z a) ≡ count n (neighbours n f c (meet z a))) where
    abbrev c1 : Set
    c1 = neighbours n f c (meet z a)

    first : Enough (meet z a) c1
    first y = let h = enough (meet y z) in
        let e = count_congr n (meet (meet y z) a) (meet y (meet z a)) (λ v w. assoc (y v) (z v) (a v)) in
        let d = met_congr c (meet (meet y z) a) (meet y (meet z a)) (λ v w. assoc (y v) (z v) (a v)) in
        let k = count_congr n (neighbours n f c (meet y (meet z a))) (neighbours n f c1 (meet y (meet z a))) (λ v w. inner_met v) in omega arith
      where
        assoc : (p q r : Bool) → ((p && q) && r) ≡ (p && (q && r))
        assoc p q r = grind arith

        bits : (p q r : Bool) → (r ≡ true → q ≡ true) → (p && r) ≡ ((p && q) && r)
        bits p q r h = grind arith

        inner_met : (v : ℕ) → neighbours n f c (meet y (meet z a)) v ≡ neighbours n f c1 (meet y (meet z a)) v
        inner_met v = bits (c v) (some n (λ u. meet z a u && f u v)) (some n (λ u. meet y (meet z a) u && f u v)) (λ t.
            let r = some_true n (λ u. meet y (meet z a) u && f u v) t in true_some n (λ u. meet z a u && f u v) r.0 r.1 (grind arith))

    second : Enough (minus a z) (minus c c1)
    second y =
        let h = enough (union z y) in
        let e = total_congr n (λ v. bit (meet (union z y) a v)) (λ v. bit (meet z a v) + bit (meet y (minus a z) v)) (λ v w. grind arith) in
        let e' = total_add n (λ v. bit (meet z a v)) (λ v. bit (meet y (minus a z) v)) in
        let d = total_congr n (λ v. bit (neighbours n f c (meet (union z y) a) v)) (λ v. bit (c1 v) + bit (neighbours n f (minus c c1) (meet y (minus a z)) v)) (λ v w. split v) in
        let d' = total_add n (λ v. bit (c1 v)) (λ v. bit (neighbours n f (minus c c1) (meet y (minus a z)) v)) in omega arith
      where
        join : (p q r : Bool) → bit (p && (q || r)) ≡ bit (p && q) + bit ((p && not (p && q)) && r)
        join p q r = grind arith

        split : (v : ℕ) → bit (neighbours n f c (meet (union z y) a) v) ≡ bit (c1 v) + bit (neighbours n f (minus c c1) (meet y (minus a z)) v)
        split v = ap (λ k. bit (c v && k)) (some_congr n _ _ (λ u w. grind arith) ∙ some_or n (λ u. meet z a u && f u v) (λ u. meet y (minus a z) u && f u v))
            ∙ join (c v) (some n (λ u. meet z a u && f u v)) (some n (λ u. meet y (minus a z) u && f u v))

    both_sets : Picks n f (meet z a) c1 → Picks n f (minus a z) (minus c c1) → Picks n f a c
    both_sets p q = record { to = λ u. cond (z u) (p.to u) (q.to u); lands = grind arith; apart = grind arith }
      where
        never : (u v : ℕ) → Within n u → Within n v → a u ≡ true → a v ≡ true → z u ≡ true → z v ≡ false → p.to u ≡ q.to v → ⊥
        never u v wu wv tu tv zu zv e = grind arith

  -- no set is critical: take any member of c for w
  module _ (a c : Set) (enough : Enough a c) (loose : (z : Set) → 0 < count n (meet z a) → count n (meet z a) < count n a → count n (meet z a) ≡ count n (neighbours n f c (meet z a)) → ⊥)
      (w x : ℕ) (ww : Within n w) (aw : a w ≡ true) (wx : Within n x) (cx : c x ≡ true) (fx : f w x ≡ true) where
    without : Enough (minus a (singleton w)) (minus c (singleton x))
    without y = elim (cases_eq (count n (meet y (minus a (singleton w)))) 0) [
      | inl e ↦ omega arith
      | inr e ↦
          let z : Set = meet y (λ u. not (w == u)) in
          let same = count_congr n (meet z a) (meet y (minus a (singleton w))) (λ u t. turn (y u) (w == u) (a u)) in
          let same' = met_congr c (meet z a) (meet y (minus a (singleton w))) (λ u t. turn (y u) (w == u) (a u)) in
          let h = enough z in
          let less = count_mono n (meet y (minus a (singleton w))) (minus a (singleton w)) (λ u t k. (and_parts (y u) (minus a (singleton w) u) k).1) in
          let one = count_minus n a w ww aw in
          let l : count n (meet z a) ≢ count n (neighbours n f c (meet z a)) = λ q. loose z (omega arith) (omega arith) q in
          let first_end = total_le n (λ v. bit (neighbours n f c (meet y (minus a (singleton w))) v)) (λ v. bit (neighbours n f (minus c (singleton x)) (meet y (minus a (singleton w))) v) + bit (singleton x v)) (λ v t. grind arith) in
          let near' = total_add n (λ v. bit (neighbours n f (minus c (singleton x)) (meet y (minus a (singleton w))) v)) (λ v. bit (singleton x v)) in
          let k = count_singleton n x wx in omega arith
    ]
      where
        turn : (p q r : Bool) → ((p && not q) && r) ≡ (p && (r && not q))
        turn p q r = grind arith

    one_more : Picks n f (minus a (singleton w)) (minus c (singleton x)) → Picks n f a c
    one_more p = record { to = λ u. cond (w == u) x (p.to u); lands = grind arith; apart = grind arith }
      where
        never : (v : ℕ) → Within n v → a v ≡ true → (w == v) ≡ false → x ≡ p.to v → ⊥
        never v wv tv d e = grind arith

  record Choice (a c : Set) : Type 0 where
    member : ℕ
    choice : ℕ
    inside : Within n member
    is : a member ≡ true
    within : Within n choice
    in_c : c choice ≡ true
    fits : f member choice ≡ true

  a_choice : (a c : Set) → 0 < count n a → Enough a c → Choice a c
  a_choice a c pos enough =
      let w = count_member n a pos in
      let h = enough (singleton w.0) in
      let one : 1 ≤ count n (meet (singleton w.0) a) = member_count n (meet (singleton w.0) a) w.0 w.1 (and_from (w.0 == w.0) (a w.0) (eq-eqb w.0 w.0 refl) w.2) in
      let x = count_member n (neighbours n f c (meet (singleton w.0) a)) (omega arith) in
      let p = and_parts (c x.0) (some n (λ u. meet (singleton w.0) a u && f u x.0)) x.2 in
      let u = some_true n (λ u. meet (singleton w.0) a u && f u x.0) p.1 in
      let q = and_parts (meet (singleton w.0) a u.0) (f u.0 x.0) u.2 in
      let i = and_parts (w.0 == u.0) (a u.0) q.0 in
      record { member = u.0; choice = x.0; inside = u.1; is = i.1; within = x.1; in_c = p.0; fits = q.1 }

  abbrev is_critical : Set → Set → Set → Bool
  is_critical a c z = nat_lt 0 (count n (meet z a)) && (nat_lt (count n (meet z a)) (count n a) && (count n (meet z a) == count n (neighbours n f c (meet z a))))

  respects : (a c : Set) → Respects n (is_critical a c)
  respects a c = grind (arith, count_congr n, met_congr c, nat_lt 0, nat_lt)

  -- the theorem of Hall
  pub hall : (k : ℕ) (a c : Set) → count n a ≤ k → ((z : Set) → count n (meet z a) ≤ count n (neighbours n f c (meet z a))) → Picks n f a c
  hall zero a c l enough = no_members a c (omega arith)
  hall (suc k) a c l enough = elim (cases_eq (count n a) 0) [
    | inl e ↦ no_members a c e
    | inr e ↦ elim (choose_set n (is_critical a c) (respects a c)) [
      | inl r ↦
          let z : Set = r.0 in
          let p = and_parts (nat_lt 0 (count n (meet z a))) (nat_lt (count n (meet z a)) (count n a) && (count n (meet z a) == count n (neighbours n f c (meet z a)))) r.1 in
          let q = and_parts (nat_lt (count n (meet z a)) (count n a)) (count n (meet z a) == count n (neighbours n f c (meet z a))) p.1 in
          let pos = ltb-true 0 (count n (meet z a)) p.0 in
          let less = ltb-true (count n (meet z a)) (count n a) q.0 in
          let critical = eqb-true (count n (meet z a)) (count n (neighbours n f c (meet z a))) q.1 in
          let s = total_congr n (λ v. bit (meet z a v) + bit (minus a z v)) (λ v. bit (a v)) (λ v w. grind arith) in
          let t = total_add n (λ v. bit (meet z a v)) (λ v. bit (minus a z v)) in
          both_sets a c z enough critical (hall k (meet z a) (neighbours n f c (meet z a)) (omega arith) (first a c z enough critical)) (hall k (minus a z) (minus c (neighbours n f c (meet z a))) (omega arith) (second a c z enough critical))
      | inr none_critical ↦
          let w = a_choice a c (omega arith) enough in
          let loose : (z : Set) → 0 < count n (meet z a) → count n (meet z a) < count n a → count n (meet z a) ≡ count n (neighbours n f c (meet z a)) → ⊥ = λ z g l e. both_ways (is_critical a c z) (none_critical z) (and_from _ _ (lt-ltb 0 (count n (meet z a)) g) (and_from _ _ (lt-ltb (count n (meet z a)) (count n a) l) (eq-eqb _ _ e))) in
          let m = count_minus n a w.member w.inside w.is in
          one_more a c enough loose w.member w.choice w.inside w.is w.within w.in_c w.fits (hall k (minus a (singleton w.member)) (minus c (singleton w.choice)) (omega arith) (without a c enough loose w.member w.choice w.inside w.is w.within w.in_c w.fits))
    ]
  ]

  -- as many in a as in c: each of c is picked
  pub hits : (a c : Set) (p : Picks n f a c) → count n a ≡ count n c → (v : ℕ) → Within n v → c v ≡ true → (u : ℕ) × Within n u × (a u ≡ true) × (p.to u ≡ v)
  hits a c p e v wv cv =
      let h = total_tight n (λ i. bit (c i)) times few (let a = sum in omega arith) v wv in
      let b = ap bit cv in
      let r = count_member n (λ u. a u && (p.to u == v)) (omega arith) in
      let q = and_parts (a r.0) (p.to r.0 == v) r.2 in (r.0, r.1, q.0, eqb-true (p.to r.0) v q.1)
    where
      times : ℕ → ℕ
      times i = count n (λ u. a u && (p.to u == i))

      sum : total n times ≡ count n a
      sum = total_swap n n (λ i u. bit (a u && (p.to u == i))) ∙ total_congr n _ _ (λ u w. lands_once u w (a u) refl)
        where
          lands_once : (u : ℕ) → Within n u → (b : Bool) → a u ≡ b → total n (λ i. bit (a u && (p.to u == i))) ≡ bit (a u)
          lands_once u w true t = count_of_one n (λ i. a u) (p.to u) (p.lands u w t).0
          lands_once u w false t = rw t (total_none n (λ i. 0) (λ i w. refl))

      few : (i : ℕ) → Within n i → times i ≤ bit (c i)
      few i w = grind (arith, count_le_one, and_parts, eqb-true, total_none, false_from_ne_true, both_ways)
