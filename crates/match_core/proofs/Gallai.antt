-- Gallai's lemma: if each vertex is missed by some maximum matching, none misses two vertices of
-- one component. By induction on a walk between the two, and an exchange of one edge that makes two
-- maximum matchings share one more edge.
use Rattle.graph_core.proofs.from_counting.Common.{◌≡◌, ℕ, suc, zero, ◌+◌, ◌≤◌, ◌<◌, ◌≢◌, Bool, true, false, cond, ◌==◌, refl, sym, ap, ◌∙◌, arith, ◌&&◌, not, eq-eqb, ne_eqb, eqb-true, inl, inr, subst, List, [], ◌∷◌, cases_eq, cases_Bool, cases_order, both_ways, count_put, bit_true, count_congr, count_le_one, some_term, total_add, total_congr, total_le, two_le_total, and_comm, Within, bit, count, total, Set, put}
use Rattle.graph_core.proofs.Common.{add_edge, bit_other, bit_same, degree_put, edge_at, edge_of, ends_le_degree, ends_of, ends_of_is, missed_edges, shared, shared_le, shared_put, two_ends_le_degree, adjacent-edge, adjacent_within, Graph, IsGraph, degree, size, HasEnds, IsMaximum, missed_count, Walk, adjacent}

-- two maximum matchings, of which one misses u and v and the other t: the second can be made more
-- like the first
module _ (g : Graph) (is : IsGraph g) (r m n : Set) (mm : IsMaximum g r m) (nn : IsMaximum g r n) where
  same_count : count (size g) m ≡ count (size g) n
  same_count = let a = mm.most n nn.is in let b = nn.most m mm.is in omega arith

  a_set : Set
  a_set v = not (r v) && (degree g m v == 0)

  b_set : Set
  b_set v = not (r v) && (degree g n v == 0)

  same_missed : count g.order a_set ≡ count g.order b_set
  unfolding a_set b_set missed_count
  same_missed = let a = missed_edges g r m is mm.is in let b = missed_edges g r n is nn.is in let c = same_count in omega arith

  -- another vertex that n misses and m does not
  find_x : (u v t : ℕ) → Within g.order u → Within g.order v → Within g.order t → u ≢ v → a_set u ≡ true → a_set v ≡ true → b_set u ≡ false → b_set v ≡ false → (x : ℕ) × Within g.order x × (b_set x ≡ true) × (a_set x ≡ false) × (t ≢ x)
  find_x u v t wu wv wt d au av bu bv =
      let x = some_term g.order (λ x. bit ((b_set x && not (a_set x)) && not (t == x))) (omega (arith, two, split_a, split_b, same_missed, drop_t, one_t)) in
      let p = one_of_three (b_set x.0) (a_set x.0) (t == x.0) (bit_true ((b_set x.0 && not (a_set x.0)) && not (t == x.0)) x.2) in
      (x.0, x.1, p.0, p.1, λ e. both_ways (t == x.0) p.2 (eq-eqb t x.0 e))
    where
      one_of_three : (a b c : Bool) → ((a && not b) && not c) ≡ true → (a ≡ true) × (b ≡ false) × (c ≡ false)
      one_of_three a b c h = grind arith

      p : Set
      p v = a_set v && not (b_set v)

      q : Set
      q v = b_set v && not (a_set v)

      halves : (a b : Set) → count g.order a ≡ count g.order (λ v. a v && b v) + count g.order (λ v. a v && not (b v))
      halves a b = total_congr g.order _ _ (λ v w. bits (a v) (b v)) ∙ total_add g.order (λ v. bit (a v && b v)) (λ v. bit (a v && not (b v)))
        where
          bits : (s t : Bool) → bit s ≡ bit (s && t) + bit (s && not t)
          bits s t = grind arith

      split_a : count g.order a_set ≡ count g.order (λ v. a_set v && b_set v) + count g.order p
      split_a = halves a_set b_set

      split_b : count g.order b_set ≡ count g.order (λ v. a_set v && b_set v) + count g.order q
      split_b = halves b_set a_set ∙ ap (λ k. k + count g.order q) (count_congr g.order _ _ (λ v w. and_comm (b_set v) (a_set v)))

      two : 2 ≤ count g.order p
      two = let pu : bit (p u) ≡ 1 = rw (au, bu) refl in let pv : bit (p v) ≡ 1 = rw (av, bv) refl in elim (cases_order u v) [
        | inl e ↦ absurd (d e)
        | inr e ↦ elim e [
          | inl l ↦ let z = two_le_total g.order (λ v. bit (p v)) u v wu wv l in omega arith
          | inr l ↦ let z = two_le_total g.order (λ v. bit (p v)) v u wv wu l in omega arith
        ]
      ]

      one_t : count g.order (λ x. t == x) ≤ 1
      one_t = count_le_one g.order (λ x. t == x) (λ x y wx wy l ex ey. let a = eqb-true t x ex in let b = eqb-true t y ey in absurd (omega arith))

      drop_t : count g.order q ≤ total g.order (λ x. bit (q x && not (t == x))) + count g.order (λ x. t == x)
      drop_t = let z = total_add g.order (λ x. bit (q x && not (t == x))) (λ x. bit (t == x)) in
          let k = total_le g.order (λ x. bit (q x)) (λ x. bit (q x && not (t == x)) + bit (t == x)) (λ x w. bits (q x) (t == x)) in omega arith
        where
          bits : (s t : Bool) → bit s ≤ bit (s && not t) + bit t
          bits s t = grind arith

module _ (g : Graph) (is : IsGraph g) (r m n : Set) (mm : IsMaximum g r m) (nn : IsMaximum g r n)
    (u v t : ℕ) (wu : Within g.order u) (wv : Within g.order v) (wt : Within g.order t) (d : u ≢ v) (ru : r u ≡ false) (rv : r v ≡ false) (rt : r t ≡ false)
    (mu : degree g m u ≡ 0) (mv : degree g m v ≡ 0) (nu : 0 < degree g n u) (nv : 0 < degree g n v) (nt : degree g n t ≡ 0) where
  missing : (l : Set) (z : ℕ) → r z ≡ false → degree g l z ≡ 0 → (not (r z) && (degree g l z == 0)) ≡ true
  missing l z a b = rw (a, b) refl

  meeting : (l : Set) (z : ℕ) → 0 < degree g l z → (not (r z) && (degree g l z == 0)) ≡ false
  meeting l z a = grind arith

  found : (x : ℕ) × Within g.order x × (b_set g is r m n mm nn x ≡ true) × (a_set g is r m n mm nn x ≡ false) × (t ≢ x)
  unfolding a_set b_set
  found = find_x g is r m n mm nn u v t wu wv wt d (missing m u ru mu) (missing m v rv mv) (meeting n u nu) (meeting n v nv)

  abbrev x : ℕ
  x = found.0

  x_parts : (r x ≡ false) × (degree g n x ≡ 0) × (0 < degree g m x)
  unfolding a_set b_set
  x_parts = grind arith

  at_x : (e : ℕ) × Within (size g) e × (m e ≡ true) × ((y : ℕ) × HasEnds g e x y)
  at_x = edge_at g m x x_parts.2

  abbrev e : ℕ
  e = at_x.0

  abbrev y : ℕ
  y = at_x.3.0

  ends_e : (z : ℕ) → ends_of g e z ≡ bit (x == z) + bit (y == z)
  ends_e = ends_of_is g e x y at_x.3.1

  m_at : (z : ℕ) → ends_of g e z ≤ degree g m z
  m_at z = ends_le_degree g m e z at_x.1 at_x.2

  x_ne_y : x ≢ y
  x_ne_y q = let a = m_at x in let b = ends_e x in let c = bit_same x in let o = mm.is.once x found.1 in let f = ap bit (eq-eqb y x (sym q)) in absurd (omega arith)

  wy : Within g.order y
  wy = elim at_x.3.1 [ inl p ↦ subst (Within g.order) p.1 (is e at_x.1).1 | inr p ↦ subst (Within g.order) p.0 (is e at_x.1).0 ]

  ry : r y ≡ false
  ry = grind (arith, cases_Bool (r y), m_at y, ends_e y, bit_same y, wy)

  n_e : n e ≡ false
  n_e = elim (cases_Bool (n e)) [
    | inr f ↦ f
    | inl o ↦ let a = ends_le_degree g n e x at_x.1 o in let b = ends_e x in let c = bit_same x in let z = x_parts.1 in absurd (omega arith)
  ]

  n_y : 0 < degree g n y
  n_y = elim (cases_eq (degree g n y) 0) [
    | inl z ↦ let a = add_edge g r n e x y nn.is at_x.1 x_ne_y x_parts.0 ry at_x.3.1 x_parts.1 z in let b = nn.most (put n e true) a.0 in let c = a.1 in absurd (omega arith)
    | inr z ↦ omega arith
  ]

  at_y : (f : ℕ) × Within (size g) f × (n f ≡ true) × ((z : ℕ) × HasEnds g f y z)
  at_y = edge_at g n y n_y

  abbrev f : ℕ
  f = at_y.0

  e_ne_f : e ≢ f
  e_ne_f q = both_ways (n e) n_e (ap n q ∙ at_y.2)

  ends_f_y : 1 ≤ ends_of g f y
  ends_f_y = let a = ends_of_is g f y at_y.3.0 at_y.3.1 y in let b = bit_same y in omega arith

  m_f : m f ≡ false
  m_f = elim (cases_Bool (m f)) [
    | inr q ↦ q
    | inl q ↦ let a = two_ends_le_degree g m e f y at_x.1 at_y.1 e_ne_f at_x.2 q in let b = ends_e y in let c = bit_same y in let h = ends_f_y in let o = mm.is.once y wy in absurd (omega arith)
  ]

  abbrev half_way : Set
  half_way = put n f false

  half_e : half_way e ≡ false
  half_e = ap (λ b. cond b false (n e)) (ne_eqb e f e_ne_f) ∙ n_e

  abbrev k : Set
  k = put half_way e true

  degree_k : (z : ℕ) → degree g k z + ends_of g f z ≡ degree g n z + (bit (x == z) + bit (y == z))
  degree_k z = grind (arith, degree_put g n f false z at_y.1, degree_put g half_way e true z at_x.1, ends_of g f z, ends_of g e z, half_e, ends_e z)

  count_k : count (size g) k ≡ count (size g) n
  count_k = let a = count_put (size g) n f false at_y.1 in let b = count_put (size g) half_way e true at_x.1 in let c = ap bit at_y.2 in let h = ap bit half_e in omega arith

  once : (z : ℕ) → Within g.order z → degree g k z ≤ 1
  once z w = grind (arith, degree_k, cases_eq, bit_other, x_ne_y, degree, bit, eq-eqb, x_parts, ends_of, ends_f_y)

  away : (z : ℕ) → Within g.order z → r z ≡ true → degree g k z ≡ 0
  away z w o = grind (arith, degree_k, bit_other, both_ways, x_parts, ry)

  miss_t : degree g k t ≡ 0
  miss_t = grind (arith, degree_k, bit_other, found, degree, n_y)

  more : shared (size g) m k ≡ shared (size g) m n + 1
  more = grind (arith, shared_put (size g) m n f false at_y.1, shared_put (size g) m half_way e true at_x.1, m_f, half_e)

  pub exchange : (l : Set) × IsMaximum g r l × (degree g l t ≡ 0) × (shared (size g) m l ≡ shared (size g) m n + 1)
  exchange = (k, record { is = record { once = once; away = away }; most = λ j p. let a = nn.most j p in let b = count_k in omega arith }, miss_t, more)

-- where each vertex is missed by some maximum matching, none misses two vertices of one component
module _ (g : Graph) (is : IsGraph g) (r : Set) (missed_by : (v : ℕ) → Within g.order v → r v ≡ false → (m : Set) × IsMaximum g r m × (degree g m v ≡ 0)) where
  -- by how much n shares with m
  never : (fuel : ℕ) (m n : Set) → IsMaximum g r m → IsMaximum g r n → (u v t : ℕ) → Within g.order u → Within g.order v → Within g.order t → u ≢ v → r u ≡ false → r v ≡ false → r t ≡ false →
      degree g m u ≡ 0 → degree g m v ≡ 0 → ((k : Set) → IsMaximum g r k → degree g k t ≡ 0 → (0 < degree g k u) × (0 < degree g k v)) → degree g n t ≡ 0 → size g < shared (size g) m n + fuel → ⊥
  never zero m n mm nn u v t wu wv wt d ru rv rt mu mv meets nt h = let a = shared_le (size g) m n in absurd (omega arith)
  never (suc fuel) m n mm nn u v t wu wv wt d ru rv rt mu mv meets nt h =
      let a = meets n nn nt in
      let k = exchange g is r m n mm nn u v t wu wv wt d ru rv rt mu mv a.0 a.1 nt in
      never fuel m k.0 mm k.1 u v t wu wv wt d ru rv rt mu mv meets k.2 (let b = k.3 in omega arith)

  -- two missed vertices that an edge joins
  pub not_adjacent : (m : Set) → IsMaximum g r m → (u v : ℕ) → adjacent g r u v ≡ true → u ≢ v → degree g m u ≡ 0 → degree g m v ≡ 0 → ⊥
  not_adjacent m mm u v a d mu mv =
      let e = edge_of g r u v a in
      let b = add_edge g r m e.0 u v mm.is e.1 d e.2 e.3 e.4 mu mv in
      let c = mm.most (put m e.0 true) b.0 in let h = b.1 in absurd (omega arith)

  pub no_two : (ws : List ℕ) (m : Set) → IsMaximum g r m → (u v : ℕ) → Walk (adjacent g r) u ws v → u ≢ v → degree g m u ≡ 0 → degree g m v ≡ 0 → ⊥
  no_two [] m mm u v w d mu mv = d w
  no_two (t ∷ ws) m mm u v w d mu mv = elim (cases_eq t v) [
    | inl q ↦ not_adjacent m mm u v (subst (λ z. adjacent g r u z ≡ true) q w.0) d mu mv
    | inr tv ↦ elim (cases_eq t u) [
      | inl q ↦ no_two ws m mm u v (subst (λ z. Walk (adjacent g r) z ws v) q w.1) d mu mv
      | inr tu ↦
          let p = edge_of g r u t w.0 in
          let wu = (adjacent_within g r is u t w.0).0 in
          let wt = (adjacent_within g r is u t w.0).1 in
          let e = walk_end ws t v w.1 wt p.3 in
          let n = missed_by t wt p.3 in
          never (suc (size g)) m n.0 mm n.1 u v t wu e.0 wt d p.2 e.1 p.3 mu mv
          (λ k kk kt. (pos (degree g k u) (λ z. not_adjacent k kk u t w.0 (λ q. tu (sym q)) z kt), pos (degree g k v) (λ z. no_two ws k kk t v w.1 tv kt z)))
          n.2 (omega arith)
    ]
  ]
    where
      pos : (d : ℕ) → (d ≡ 0 → ⊥) → 0 < d
      pos d h = omega arith

      walk_end : (ws : List ℕ) (t v : ℕ) → Walk (adjacent g r) t ws v → Within g.order t → r t ≡ false → Within g.order v × (r v ≡ false)
      walk_end [] t v w wt rt = (subst (Within g.order) w wt, ap r (sym w) ∙ rt)
      walk_end (z ∷ ws) t v w wt rt = walk_end ws z v w.1 (adjacent_within g r is t z w.0).1 (adjacent-edge g r t z w.0).1
