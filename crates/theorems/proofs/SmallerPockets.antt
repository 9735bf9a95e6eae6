-- In the contraction of PocketContractions a cut pair gives a smaller pocket of the graph: a component
-- without the new vertex, and without a if the new vertex is in the cut pair. So if the graph has a
-- tight shore inside m and a, not a single vertex and not all of these, there is a smaller pocket.
-- Used by: PocketShelters.
use Rattle.tree_check.proofs.from_counting.Common.{◌≡◌, ℕ, ◌≤◌, ◌<◌, ◌≢◌, Bool, true, false, ◌==◌, ◌&&◌, ◌||◌, not, refl, sym, ap, ◌∙◌, arith, eq-eqb, eqb-true, ne_eqb, inl, inr, cases_Bool, or_cases, and_parts, and_from, both_ways, false_from_ne_true, or_left, or_right, same_tests, alike_not_apart, odd_three, count_plus, count_mono, member_count, two_members, two_of, some_true, true_some, Within, count, is_odd, Set, pair_set, some, union, complement, singleton}
use Rattle.barrier_kit.proofs.Common.{part_out, part_step, tight-turned}
use Rattle.graph_core.proofs.Common.{covered_perfect, covered_down, joined_self, walk_joined, joined_outside, tight_down, tight_from_cut, cut_congr, IsCovered, Graph, IsGraph, IsTight, IsCutPair, IsBicritical, IsNontrivial, Merges, first_end, in_cut, inside, second_end, size, joined}
use Rattle.quick_kinds.proofs.from_brick_kit.Bricks.{shore_pair}
use Rattle.separation_kit.proofs.CutPairs.{beside_pair}
use Rattle.theorems.proofs.MergedSets.{merged_set}
use Rattle.theorems.proofs.EvenPockets.{other_part, closed_even, pocket_off, shore_size}
use Rattle.theorems.proofs.PocketContractions.{Lift, contracted_bicritical, f_in, f_out, in_w, lift, lift_apart, off_down, off_up, own_s, own_t, w_d, w_tight}
use Rattle.theorems.proofs.Pockets.{Pocket}

-- a smaller pocket, beside the vertex r
pub record Smaller (g : Graph) (m : Set) (r : ℕ) : Type 0 where
  pub set : Set
  pub one : ℕ
  pub other : ℕ
  pub pocket : Pocket g set one other
  pub less : count g.order set < count g.order m
  pub beside : set r ≡ false
  pub apart : pair_set one other r ≡ false

module _ (g : Graph) (is : IsGraph g) (cov : IsCovered g) (bi : IsBicritical g) (m : Set) (a d : ℕ) (p : Pocket g m a d)
    (h : Graph) (f : ℕ → ℕ) (c : ℕ) (ish : IsGraph h) (merge : Merges g (complement (union m (singleton a))) h f c) where
  abbrev w : Set
  w = union m (singleton a)

  -- a cut pair of the contraction gives a smaller pocket, beside a vertex r outside m, a and d
  module _ (s t : ℕ) (cp : IsCutPair h s t) (r : ℕ) (wr : Within g.order r) (mr : m r ≡ false) (ar : pair_set a d r ≡ false) where
    ls : Lift g is cov bi m a d p h f c ish merge s
    ls = lift g is cov bi m a d p h f c ish merge s cp.first

    lt : Lift g is cov bi m a d p h f c ish merge t
    lt = lift g is cov bi m a d p h f c ish merge t cp.second

    abbrev two : Set
    two = pair_set ls.vertex lt.vertex

    w_a : w a ≡ true
    w_a = or_right (m a) (a == a) (eq-eqb a a refl)

    -- a component that does not contain c, nor the vertex of a if c is in the pair; and a vertex of
    -- another one
    record Chosen : Type 0 where
      pub far : ℕ
      pub far_within : Within h.order far
      pub far_off : pair_set s t far ≡ false
      pub near : ℕ
      pub near_within : Within h.order near
      pub near_off : pair_set s t near ≡ false
      pub away : joined h (pair_set s t) near far ≡ false
      pub no_c : joined h (pair_set s t) near c ≡ false
      pub no_a : pair_set s t c ≡ true → joined h (pair_set s t) near (f a) ≡ false

    chosen : Chosen
    chosen = elim (cases_Bool (pair_set s t c)) [
      | inr o ↦
          let k = other_part h s t c ish cp merge.new o in
          record { far = c; far_within = merge.new; far_off = o; near = k.0; near_within = k.1; near_off = k.2; away = k.3; no_c = k.3; no_a = λ i. absurd (both_ways (pair_set s t c) o i) }
      | inl i ↦ elim (cases_Bool (pair_set s t (f a))) [
        | inr o ↦
            let u = (f_in g is cov bi m a d p h f c ish merge a p.first w_a).0 in
            let k = other_part h s t (f a) ish cp u o in
            record { far = f a; far_within = u; far_off = o; near = k.0; near_within = k.1; near_off = k.2; away = k.3; no_c = part_out h (pair_set s t) k.0 c ish k.2 i; no_a = λ j. k.3 }
        | inl j ↦
            let b = beside_pair h s t cp in
            let k = other_part h s t b.0 ish cp b.1 b.2 in
            record { far = b.0; far_within = b.1; far_off = b.2; near = k.0; near_within = k.1; near_off = k.2; away = k.3; no_c = part_out h (pair_set s t) k.0 c ish k.2 i; no_a = λ q. part_out h (pair_set s t) k.0 (f a) ish k.2 j }
      ]
    ]

    abbrev part : Set
    part = joined h (pair_set s t) chosen.near

    -- its vertices in g
    abbrev small : Set
    small v = w v && part (f v)

    part_off : (u : ℕ) → part u ≡ true → pair_set s t u ≡ false
    part_off u j = joined_outside h (pair_set s t) ish chosen.near u chosen.near_off j

    small_off : (v : ℕ) → small v ≡ true → two v ≡ false
    small_off v k = off_up g is cov bi m a d p h f c ish merge s t ls lt cp.different v (part_off (f v) (and_parts (w v) (part (f v)) k).1)

    off_small : (v : ℕ) → two v ≡ true → small v ≡ false
    off_small v i = false_from_ne_true (small v) (λ k. both_ways (two v) (small_off v k) i)

    over_edge : (e : ℕ) → Within (size g) e → pair_set s t (f (first_end g e)) ≡ false → pair_set s t (f (second_end g e)) ≡ false → part (f (first_end g e)) ≡ part (f (second_end g e))
    over_edge e we i j =
        let k : Within (size h) e = let n = merge.edges in omega arith in
        let x = merge.first_ends e we in
        let y = merge.second_ends e we in
        ap part (sym x) ∙ part_step h (pair_set s t) chosen.near e ish chosen.near_within k (ap (pair_set s t) x ∙ i) (ap (pair_set s t) y ∙ j) ∙ ap part y

    one_way : (x y : ℕ) → Within g.order x → Within g.order y → (pair_set s t (f x) ≡ false → pair_set s t (f y) ≡ false → part (f x) ≡ part (f y)) → (pair_set a d x ≡ false → pair_set a d y ≡ false → m x ≡ m y) →
        two x ≡ false → two y ≡ false → small x ≡ true → small y ≡ true
    one_way x y wx wy alike level tx ty k = go (w y) (pair_set s t c) refl refl
      where
        in_x : (w x ≡ true) × (part (f x) ≡ true)
        in_x = and_parts (w x) (part (f x)) k

        off_x : pair_set s t (f x) ≡ false
        off_x = part_off (f x) in_x.1

        go : (u v : Bool) → w y ≡ u → pair_set s t c ≡ v → small y ≡ true
        go true v i j = and_from (w y) (part (f y)) i (sym (alike off_x (off_down g is cov bi m a d p h f c ish merge s t ls lt cp.different y wy (λ o. absurd (both_ways (w y) o i)) ty)) ∙ in_x.1)
        go false false i j =
            let e = f_out g is cov bi m a d p h f c ish merge y wy i in
            absurd (both_ways (part c) chosen.no_c (ap part (sym e) ∙ sym (alike off_x (ap (pair_set s t) e ∙ j)) ∙ in_x.1))
        go false true i j =
            let e = f_out g is cov bi m a d p h f c ish merge y wy i in
            let xa = ne_eqb a x (λ q. both_ways (part (f a)) (chosen.no_a j) (ap (λ z. part (f z)) q ∙ in_x.1)) in
            let mx : m x ≡ true = in_m (m x) (a == x) xa in_x.0 in
            let my = nor (m y) (a == y) i in
            let yd = ne_eqb d y (λ q. both_ways (pair_set s t (f y)) (off_down g is cov bi m a d p h f c ish merge s t ls lt cp.different y wy (λ o. sym q) ty) (ap (pair_set s t) e ∙ j)) in
            absurd (both_ways (m y) my.0 (sym (level (pocket_off g m a d p x mx) (neither (a == y) (d == y) my.1 yd)) ∙ mx))
          where
            in_m : (b k : Bool) → k ≡ false → (b || k) ≡ true → b ≡ true
            in_m b k h l = grind arith

            nor : (b k : Bool) → (b || k) ≡ false → (b ≡ false) × (k ≡ false)
            nor b k h = grind arith

            neither : (b k : Bool) → b ≡ false → k ≡ false → (b || k) ≡ false
            neither b k h l = grind arith

    small_closed : (e : ℕ) → Within (size g) e → two (first_end g e) ≡ false → two (second_end g e) ≡ false → in_cut g small e ≡ false
    small_closed e we i j =
        let x = (is e we).0 in
        let y = (is e we).1 in
        alike_not_apart (small (first_end g e)) (small (second_end g e)) (same_tests (small (first_end g e)) (small (second_end g e))
        (one_way (first_end g e) (second_end g e) x y (over_edge e we) (λ k l. alike (m (first_end g e)) (m (second_end g e)) (p.closed e we k l)) i j)
        (one_way (second_end g e) (first_end g e) y x (λ k l. sym (over_edge e we l k)) (λ k l. sym (alike (m (first_end g e)) (m (second_end g e)) (p.closed e we l k))) j i))
      where
        alike : (b k : Bool) → ((b && not k) || (not b && k)) ≡ false → b ≡ k
        alike b k h = grind arith

    small_even : is_odd (count g.order small) ≡ false
    small_even =
        let n = bi ls.vertex lt.vertex ls.within lt.within (lift_apart g is cov bi m a d p h f c ish merge s t ls lt cp.different) in
        closed_even g two n.0 small is n.1 (λ v wv k. small_off v k) small_closed

    small_filled : 1 ≤ count g.order small
    small_filled =
        let l = lift g is cov bi m a d p h f c ish merge chosen.near chosen.near_within in
        let own : part chosen.near ≡ true = walk_joined h (pair_set s t) ish chosen.near chosen.near chosen.near_within (joined_self h (pair_set s t) chosen.near) in
        member_count g.order small l.vertex l.within (and_from (w l.vertex) (part (f l.vertex)) (in_w g is cov bi m a d p h f c ish merge chosen.near l (λ q. both_ways (part c) chosen.no_c (ap part (sym q) ∙ own))) (ap part l.maps ∙ own))

    small_less : count g.order small < count g.order m
    small_less =
        let l = lift g is cov bi m a d p h f c ish merge chosen.far chosen.far_within in
        let l_off = off_up g is cov bi m a d p h f c ish merge s t ls lt cp.different l.vertex (ap (pair_set s t) l.maps ∙ chosen.far_off) in
        let l_small : small l.vertex ≡ false = fails (w l.vertex) (part (f l.vertex)) (ap part l.maps ∙ chosen.away) in
        let i = count_plus g.order small ls.vertex ls.within (off_small ls.vertex (own_s g is cov bi m a d p h f c ish merge s t ls lt cp.different)) in
        let j = count_plus g.order (union small (singleton ls.vertex)) lt.vertex lt.within (neither (small lt.vertex) (ls.vertex == lt.vertex) (off_small lt.vertex (own_t g is cov bi m a d p h f c ish merge s t ls lt cp.different)) (ne_eqb ls.vertex lt.vertex (lift_apart g is cov bi m a d p h f c ish merge s t ls lt cp.different))) in
        let k = count_plus g.order (union (union small (singleton ls.vertex)) (singleton lt.vertex)) l.vertex l.within (all_three (small l.vertex) (ls.vertex == l.vertex) (lt.vertex == l.vertex) l_small l_off) in
        let n = count_plus g.order w d p.second (w_d g is cov bi m a d p) in
        let q = shore_size g m a d p in
        let o = count_mono g.order (union (union (union small (singleton ls.vertex)) (singleton lt.vertex)) (singleton l.vertex)) (union w (singleton d)) (λ v wv h. grows v (small v) (ls.vertex == v) (lt.vertex == v) (l.vertex == v) h
        (λ b. or_left (w v) (d == v) (and_parts (w v) (part (f v)) b).0) (λ b. held ls.vertex v ls.kept b) (λ b. held lt.vertex v lt.kept b) (λ b. held l.vertex v l.kept b)) in
        omega arith
      where
        fails : (b k : Bool) → k ≡ false → (b && k) ≡ false
        fails b k h = grind arith

        neither : (b k : Bool) → b ≡ false → k ≡ false → (b || k) ≡ false
        neither b k h l = grind arith

        all_three : (b k l : Bool) → b ≡ false → (k || l) ≡ false → ((b || k) || l) ≡ false
        all_three b k l h i = grind arith

        held : (u v : ℕ) → (w u ≡ false → u ≡ d) → (u == v) ≡ true → union w (singleton d) v ≡ true
        held u v k b = let e = eqb-true u v b in elim (cases_Bool (w u)) [
          | inl i ↦ or_left (w v) (d == v) (ap w (sym e) ∙ i)
          | inr o ↦ or_right (w v) (d == v) (eq-eqb d v (sym (k o) ∙ e))
        ]

        grows : (v : ℕ) (b k l n : Bool) → (((b || k) || l) || n) ≡ true → (b ≡ true → union w (singleton d) v ≡ true) → (k ≡ true → union w (singleton d) v ≡ true) → (l ≡ true → union w (singleton d) v ≡ true) → (n ≡ true → union w (singleton d) v ≡ true) → union w (singleton d) v ≡ true
        grows v true k l n h i j o q = i refl
        grows v false true l n h i j o q = j refl
        grows v false false true n h i j o q = o refl
        grows v false false false n h i j o q = q h

    pub smaller : Smaller g m r
    smaller = record {
      set = small;
      one = ls.vertex;
      other = lt.vertex;
      pocket = record {
        first = ls.within;
        second = lt.within;
        different = lift_apart g is cov bi m a d p h f c ish merge s t ls lt cp.different;
        first_out = off_small ls.vertex (own_s g is cov bi m a d p h f c ish merge s t ls lt cp.different);
        second_out = off_small lt.vertex (own_t g is cov bi m a d p h f c ish merge s t ls lt cp.different);
        even = small_even;
        some = small_filled;
        closed = small_closed;
      };
      less = small_less;
      beside = ap (λ b. b && part (f r)) r_out;
      apart = false_from_ne_true (two r) (λ k. elim (or_cases (ls.vertex == r) (lt.vertex == r) k) [
        | inl i ↦ not_r ls.vertex ls.kept (eqb-true ls.vertex r i)
        | inr i ↦ not_r lt.vertex lt.kept (eqb-true lt.vertex r i)
      ]);
    }
      where
        nor : (b k l : Bool) → b ≡ false → (k || l) ≡ false → ((b || k) ≡ false) × (l ≡ false)
        nor b k l h i = grind arith

        r_out : w r ≡ false
        r_out = (nor (m r) (a == r) (d == r) mr ar).0

        not_r : (u : ℕ) → (w u ≡ false → u ≡ d) → u ≡ r → ⊥
        not_r u k e = both_ways (d == r) (nor (m r) (a == r) (d == r) mr ar).1 (eq-eqb d r (sym (k (ap w e ∙ r_out)) ∙ e))

-- a tight shore inside m and a, with two vertices, and without one of m and a
module _ (g : Graph) (is : IsGraph g) (cov : IsCovered g) (bi : IsBicritical g) (m : Set) (a d : ℕ) (p : Pocket g m a d)
    (r : ℕ) (wr : Within g.order r) (mr : m r ≡ false) (ar : pair_set a d r ≡ false)
    (z : Set) (tz : IsTight g z) (zw : (v : ℕ) → Within g.order v → z v ≡ true → union m (singleton a) v ≡ true)
    (two : 2 ≤ count g.order z) (y : ℕ) (wy : Within g.order y) (yw : union m (singleton a) y ≡ true) (yz : z y ≡ false) where
  abbrev shore : Set
  shore = union m (singleton a)

  d_out : complement shore d ≡ true
  d_out = ap not (w_d g is cov bi m a d p)

  abbrev made : (h : Graph) × (f : ℕ → ℕ) × (c : ℕ) × IsGraph h × Merges g (complement (union m (singleton a))) h f c
  made = merged_set g is (complement (union m (singleton a))) d p.second d_out

  abbrev h : Graph
  h = made.0

  abbrev f : ℕ → ℕ
  f = made.1

  abbrev c : ℕ
  c = made.2

  ish : IsGraph h
  ish = made.3

  merge : Merges g (complement (union m (singleton a))) h f c
  merge = made.4

  -- the shore in the contraction
  abbrev image : Set
  image t = some g.order (λ v. z v && (f v == t))

  image_up : (v : ℕ) → Within g.order v → image (f v) ≡ z v
  image_up v wv = same_tests (image (f v)) (z v) there (λ zv. true_some g.order (λ u. z u && (f u == f v)) v wv (and_from (z v) (f v == f v) zv (eq-eqb (f v) (f v) refl)))
    where
      there : image (f v) ≡ true → z v ≡ true
      there k =
          let u = some_true g.order (λ u. z u && (f u == f v)) k in
          let q = and_parts (z u.0) (f u.0 == f v) u.2 in
          let iu = zw u.0 u.1 q.0 in
          let e = eqb-true (f u.0) (f v) q.1 in
          elim (cases_Bool (shore v)) [
            | inl iv ↦ ap z (sym (merge.apart u.0 v u.1 wv (ap not iu) (ap not iv) e)) ∙ q.0
            | inr ov ↦ absurd ((f_in g is cov bi m a d p h f c ish merge u.0 u.1 iu).1 (e ∙ f_out g is cov bi m a d p h f c ish merge v wv ov))
          ]

  w_bar : IsTight g (complement shore)
  w_bar = tight-turned g shore (w_tight g is cov bi m a d p)

  covered_h : IsCovered h
  covered_h = covered_down g is (complement shore) h f c merge w_bar cov

  image_tight : IsTight h image
  image_tight =
      let k = covered_perfect h ish covered_h in
      tight_from_cut h image k.0 ish k.1 (tight_down g is (complement shore) h f c merge w_bar cov image (cut_congr g z (λ v. image (f v)) is (λ v wv. sym (image_up v wv)) tz.cut))

  image_wide : IsNontrivial h.order image
  image_wide = let t = image_tight in record { inside = odd_three (count h.order image) t.odd inner_two; outside = odd_three (count h.order (complement image)) t.odd_complement outer_two }
    where
      into : (v : ℕ) → Within g.order v → shore v ≡ true → Within h.order (f v) × (f v ≢ c)
      into v wv i = f_in g is cov bi m a d p h f c ish merge v wv i

      inner_two : 2 ≤ count h.order image
      inner_two =
          let q = two_of g.order z two in
          let i = zw q.0 q.2 q.5 in
          two_members h.order image (f q.0) (f q.1) (into q.0 q.2 i).0 (into q.1 q.3 (zw q.1 q.3 q.6)).0
          (λ e. q.4 (merge.apart q.0 q.1 q.2 q.3 (ap not i) (ap not (zw q.1 q.3 q.6)) e)) (image_up q.0 q.2 ∙ q.5) (image_up q.1 q.3 ∙ q.6)

      outer_two : 2 ≤ count h.order (complement image)
      outer_two =
          let k = image_up y wy ∙ yz in
          let fd = f_out g is cov bi m a d p h f c ish merge d p.second (w_d g is cov bi m a d p) in
          let zd : z d ≡ false = false_from_ne_true (z d) (λ t. both_ways (shore d) (w_d g is cov bi m a d p) (zw d p.second t)) in
          two_members h.order (complement image) (f y) c (into y wy yw).0 merge.new (into y wy yw).1 (ap not k) (ap not (ap image (sym fd) ∙ image_up d p.second ∙ zd))

  pub smaller_pocket : Smaller g m r
  smaller_pocket =
      let q = shore_pair h image ish covered_h (contracted_bicritical g is cov bi m a d p h f c ish merge) image_tight image_wide in
      smaller g is cov bi m a d p h f c ish merge q.0 q.1 q.2 r wr mr ar
