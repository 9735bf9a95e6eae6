-- A forest grows by a vertex outside it that an edge joins to an outer one, and by the mate of
-- this vertex. The new path is that of the outer vertex with two more edges; every other part of
-- the forest stays.
use Rattle.graph_core.proofs.from_counting.Common.{◌≡◌, ℕ, suc, ◌+◌, ◌≤◌, ◌≢◌, Bool, true, false, cond, ◌==◌, refl, sym, ap, ◌∙◌, arith, not, eq-eqb, inl, inr, subst, cases_eq, both_ways, false_from_ne_true, count_put, odd-double, Within, bit, count, is_odd, Set, put}
use Rattle.graph_core.proofs.Common.{edge_at, ends_le_degree, ends_of_is, bit_same, Graph, IsGraph, degree, first_end, second_end, size, HasEnds, IsMatching}
use Rattle.match_search.proofs.LongerPaths.{end_within, ends_by, spots, extended, longer}
use Rattle.match_search.proofs.Forests.{mates_of, met, one_edge, outer_edge, turned}
use Rattle.match_search.proofs.AlternatingPaths.{put_at, put_off}
use Rattle.match_search.specs.Common.{IsAlternating, IsAlternatingForest}

module _ (g : Graph) (is : IsGraph g) (r f : Set) (mm : IsMatching g r f) (outer inner : Set) (k : ℕ → ℕ) (v e : ℕ → ℕ → ℕ) (forest : IsAlternatingForest g r f outer inner k v e) where
  -- a vertex outside the forest has an edge of f
  pub mate : (w : ℕ) → Within g.order w → r w ≡ false → outer w ≡ false → (d : ℕ) × (x : ℕ) × Within (size g) d × (f d ≡ true) × HasEnds g d w x
  mate w ww rw' ow = let m = edge_at g f w (elim (cases_eq (degree g f w) 0) [ inl q ↦ absurd (both_ways (outer w) ow (forest.misses w ww rw' q)) | inr q ↦ omega arith ]) in
      (m.0, m.3.0, m.1, m.2, m.3.1)

  module _ (a u w d x : ℕ) (wa : Within (size g) a) (ends : HasEnds g a u w) (ou : outer u ≡ true) (out_w : r w ≡ false) (ow : outer w ≡ false) (iw : inner w ≡ false) (wd : Within (size g) d) (fd : f d ≡ true) (pair_set : HasEnds g d w x) where
    ww : Within g.order w
    ww = end_within g is a w u wa (turned g a u w ends)

    wx : Within g.order x
    wx = end_within g is d x w wd (turned g d w x pair_set)

    ox : outer x ≡ false
    ox = sym (mates_of g is r f mm outer inner k v e forest d w x wd fd pair_set).1 ∙ iw

    ix : inner x ≡ false
    ix = sym (mates_of g is r f mm outer inner k v e forest d w x wd fd pair_set).0 ∙ ow

    both_met : (1 ≤ degree g f w) × (1 ≤ degree g f x)
    both_met = met g f d w x wd fd pair_set

    out_x : r x ≡ false
    out_x = false_from_ne_true (r x) (λ t. let a = mm.away x wx t in let b = both_met.1 in absurd (omega arith))

    w_x : x ≢ w
    w_x q = let a = ends_le_degree g f d w wd fd in let b = ends_of_is g d w x pair_set w in let c = bit_same w in let s = ap bit (eq-eqb x w q) in let o = mm.once w ww in absurd (omega arith)

    x_w : w ≢ x
    x_w q = w_x (sym q)

    f_a : f a ≡ false
    f_a = outer_edge g is r f mm outer inner k v e forest a u w wa ends ou iw

    abbrev pub more_outer : Set
    more_outer = put outer x true

    abbrev pub more_inner : Set
    more_inner = put inner w true

    abbrev pub more_k : ℕ → ℕ
    more_k y = cond (y == x) (suc (k u)) (k y)

    abbrev pub vx : ℕ → ℕ
    vx = longer (suc (k u + k u)) (v u) w x

    abbrev pub ex : ℕ → ℕ
    ex = longer (k u + k u) (e u) a d

    abbrev pub more_v : ℕ → ℕ → ℕ
    more_v y = cond (y == x) vx (v y)

    abbrev pub more_e : ℕ → ℕ → ℕ
    more_e y = cond (y == x) ex (e y)

    kept : (z : ℕ) → outer z ≡ true → more_outer z ≡ true
    kept z q = put_off outer x true z (λ s. both_ways (outer x) ox (ap outer (sym s) ∙ q)) ∙ q

    -- what is in the forest is not one of the new vertices
    off_tree : (z : ℕ) (s : Bool) → outer z ≡ not s → inner z ≡ s → (z ≢ w) × (z ≢ x)
    off_tree z s p q = grind arith

    same_sides : (z : ℕ) (s : Bool) → outer z ≡ not s → inner z ≡ s → (more_outer z ≡ not s) × (more_inner z ≡ s)
    same_sides z s p q = let o = off_tree z s p q in (put_off outer x true z o.1 ∙ p, put_off inner w true z o.0 ∙ q)

    side_w : (z : ℕ) → z ≡ w → (more_outer z ≡ false) × (more_inner z ≡ true)
    side_w z q = (put_off outer x true z (λ s. x_w (sym q ∙ s)) ∙ ap outer q ∙ ow, ap more_inner q ∙ put_at inner w true)

    side_x : (z : ℕ) → z ≡ x → (more_outer z ≡ true) × (more_inner z ≡ false)
    side_x z q = (ap more_outer q ∙ put_at outer x true, put_off inner w true z (λ s. w_x (sym q ∙ s)) ∙ ap inner q ∙ ix)

    p : IsAlternating g r f (k u) (v u) (e u)
    p = forest.path u ou

    old_off : (j : ℕ) → j ≤ k u + k u → (v u j ≢ w) × (v u j ≢ x)
    old_off j l = let s = forest.sides u ou j l in off_tree (v u j) (is_odd j) s.0 s.1

    new_path : IsAlternating g r f (suc (k u)) vx ex
    new_path = extended g r f (k u) (v u) (e u) p a w d x old_off x_w ww wx out_w out_x wa wd (ends_by g a a (v u (k u + k u)) u w w refl (forest.last u ou) refl ends) pair_set f_a fd

    new_sides : (j : ℕ) → j ≤ suc (k u) + suc (k u) → (more_outer (vx j) ≡ not (is_odd j)) × (more_inner (vx j) ≡ is_odd j)
    new_sides j l = elim (spots g r f (k u) (v u) (e u) p a w d x j l) [
      | inl s ↦ let o = forest.sides u ou j s.0 in let b = same_sides (v u j) (is_odd j) o.0 o.1 in (ap more_outer s.1 ∙ b.0, ap more_inner s.1 ∙ b.1)
      | inr s ↦ grind (arith, side_w (vx j), odd-double (k u), side_x (vx j))
    ]

    other_edge : (c y z : ℕ) → Within (size g) c → f c ≡ true → HasEnds g c y z → c ≢ d → (y ≢ w) × (y ≢ x)
    other_edge c y z wc fc q n = (
      (λ s. n (one_edge g r f mm c d w z x ww wc wd fc fd (subst (λ t. HasEnds g c t z) s q) pair_set)),
      (λ s. n (one_edge g r f mm c d x z w wx wc wd fc fd (subst (λ t. HasEnds g c t z) s q) (turned g d w x pair_set))),
    )

    -- the forest with w and its mate
    pub grown : IsAlternatingForest g r f more_outer more_inner more_k more_v more_e
    grown = record {
      outer_in = λ y t. elim (cases_eq y x) [
        | inl q ↦ subst (λ z. Within g.order z × (r z ≡ false)) (sym q) (wx, out_x)
        | inr q ↦ forest.outer_in y (sym (put_off outer x true y q) ∙ t)
      ];
      inner_in = λ y t. elim (cases_eq y w) [
        | inl q ↦ subst (λ z. Within g.order z × (r z ≡ false) × (degree g f z ≡ 1)) (sym q) (ww, out_w, (let a = both_met.0 in let b = mm.once w ww in omega arith))
        | inr q ↦ forest.inner_in y (sym (put_off inner w true y q) ∙ t)
      ];
      apart = λ y t. elim (cases_eq y x) [
        | inl q ↦ (side_x y q).1
        | inr q ↦ let o = sym (put_off outer x true y q) ∙ t in (same_sides y false o (forest.apart y o)).1
      ];
      misses = λ y wy ry dy. kept y (forest.misses y wy ry dy);
      mates = λ c wc fc. elim (cases_eq c d) [
        | inl q ↦ grind arith
        | inr q ↦
            let a = other_edge c (first_end g c) (second_end g c) wc fc (inl (refl, refl)) q in
            let b = other_edge c (second_end g c) (first_end g c) wc fc (inr (refl, refl)) q in
            grind arith
      ];
      seen = λ y t. elim (cases_eq y w) [
        | inl q ↦ (a, u, wa, ends_by g a a y w u u refl q refl (turned g a u w ends), kept u ou)
        | inr q ↦ let s = forest.seen y (sym (put_off inner w true y q) ∙ t) in (s.0, s.1, s.2, s.3, kept s.1 s.4)
      ];
      path = λ y t. paths y (y == x) refl t;
      last = λ y t. grind arith;
      sides = λ y t. all_sides y (y == x) refl t;
    }
      where
        paths : (y : ℕ) (s : Bool) → (y == x) ≡ s → cond s true (outer y) ≡ true → IsAlternating g r f (cond s (suc (k u)) (k y)) (cond s vx (v y)) (cond s ex (e y))
        paths y true q t = new_path
        paths y false q t = forest.path y t

        all_sides : (y : ℕ) (s : Bool) → (y == x) ≡ s → cond s true (outer y) ≡ true → (j : ℕ) → j ≤ cond s (suc (k u)) (k y) + cond s (suc (k u)) (k y) → (more_outer (cond s vx (v y) j) ≡ not (is_odd j)) × (more_inner (cond s vx (v y) j) ≡ is_odd j)
        all_sides y true q t j l = new_sides j l
        all_sides y false q t j l = let o = forest.sides y t j l in same_sides (v y j) (is_odd j) o.0 o.1

    pub grown_size : count g.order more_outer + count g.order more_inner ≡ count g.order outer + count g.order inner + 2
    grown_size = let a = count_put g.order outer x true wx in let b = count_put g.order inner w true ww in let c = ap bit ox in let d = ap bit iw in omega arith
