-- A forest goes on after a blossom: where a set of vertices of the forest is shrunk to its base,
-- the forest becomes one of the shrunk graph. Its vertices are the old ones outside the set, and
-- the base, which is outer; what was a child of a vertex of the set is a child of the base.
use Rattle.graph_core.proofs.from_counting.Common.{◌≡◌, ◌≢◌, ℕ, suc, ◌+◌, ◌-◌, ◌≤◌, ◌<◌, true, false, cond, ◌==◌, refl, sym, ap, ◌∙◌, arith, not, ◌&&◌, ◌||◌, eq-eqb, eqb-true, ne_eqb, inl, inr, and_from, and_parts, and_true, both_ways, cases_Bool, not-true, or_cases, or_false, or_right, true≢false, Within, is_odd, Set}
use Rattle.graph_core.proofs.Common.{HasEnds, degree, first_end, second_end, size}
use Rattle.match_search.specs.Common.{IsAlternatingForest, shrunk_vertex}
use Rattle.match_search.proofs.ContractedPaths.{new_last, new_path, place_fits, stays_at}
use Rattle.match_search.proofs.CrossingPaths.{Way, inner_mate, mate_out, same_way, way_in, way_on, ways}
use Rattle.match_search.proofs.LongerPaths.{ends_by}
use Rattle.match_search.proofs.ShrunkForests.{H, IsContracted, IsWalkedForest, ShrunkForest, Stays, WalksUp, base_mate_out, edge_stays_in, in_g, in_h, left_edges, left_from_f, mate_stay, pulled_at_stay, rs, stays_degree, stays_left, stays_or_not, taken_ends}
use Rattle.match_search.proofs.ShrunkInstances.{pulled_ends}
use Rattle.match_search.proofs.SkippedPlaces.{edge_place, place, place_high, place_low, place_none, place_odd}

module _ (given : ShrunkForest) (outer' inner' : Set) (parent' mate' : ℕ → ℕ) (after : IsContracted given.outer given.inner given.parent given.mate given.c given.z outer' inner' parent' mate') where
  open given use {g, r, outer, inner, parent, mate, walked, c, z, es, shrunk, e1, fits}
  open given.walked use {k, v, forest}

  abbrev base : ℕ
  base = k z + k z

  -- the sides of a vertex that stays
  stays_outer : (w : ℕ) → Stays c z w → outer' w ≡ outer w
  stays_outer w st = after.outer_is w ∙ elim st [
    | inl q ↦ ap (λ b. (outer w && not b) || (z == w)) q ∙ ap (λ b. (outer w && true) || b) (ne_eqb z w (λ s. both_ways (c w) q (ap c (sym s) ∙ fits.base))) ∙ or_false (outer w && true) ∙ and_true (outer w)
    | inr q ↦ or_right (outer w && not (c w)) (z == w) (eq-eqb z w (sym q)) ∙ sym (ap outer q ∙ fits.base_outer)
  ]

  stays_inner : (w : ℕ) → Stays c z w → inner' w ≡ inner w
  stays_inner w st = grind (arith, and_true)

  outer_parts : (u : ℕ) → outer' u ≡ true → (outer u ≡ true) × Stays c z u
  outer_parts u t = elim (or_cases (outer u && not (c u)) (z == u) (sym (after.outer_is u) ∙ t)) [
    | inl a ↦ let b = and_parts (outer u) (not (c u)) a in (b.0, inl (not-true (c u) b.1))
    | inr a ↦ let q : z ≡ u = eqb-true z u a in (ap outer (sym q) ∙ fits.base_outer, inr (sym q))
  ]

  inner_parts : (u : ℕ) → inner' u ≡ true → (inner u ≡ true) × (c u ≡ false)
  inner_parts u t = let b = and_parts (inner u) (not (c u)) (sym (after.inner_is u) ∙ t) in (b.0, not-true (c u) b.1)

  -- what an outer vertex becomes is outer
  pulled_outer : (w : ℕ) → outer w ≡ true → outer' (shrunk_vertex c z w) ≡ true
  pulled_outer w o = grind (arith, cases_Bool, stays_outer)

  -- the ends of an edge of f that is left stay
  left_stays : (d x y : ℕ) → Within (size g) d → left_edges given d ≡ true → HasEnds g d x y → Stays c z x
  left_stays d x y w t ends = let a = left_from_f given d t in elim (stays_or_not given x) [
    | inl s ↦ s
    | inr s ↦
        let y_in = edge_stays_in given d x y w a.0 ends s.0 s.1 in
        absurd (both_ways (e1 d) a.1 (taken_ends given d x y w ends a.0 s.0 y_in))
  ]

  new_mates : (d : ℕ) → Within (size (H given)) d → left_edges given d ≡ true → (outer' (first_end (H given) d) ≡ inner' (second_end (H given) d)) × (inner' (first_end (H given) d) ≡ outer' (second_end (H given) d))
  new_mates d w t =
      let wg = in_g given d w in
      let x_stays = left_stays d (first_end g d) (second_end g d) wg t (inl (refl, refl)) in
      let y_stays = left_stays d (second_end g d) (first_end g d) wg t (inr (refl, refl)) in
      let x_is = shrunk.first_ends d wg ∙ pulled_at_stay given (first_end g d) x_stays in
      let y_is = shrunk.second_ends d wg ∙ pulled_at_stay given (second_end g d) y_stays in
      let m = forest.mates d wg (left_from_f given d t).0 in (
        ap outer' x_is ∙ stays_outer (first_end g d) x_stays ∙ m.0 ∙ sym (ap inner' y_is ∙ stays_inner (second_end g d) y_stays),
        ap inner' x_is ∙ stays_inner (first_end g d) x_stays ∙ m.1 ∙ sym (ap outer' y_is ∙ stays_outer (second_end g d) y_stays),
      )

  -- how many pairs a path leaves out, and what is left
  abbrev skip : ℕ → ℕ
  skip u = (ways given u).0

  way : (u : ℕ) → outer u ≡ true → Way c k v z u (skip u)
  way u o = (ways given u).1 o

  abbrev pub k' : ℕ → ℕ
  k' u = k u - skip u

  abbrev pub v' : ℕ → ℕ → ℕ
  v' u j = v u (place base (skip u + skip u) j)

  abbrev pub e' : ℕ → ℕ → ℕ
  e' u j = walked.e u (edge_place base (skip u + skip u) j)

  skip_is : (u s : ℕ) → outer u ≡ true → Way c k v z u s → skip u ≡ s
  skip_is u s o w = same_way c k v z u (skip u) s (way u o) w

  abbrev fits_at : (u : ℕ) (o : outer u ≡ true) → Stays c z u → (j : ℕ) → j ≤ k' u + k' u → place base (skip u + skip u) j ≤ k u + k u
  fits_at u o st = place_fits given u (skip u) o st (way u o)

  new_sides : (u : ℕ) → outer' u ≡ true → (j : ℕ) → j ≤ k' u + k' u → (outer' (v' u j) ≡ not (is_odd j)) × (inner' (v' u j) ≡ is_odd j)
  new_sides u t j l =
      let p = outer_parts u t in
      let st = stays_at given u (skip u) p.0 p.1 (way u p.0) j l in
      let s = forest.sides u p.0 (place base (skip u + skip u) j) (fits_at u p.0 p.1 j l) in (
        stays_outer (v' u j) st ∙ s.0 ∙ ap not (place_odd base (skip u) j),
        stays_inner (v' u j) st ∙ s.1 ∙ place_odd base (skip u) j,
      )

  new_forest : IsAlternatingForest (H given) (rs given) (left_edges given) outer' inner' k' v' e'
  new_forest = record {
    outer_in = λ u t. let p = outer_parts u t in let a = forest.outer_in u p.0 in (a.0, stays_left given u p.1 a.1);
    inner_in = λ u t.
        let p = inner_parts u t in
        let a = forest.inner_in u p.0 in
        (a.0, stays_left given u (inl p.1) a.1, stays_degree given u (inl p.1) ∙ a.2);
    apart = λ u t. let p = outer_parts u t in stays_inner u p.1 ∙ forest.apart u p.0;
    misses = λ u w ru du. missed u w (left u ru) ru du;
    mates = new_mates;
    seen = λ u t.
        let p = inner_parts u t in
        let s = forest.seen u p.0 in
        (s.0, shrunk_vertex c z s.1, in_h given s.0 s.2, ends_by (H given) s.0 s.0 u (shrunk_vertex c z u) (shrunk_vertex c z s.1) (shrunk_vertex c z s.1) refl (sym (pulled_at_stay given u (inl p.1))) refl (pulled_ends g c z es shrunk fits.base s.0 u s.1 s.2 s.3), pulled_outer s.1 s.4);
    path = λ u t. let p = outer_parts u t in new_path given u (skip u) p.0 p.1 (way u p.0);
    last = λ u t. let p = outer_parts u t in new_last given u (skip u) p.0 p.1 (way u p.0);
    sides = new_sides;
  }
    where
      left : (u : ℕ) → rs given u ≡ false → (r u ≡ false) × Stays c z u
      left u q = elim (stays_or_not given u) [
        | inl s ↦ (grind (arith, true≢false), s)
        | inr s ↦ absurd (both_ways (rs given u) q (or_right (r u) (c u && not (u == z)) (and_from (c u) (not (u == z)) s.0 (ap not (ne_eqb u z s.1)))))
      ]

      missed : (u : ℕ) → Within g.order u → (r u ≡ false) × Stays c z u → rs given u ≡ false → degree (H given) (left_edges given) u ≡ 0 → outer' u ≡ true
      missed u w s ru du = stays_outer u s.1 ∙ forest.misses u w s.0 (sym (stays_degree given u s.1) ∙ du)

  -- one step up from a vertex that stays, whose parent is p
  module _ (u p : ℕ) (o : outer u ≡ true) (st : Stays c z u) (n : k u ≢ 0) (w : WalksUp outer k v parent mate u p) where
    root_off : u ≡ z → k z ≢ 0
    root_off q s = n (ap k q ∙ s)

    mate_off : c (mate u) ≡ false
    mate_off = grind (arith, mate_out, base_mate_out, root_off)

    new_mate : mate' u ≡ mate u
    new_mate = mate_stay given outer' inner' parent' mate' after u st

    new_parent : parent' (mate' u) ≡ shrunk_vertex c z p
    new_parent = ap parent' new_mate ∙ after.parents (mate u) (stays_inner (mate u) (inl mate_off) ∙ inner_mate given u p o w) ∙ ap (shrunk_vertex c z) w.parent_is

    -- the base leaves out nothing, and neither does a vertex before it
    skip_base : skip z ≡ 0
    skip_base = let a = skip_is z (k z - k z) fits.base_outer (way_in given z fits.base fits.base_outer) in omega arith

    skip_before : k p < k z → skip p ≡ 0
    skip_before l = grind (arith, way)

    -- u leaves out as many pairs as its parent
    same_skip : skip u ≡ skip p
    same_skip = elim st [
      | inl q ↦ skip_is u (skip p) o (way_on given u p (skip p) o q w (way p w.outer_is))
      | inr q ↦ ap skip q ∙ skip_base ∙ sym (skip_before (let a = w.pairs in let b = ap k q in omega arith))
    ]

    small : skip p ≤ k p
    small = grind (arith, way)

    -- where the parent stays
    up_out : c p ≡ false → WalksUp outer' k' v' parent' mate' u p
    up_out q = record {
      parent_is = new_parent ∙ ap (λ b. cond b z p) q;
      outer_is = stays_outer p (inl q) ∙ w.outer_is;
      pairs = let a = w.pairs in let b = same_skip in let d = small in omega arith;
      inner = ap (v u) place_is ∙ w.inner ∙ sym new_mate;
      before = λ j l. ap (λ t. v u (place base (t + t) j)) same_skip ∙ w.before (place base (skip p + skip p) j) (fits_at p w.outer_is (inl q) j l);
    }
      where
        place_is : place base (skip u + skip u) (suc (k' p + k' p)) ≡ suc (k p + k p)
        place_is = let b = same_skip in let d = small in elim (way p w.outer_is) [
          | inl x ↦ let a = x.within in let h = place_high base (skip u + skip u) (suc (k' p + k' p)) (omega arith) in omega arith
          | inr x ↦ let a = x.0 in let h = place_none base (skip u + skip u) (suc (k' p + k' p)) (omega arith) in omega arith
        ]

    -- where it is shrunk to the base
    up_in : c p ≡ true → WalksUp outer' k' v' parent' mate' u z
    up_in q = record {
      parent_is = new_parent ∙ ap (λ b. cond b z p) q;
      outer_is = stays_outer z (inr refl) ∙ fits.base_outer;
      pairs = let a = w.pairs in let b = same_skip in let d = skip_p in let h = skip_base in let few = (fits.over p q w.outer_is).0 in omega arith;
      inner = ap (v u) place_is ∙ w.inner ∙ sym new_mate;
      before = λ j l. let few = (fits.over p q w.outer_is).0 in let low : j ≤ base = (let h = skip_base in omega arith) in
          ap (v u) (place_low base (skip u + skip u) j low) ∙ w.before j (omega arith) ∙ (fits.over p q w.outer_is).1 j low ∙ ap (v z) (sym (place_low base (skip z + skip z) j low));
    }
      where
        skip_p : skip p ≡ k p - k z
        skip_p = skip_is p (k p - k z) w.outer_is (way_in given p q w.outer_is)

        place_is : place base (skip u + skip u) (suc (k' z + k' z)) ≡ suc (k p + k p)
        place_is =
            let b = same_skip in
            let d = skip_p in
            let t = skip_base in
            let few = (fits.over p q w.outer_is).0 in
            let h = place_high base (skip u + skip u) (suc (k' z + k' z)) (omega arith) in omega arith

    step_up : (x : ℕ) × WalksUp outer' k' v' parent' mate' u x
    step_up = grind (arith, cases_Bool, up_in, up_out)

  pub contracted_forest : IsWalkedForest (H given) (rs given) (left_edges given) outer' inner' parent' mate'
  contracted_forest = record {
    k = k';
    v = v';
    e = e';
    forest = new_forest;
    up = λ u t n.
        let a = outer_parts u t in
        let some : k u ≢ 0 = λ q. n (omega arith) in
        let p = walked.up u a.0 some in
        step_up u p.0 a.0 a.1 some p.1;
  }
