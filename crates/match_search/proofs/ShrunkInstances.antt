-- An instance with a blossom shrunk is the graph with the blossom's vertices made one. The base
-- has the neighbours and the members of the blossom's vertices: what one of them touched it
-- touches, and what touched one of them touches it.
use Rattle.graph_core.proofs.from_counting.Common.{◌≡◌, ◌≢◌, ℕ, Bool, true, false, cond, ◌==◌, sym, ap, ◌∙◌, arith, eq-eqb, eqb-true, ne_eqb, inl, inr, not, ◌&&◌, ◌||◌, List, subst, nat_lt, nat_le, rules, and_parts, cases_eq, both_ways, or_cases, true≢false, false_from_ne_true, Within, Set, mem, item}
use Rattle.graph_core.proofs.Common.{Graph, HasEnds, IsGraph, size, with_ends}
use Rattle.match_search.specs.Common.{IsShrunk, shrunk_removed, shrunk_vertex, IsInstance, Touches, IsShrinking}
use Rattle.match_search.specs.declared.instance.Instance.{Instance}
use Rattle.match_search.proofs.Forests.{turned}

module _ (g : Graph) (c : Set) (z : ℕ) (es : List (ℕ × ℕ)) (pulls : IsShrunk g c z es) (cz : c z ≡ true) where
  abbrev H : Graph
  H = with_ends g es

  kept_vertex : (v : ℕ) → c v ≡ false → shrunk_vertex c z v ≡ v
  kept_vertex v q = ap (λ b. cond b z v) q

  pulled_vertex : (v : ℕ) → c v ≡ true → shrunk_vertex c z v ≡ z
  pulled_vertex v q = ap (λ b. cond b z v) q

  -- an edge of g has the ends in the shrunk graph that its ends became
  pub pulled_ends : (d x y : ℕ) → Within (size g) d → HasEnds g d x y → HasEnds H d (shrunk_vertex c z x) (shrunk_vertex c z y)
  pulled_ends d x y w ends = grind arith

  -- and the other way round: its ends in g are vertices that became these
  pub origin_ends : (d x y : ℕ) → Within (size g) d → HasEnds H d x y → (u : ℕ) × (v : ℕ) × HasEnds g d u v × (shrunk_vertex c z u ≡ x) × (shrunk_vertex c z v ≡ y)
  origin_ends d x y w ends = grind arith

  -- what became a vertex outside c is that vertex, and what became z is in c
  pub origin_out : (u x : ℕ) → shrunk_vertex c z u ≡ x → c x ≡ false → u ≡ x
  origin_out u x q out = grind arith

  pub origin_in : (u : ℕ) → shrunk_vertex c z u ≡ z → c u ≡ true
  origin_in u q = grind arith

  -- edges between vertices outside c stay, and a vertex outside c is joined to z where it was
  -- joined to one of c
  pub edge_stays : (x y d : ℕ) → c x ≡ false → c y ≡ false → Within (size g) d → HasEnds H d x y → HasEnds g d x y
  edge_stays x y d cx cy w ends = let o = origin_ends d x y w ends in subst (λ (v : ℕ). HasEnds g d x v) (origin_out o.1 y o.4 cy) (subst (λ (u : ℕ). HasEnds g d u o.1) (origin_out o.0 x o.3 cx) o.2)

  pub edge_was : (x d : ℕ) → c x ≡ false → Within (size g) d → HasEnds H d x z → (u : ℕ) × HasEnds g d x u × (c u ≡ true)
  edge_was x d cx w ends = let o = origin_ends d x z w ends in (o.1, subst (λ (u : ℕ). HasEnds g d u o.1) (origin_out o.0 x o.3 cx) o.2, origin_in o.1 o.4)

  pub edge_goes : (x u d : ℕ) → c x ≡ false → c u ≡ true → Within (size g) d → HasEnds g d x u → HasEnds H d x z
  edge_goes x u d cx cu w ends = subst (λ (v : ℕ). HasEnds H d x v) (pulled_vertex u cu) (subst (λ (v : ℕ). HasEnds H d v (shrunk_vertex c z u)) (kept_vertex x cx) (pulled_ends d x u w ends))

  pub edge_keeps : (x y d : ℕ) → c x ≡ false → c y ≡ false → Within (size g) d → HasEnds g d x y → HasEnds H d x y
  edge_keeps x y d cx cy w ends = subst (λ (v : ℕ). HasEnds H d x v) (kept_vertex y cy) (subst (λ (v : ℕ). HasEnds H d v (shrunk_vertex c z y)) (kept_vertex x cx) (pulled_ends d x y w ends))

  module _ (r : Set) (s h : Instance) (is : IsInstance g r s) (cr : (v : ℕ) → c v ≡ true → r v ≡ false) (cw : (v : ℕ) → c v ≡ true → Within g.order v) (shrink : IsShrinking s c z h) (graph : IsGraph H) where
    abbrev rs : Set
    rs = shrunk_removed r c z

    -- what is left is not in r, and it is the base or outside c
    out_parts : (v : ℕ) → rs v ≡ false → (r v ≡ false) × (c v ≡ true → v ≡ z)
    out_parts v q = grind (arith, true≢false, eqb-true)

    not_base : (v : ℕ) → rs v ≡ false → v ≢ z → c v ≡ false
    not_base v q n = false_from_ne_true (c v) (λ t. n ((out_parts v q).1 t))

    -- a vertex that is not in c is another than those that are
    other : (v u : ℕ) → c v ≡ false → c u ≡ true → v ≢ u
    other v u cv cu q = both_ways (c v) cv (ap c q ∙ cu)

    row_kept : (v : ℕ) → Within g.order v → v ≢ z → item h.rows.items v ≡ item s.rows.items v
    row_kept v w n = shrink.rows.others v (let e = is.one_each in omega arith) (λ q. n (sym q))

    members_kept : (v : ℕ) → Within g.order v → v ≢ z → item h.members.items v ≡ item s.members.items v
    members_kept v w n = shrink.members.others v (let e = is.members_each in omega arith) (λ q. n (sym q))

    own_member : (v : ℕ) → Within g.order v → rs v ≡ false → mem (item h.members.items v) v ≡ true
    own_member v w o = elim (cases_eq v z) [
      | inl q ↦ subst (λ (x : ℕ). mem (item h.members.items x) x ≡ true) (sym q) ((shrink.members.own z).1 (z, cz, is.own z (cw z cz) (cr z cz)))
      | inr n ↦ ap (λ (xs : List ℕ). mem xs v) (members_kept v w n) ∙ is.own v w (out_parts v o).0
    ]

    alone : (v w : ℕ) → Within g.order v → rs v ≡ false → mem h.blossoms v ≡ false → mem (item h.members.items v) w ≡ true → v ≡ w
    alone v w wv o b t = search (rules, both_ways (z == v), eq-eqb z v, out_parts v o, not_base v o, members_kept v wv)

    joins : (v w : ℕ) → Within g.order v → Within g.order w → rs v ≡ false → rs w ≡ false → v ≢ w → Touches h v w → (d : ℕ) × Within (size g) d × HasEnds H d v w
    joins v w wv ww ov ow d t = elim (cases_eq v z) [
      | inl vz ↦
          let nw : w ≢ z = λ q. d (vz ∙ sym q) in
          let cw' = not_base w ow nw in
          let a = (shrink.rows.own t.0).0 (ap (λ (x : ℕ). mem (item h.rows.items x) t.0) (sym vz) ∙ t.1) in
          let b = sym (ap (λ (xs : List ℕ). mem xs t.0) (members_kept w ww nw)) ∙ t.2 in
          let e = is.joined a.0 w (cw a.0 a.1) ww (cr a.0 a.1) (out_parts w ow).0 (λ q. other w a.0 cw' a.1 (sym q)) (t.0, a.2, b) in
          (e.0, e.1, subst (λ (x : ℕ). HasEnds H e.0 x w) (sym vz) (turned H e.0 w z (edge_goes w a.0 e.0 cw' a.1 e.1 (turned g e.0 a.0 w e.2))))
      | inr nv ↦
          let cv = not_base v ov nv in
          let a = sym (ap (λ (xs : List ℕ). mem xs t.0) (row_kept v wv nv)) ∙ t.1 in
          elim (cases_eq w z) [
            | inl wz ↦
                let b = (shrink.members.own t.0).0 (ap (λ (x : ℕ). mem (item h.members.items x) t.0) (sym wz) ∙ t.2) in
                let e = is.joined v b.0 wv (cw b.0 b.1) (out_parts v ov).0 (cr b.0 b.1) (other v b.0 cv b.1) (t.0, a, b.2) in
                (e.0, e.1, subst (λ (x : ℕ). HasEnds H e.0 v x) (sym wz) (edge_goes v b.0 e.0 cv b.1 e.1 e.2))
            | inr nw ↦
                let e = is.joined v w wv ww (out_parts v ov).0 (out_parts w ow).0 d (t.0, a, sym (ap (λ (xs : List ℕ). mem xs t.0) (members_kept w ww nw)) ∙ t.2) in
                (e.0, e.1, edge_keeps v w e.0 cv (not_base w ow nw) e.1 e.2)
          ]
    ]

    touches : (d v w : ℕ) → Within (size g) d → HasEnds H d v w → Within g.order v → Within g.order w → rs v ≡ false → rs w ≡ false → v ≢ w → Touches h v w
    touches d v w wd ends wv ww ov ow n = elim (cases_eq v z) [
      | inl vz ↦
          let nw : w ≢ z = λ q. n (vz ∙ sym q) in
          let cw' = not_base w ow nw in
          let u = edge_was w d cw' wd (turned H d z w (subst (λ (x : ℕ). HasEnds H d x w) vz ends)) in
          let t = is.touched d u.0 w wd (turned g d w u.0 u.1) (cw u.0 u.2) ww (cr u.0 u.2) (out_parts w ow).0 (λ q. other w u.0 cw' u.2 (sym q)) in
          (t.0, ap (λ (x : ℕ). mem (item h.rows.items x) t.0) vz ∙ (shrink.rows.own t.0).1 (u.0, u.2, t.1), ap (λ (xs : List ℕ). mem xs t.0) (members_kept w ww nw) ∙ t.2)
      | inr nv ↦
          let cv = not_base v ov nv in
          elim (cases_eq w z) [
            | inl wz ↦
                let u = edge_was v d cv wd (subst (λ (x : ℕ). HasEnds H d v x) wz ends) in
                let t = is.touched d v u.0 wd u.1 wv (cw u.0 u.2) (out_parts v ov).0 (cr u.0 u.2) (other v u.0 cv u.2) in
                (t.0, ap (λ (xs : List ℕ). mem xs t.0) (row_kept v wv nv) ∙ t.1, ap (λ (x : ℕ). mem (item h.members.items x) t.0) wz ∙ (shrink.members.own t.0).1 (u.0, u.2, t.2))
            | inr nw ↦
                let t = is.touched d v w wd (edge_stays v w d cv (not_base w ow nw) wd ends) wv ww (out_parts v ov).0 (out_parts w ow).0 n in
                (t.0, ap (λ (xs : List ℕ). mem xs t.0) (row_kept v wv nv) ∙ t.1, ap (λ (xs : List ℕ). mem xs t.0) (members_kept w ww nw) ∙ t.2)
          ]
    ]

    pub shrunk_instance : IsInstance H rs h
    shrunk_instance = record {
      graph = graph;
      few = is.few;
      one_each = shrink.rows.one_each ∙ is.one_each;
      members_each = shrink.members.one_each ∙ is.members_each;
      left = λ v. shrink.left v ∙ ap (λ b. b && not (c v && not (z == v))) (is.left v) ∙ go (nat_lt 0 v && nat_le v g.order) (r v) (c v) (z == v) (v == z) (same z v);
      blossoms_in = λ v t. elim (or_cases (mem s.blossoms v && not (c v)) (z == v) (sym (shrink.blossoms v) ∙ t)) [
        | inl q ↦ is.blossoms_in v (and_parts (mem s.blossoms v) (not (c v)) q).0
        | inr q ↦ subst (Within g.order) (eqb-true z v q) (cw z cz)
      ];
      own = own_member;
      single = alone;
      joined = λ v w wv ww ov ow d t. let e = joins v w wv ww ov ow d t in (e.0, in_h e.0 e.1, e.2);
      touched = λ d v w wd ends wv ww ov ow n. touches d v w (in_g d wd) ends wv ww ov ow n;
    }
      where
        in_h : (d : ℕ) → Within (size g) d → Within (size H) d
        in_h d w = let a = pulls.same in omega arith

        in_g : (d : ℕ) → Within (size H) d → Within (size g) d
        in_g d w = let a = pulls.same in omega arith

        same : (a b : ℕ) → (a == b) ≡ (b == a)
        same a b = elim (cases_eq a b) [ inl q ↦ eq-eqb a b q ∙ sym (eq-eqb b a (sym q)) | inr q ↦ ne_eqb a b q ∙ sym (ne_eqb b a (λ s. q (sym s))) ]

        go : (a b d e f : Bool) → e ≡ f → ((a && not b) && not (d && not e)) ≡ (a && not (b || (d && not f)))
        go a b d e f q = grind arith
