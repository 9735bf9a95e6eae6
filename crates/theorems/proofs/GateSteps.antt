-- A gate w of a shore p: its vertices outside p are a tight shore. If that is a single vertex, those
-- in p are a pocket. Otherwise it is a nontrivial tight shore of the contraction of all that is outside
-- w. A barrier of the contraction inside it, or outside it, is one of the graph outside p, or in p.
-- Used by: AllShelters, GatePockets, NearPockets, CutsBeside.
use Rattle.tree_check.proofs.from_counting.Common.{◌≡◌, ◌≢◌, ℕ, ◌≤◌, ◌⊎◌, Bool, true, false, ◌==◌, ◌&&◌, not, sym, ap, ◌∙◌, arith, cond, inl, inr, eq-eqb, eqb-true, cases_Bool, and_parts, but_from, alike_not_apart, or_cases, or_parts, both_ways, false_from_ne_true, not-false, not-true, odd-add, odd_three, count_congr, count_member, count_split, only_one, two_members, Within, count, is_odd, Set, complement, meet, minus, pair_set, singleton, union}
use Rattle.barrier_kit.proofs.Common.{even_order, part_step, tight-turned}
use Rattle.graph_core.proofs.Common.{covered_perfect, joined_self, meet_tight, walk_joined, Graph, HasEnds, IsBarrier, IsCovered, IsGraph, IsNontrivial, IsTight, first_end, second_end, size, joined}
use Rattle.quick_kinds.proofs.from_brick_kit.CutEnds.{ends_within}
use Rattle.quick_kinds.proofs.from_brick_kit.PairSeparations.{beside_ends, stays_joined}
use Rattle.theorems.proofs.ConnectedShores.{tight_joined}
use Rattle.theorems.proofs.ContractedShores.{Shrunk, count_back, covered_h, f_in, f_within, image_at, image_new, image_of, in_set, in_shore, shore_down}
use Rattle.theorems.proofs.HalfBarriers.{Gate}
use Rattle.theorems.proofs.LiftedReasons.{new_count, no_cut, with_new, without_new}
use Rattle.theorems.proofs.PocketShelters.{HoldsPocket}

-- z contains a barrier with at least two vertices
pub record HoldsBarrier (g : Graph) (z : Set) : Type 0 where
  pub set : Set
  pub barrier : IsBarrier g set
  pub two : 2 ≤ count g.order set
  pub contained : (v : ℕ) → Within g.order v → set v ≡ true → z v ≡ true

-- z contains a barrier with at least two vertices, or a pocket and its first vertex
abbrev pub Shelter : Graph → Set → Type 0
Shelter g z = HoldsBarrier g z ⊎ HoldsPocket g z

-- a gate of a shore p with at least three vertices outside p, and the contraction of all that is
-- outside the gate
pub record GateContraction : Type 0 where
  pub g : Graph
  pub is : IsGraph g
  pub cov : IsCovered g
  pub p : Set
  pub tp : IsTight g p
  pub w : Set
  pub b : ℕ
  pub gate : Gate g p w b
  pub k : Shrunk g w
  pub three : 3 ≤ count g.order (minus w p)

module _ (g : Graph) (is : IsGraph g) (cov : IsCovered g) (p : Set) (tp : IsTight g p) (w : Set) (b : ℕ) (gate : Gate g p w b) where
  -- the vertices of w outside p, and those in p
  abbrev pub far : Set
  far = minus w p

  abbrev pub near : Set
  near = meet w p

  pub far_parts : (v : ℕ) → far v ≡ true → (w v ≡ true) × (p v ≡ false)
  far_parts v i = bits (w v) (p v) i
    where
      bits : (j k : Bool) → (j && not k) ≡ true → (j ≡ true) × (k ≡ false)
      bits j k i = grind arith

  pub not_far : (v : ℕ) → w v ≡ true → far v ≡ false → p v ≡ true
  not_far v i o = bits (w v) (p v) i o
    where
      bits : (j k : Bool) → j ≡ true → (j && not k) ≡ false → k ≡ true
      bits j k i o = grind arith

  near_even : is_odd (count g.order near) ≡ false
  near_even =
      let n = count_split g.order w p in
      let t = gate.tight in bits (is_odd (count g.order near)) (is_odd (count g.order far)) (sym (odd-add (count g.order near) (count g.order far)) ∙ sym (ap is_odd n) ∙ t.odd) gate.odd
    where
      bits : (j k : Bool) → cond j (not k) k ≡ true → k ≡ true → j ≡ false
      bits j k i o = grind arith

  pub far_tight : IsTight g far
  far_tight = meet_tight g is cov w (complement p) gate.tight (tight-turned g p tp) gate.odd

  -- one vertex outside p
  pub one_far : count g.order far ≡ 1 → HoldsPocket g p
  one_far one =
      let o = count_member g.order far (omega (arith, one)) in
      let q = far_parts o.0 o.2 in
      record {
        set = near;
        one = b;
        other = o.0;
        pocket = record {
          first = gate.within;
          second = o.1;
          different = λ e. both_ways (w b) gate.out_set (ap w e ∙ q.0);
          first_out = fails (w b) (p b) gate.out_set;
          second_out = fails_second (w o.0) (p o.0) q.1;
          even = near_even;
          some = gate.some;
          closed = λ e we s t. no_cut g near e (λ u v ends nu nv.
              let i = and_parts (w u) (p u) nu in
              let wv = (ends_within g is e u v we ends).1 in
              let out = or_parts (b == v) (o.0 == v) (beside_ends g (pair_set b o.0) e u v ends s t).1 in
              elim (cases_Bool (w v)) [
                | inl k ↦ both_ways (o.0 == v) out.1 (eq-eqb o.0 v (only_one g.order far one o.0 v o.1 wv o.2 (but_from (w v) (p v) k (second_out (w v) (p v) k nv))))
                | inr k ↦ both_ways (b == v) out.0 (eq-eqb b v (sym (gate.closed e u v we ends i.0 i.1 k)))
              ]);
        };
        contained = λ v wv k. (and_parts (w v) (p v) k).1;
        first = gate.out_shore;
      }
    where
      fails : (j k : Bool) → j ≡ false → (j && k) ≡ false
      fails j k i = grind arith

      fails_second : (j k : Bool) → k ≡ false → (j && k) ≡ false
      fails_second j k i = grind arith

      second_out : (j k : Bool) → j ≡ true → (j && k) ≡ false → k ≡ false
      second_out j k i o = grind arith

module _ (con : GateContraction) where
  open con use {g, is, cov, p, tp, w, b, gate, k, three}
  open k use {h, f, c, is as ish, merge}

  -- the vertices of the gate outside p, and those in p
  abbrev pub outer : Set
  outer = far g is cov p tp w b gate

  abbrev pub inner : Set
  inner = near g is cov p tp w b gate

  pub outer_parts : (v : ℕ) → outer v ≡ true → (w v ≡ true) × (p v ≡ false)
  outer_parts v i = far_parts g is cov p tp w b gate v i

  pub in_p : (v : ℕ) → w v ≡ true → outer v ≡ false → p v ≡ true
  in_p v i o = not_far g is cov p tp w b gate v i o

  pub outer_in : (v : ℕ) → Within g.order v → outer v ≡ true → w v ≡ true
  outer_in v wv i = (outer_parts v i).0

  -- the shore of the vertices of w outside p, in the contraction
  abbrev pub image : Set
  image = image_of g is w k outer outer_in

  pub at : (v : ℕ) → Within g.order v → image (f v) ≡ outer v
  at v wv = image_at g is w k outer outer_in v wv

  pub at_new : image c ≡ false
  at_new = image_new g is w k outer outer_in

  pub covers : IsCovered h
  covers = covered_h g is w k cov gate.tight

  pub even_h : is_odd h.order ≡ false
  even_h = let m = covered_perfect h ish covers in even_order h m.0 ish m.1

  pub image_tight : IsTight h image
  image_tight = shore_down g is w k cov gate.tight image outer at (far_tight g is cov p tp w b gate)

  pub image_wide : IsNontrivial h.order image
  image_wide =
      let t = image_tight in
      let n = count_back g is w k image at_new in
      let m = count_congr g.order (λ v. image (f v)) outer at in
      let u = count_member g.order inner gate.some in
      let q = and_parts (w u.0) (p u.0) u.2 in
      let i = f_in g is w k u.0 u.1 q.0 in
      let o = false_from_ne_true (outer u.0) (λ z. both_ways (p u.0) (outer_parts u.0 z).1 q.1) in
      let two = two_members h.order (complement image) (f u.0) c i.0 merge.new i.1 (ap not (at u.0 u.1 ∙ o)) (ap not at_new) in
      record { inside = omega (arith, three); outside = odd_three (count h.order (complement image)) t.odd_complement two }

  -- what is carried into the image is outside p, and what is not, in p
  pub image_out : (v : ℕ) → Within g.order v → image (f v) ≡ true → complement p v ≡ true
  image_out v wv i = ap not (outer_parts v (sym (at v wv) ∙ i)).1

  pub rest_in : (v : ℕ) → Within g.order v → w v ≡ true → complement image (f v) ≡ true → p v ≡ true
  rest_in v wv i o = in_p v i (sym (at v wv) ∙ not-true (image (f v)) o)

  pub over_p : (v : ℕ) → Within g.order v → image (f v) ≡ true → p v ≡ true → ⊥
  over_p v wv i pv = both_ways (p v) (outer_parts v (sym (at v wv) ∙ i)).1 pv

  pub old_vertex : (t : ℕ) → image t ≡ true → t ≢ c
  old_vertex t i e = both_ways (image t) (ap image e ∙ at_new) i

  -- a barrier inside the image
  pub far_barrier : HoldsBarrier h image → HoldsBarrier g (complement p)
  far_barrier r =
      let new = false_from_ne_true (r.set c) (λ i. both_ways (image c) at_new (r.contained c merge.new i)) in
      let n = count_back g is w k r.set new in
      let two = r.two in
      record {
        set = λ v. r.set (f v);
        barrier = without_new g is cov w gate.tight k r.set r.barrier r.two new;
        two = omega arith;
        contained = λ v wv i. image_out v wv (r.contained (f v) (f_within g is w k v wv) i);
      }

  -- a barrier outside the image
  pub near_barrier : HoldsBarrier h (complement image) → HoldsBarrier g p
  near_barrier r = elim (cases_Bool (r.set c)) [
    | inr new ↦
        let n = count_back g is w k r.set new in
        let two = r.two in
        record {
          set = λ v. r.set (f v);
          barrier = without_new g is cov w gate.tight k r.set r.barrier r.two new;
          two = omega arith;
          contained = λ v wv i. rest_in v wv (in_set g is w k r.set v wv new i) (r.contained (f v) (f_within g is w k v wv) i);
        }
    | inl new ↦
        let two = r.two in
        let n = new_count g is cov w gate.tight k r.set r.barrier r.two new o.0 o.1 to_out b gate.within gate.out_set leave in
        record {
          set = union (λ v. minus r.set (singleton c) (f v)) (singleton b);
          barrier = with_new g is cov w gate.tight k r.set r.barrier r.two new o.0 o.1 to_out b gate.within gate.out_set leave;
          two = omega arith;
          contained = λ v wv i. elim (or_cases (minus r.set (singleton c) (f v)) (b == v) i) [
            | inl q ↦
                let z = split (r.set (f v)) (c == f v) q in
                rest_in v wv (in_shore g is w k v wv (λ e. both_ways (c == f v) z.1 (eq-eqb c (f v) (sym e)))) (r.contained (f v) (f_within g is w k v wv) z.0)
            | inr q ↦ ap p (sym (eqb-true b v q)) ∙ gate.out_shore
          ];
        }
  ]
    where
      split : (i j : Bool) → (i && not j) ≡ true → (i ≡ true) × (j ≡ false)
      split i j q = grind arith

      o : (v : ℕ) × Within g.order v × (outer v ≡ true)
      o = count_member g.order outer (omega (arith, three))

      out : (t : ℕ) → Within h.order t → image t ≡ true → r.set t ≡ false
      out t wt i = false_from_ne_true (r.set t) (λ q. both_ways (image t) (not-true (image t) (r.contained t wt q)) i)

      to_out : r.set (f o.0) ≡ false
      to_out = out (f o.0) (f_within g is w k o.0 o.1) (at o.0 o.1 ∙ o.2)

      -- the image is in one component
      together : (u : ℕ) → Within g.order u → outer u ≡ true → joined h r.set (f o.0) (f u) ≡ true
      together u wu i =
          let t = image_tight in
          let fo = f_within g is w k o.0 o.1 in
          let fu = f_within g is w k u wu in
          stays_joined h (complement image) (joined h r.set (f o.0)) ish
          (λ e we i j. alike_not_apart (joined h r.set (f o.0) (first_end h e)) (joined h r.set (f o.0) (second_end h e)) (part_step h r.set (f o.0) e ish fo we (out (first_end h e) (ish e we).0 (not-false (image (first_end h e)) i)) (out (second_end h e) (ish e we).1 (not-false (image (second_end h e)) j))))
          (f o.0) (f u) (tight_joined h image (f o.0) (f u) ish covers t.cut fo fu (at o.0 o.1 ∙ o.2) (at u wu ∙ i)) (walk_joined h r.set ish (f o.0) (f o.0) fo (joined_self h r.set (f o.0)))

      leave : (e u v : ℕ) → Within (size g) e → HasEnds g e u v → w u ≡ true → joined h r.set (f o.0) (f u) ≡ false → w v ≡ false → v ≡ b
      leave e u v we ends wu j wv =
          let q = (ends_within g is e u v we ends).0 in
          gate.closed e u v we ends wu (in_p u wu (false_from_ne_true (outer u) (λ i. both_ways (joined h r.set (f o.0) (f u)) j (together u q i)))) wv
