-- A pocket of the contraction beside a gate, outside the image of the vertices outside p. If the new
-- vertex is not in the pocket, it is one of the graph. Otherwise its second vertex is in the image,
-- since the other shore is connected. Then the gate without the pocket and its first vertex is a gate;
-- or it has no vertex in p, and without the second vertex it is a pocket of the graph.
-- Used by: AllShelters.
use Rattle.tree_check.proofs.from_counting.Common.{◌≡◌, ◌≢◌, ℕ, suc, ◌+◌, ◌≤◌, ◌⊎◌, Bool, true, false, ◌==◌, ◌&&◌, not, refl, sym, ap, ◌∙◌, arith, inl, inr, eq-eqb, eqb-true, ne_eqb, cases_Bool, cases_lt, and_from, and_parts, but_not, or_cases, or_left, or_parts, or_right, both_ways, false_from_ne_true, true_from_ne_false, not-false, not-true, count_congr, count_member, count_minus, count_zero, Within, count, is_odd, Set, complement, meet, minus, pair_set, singleton, union}
use Rattle.barrier_kit.proofs.Common.{tight-turned}
use Rattle.graph_core.proofs.Common.{HasEnds, first_end, in_cut, second_end, size}
use Rattle.quick_kinds.proofs.from_brick_kit.CutEnds.{ends_within}
use Rattle.quick_kinds.proofs.from_brick_kit.PairSeparations.{beside_ends, stays_joined}
use Rattle.theorems.proofs.ConnectedShores.{tight_joined}
use Rattle.theorems.proofs.ContractedShores.{edge_in, ends_over, f_out, f_within, in_set, in_shore, up, up_is, up_of}
use Rattle.theorems.proofs.GatePockets.{Lesser, kept, kept_from, kept_in, kept_less, kept_more, kept_not, kept_parts, kept_tight}
use Rattle.theorems.proofs.GateSteps.{GateContraction, at, image, in_p, inner, old_vertex, outer, outer_parts, over_p, rest_in}
use Rattle.theorems.proofs.LiftedReasons.{lifted_pocket, neither, no_cut, pocket_edge, to, to_is, to_kept, turned_ends}
use Rattle.theorems.proofs.PocketShelters.{HoldsPocket}
use Rattle.theorems.proofs.Pockets.{Pocket}

module _ (con : GateContraction) where
  open con use {g, is, cov, p, tp, w, b, gate, k, three}
  open k use {h, f, c, is as ish, merge}

  abbrev over : Set
  over = image con

  abbrev out_p : Set
  out_p = outer con

  abbrev inside_p : Set
  inside_p = inner con

  -- a pocket outside the image
  module _ (m : Set) (a d : ℕ) (pk : Pocket h m a d) (held : (t : ℕ) → Within h.order t → m t ≡ true → complement over t ≡ true) (ia : complement over a ≡ true) where
    -- vertices of the image are not in the pocket
    not_over : (v : ℕ) → Within g.order v → over (f v) ≡ true → m (f v) ≡ false
    not_over v wv i = false_from_ne_true (m (f v)) (λ z. both_ways (over (f v)) (not-true (over (f v)) (held (f v) (f_within g is w k v wv) z)) i)

    -- without the new vertex
    module _ (new : m c ≡ false) where
      leave : pair_set a d c ≡ true → (e u v : ℕ) → Within (size g) e → HasEnds g e u v → m (f u) ≡ true → w v ≡ false → v ≡ b
      leave i e u v we ends mu wv =
          let wu = (ends_within g is e u v we ends).0 in
          let iu = in_set g is w k m u wu new mu in gate.closed e u v we ends iu (rest_in con u wu iu (held (f u) (f_within g is w k u wu) mu)) wv

      abbrev start : ℕ
      start = to g is cov w gate.tight k m a d pk new b gate.within gate.out_set leave a

      start_is : Within g.order start × (f start ≡ a)
      start_is = to_is g is cov w gate.tight k m a d pk new b gate.within gate.out_set leave a pk.first

      start_p : p start ≡ true
      start_p = elim (cases_Bool (w start)) [
        | inl i ↦ rest_in con start start_is.0 i (ap (complement over) start_is.1 ∙ ia)
        | inr o ↦ ap p (to_kept g is cov w gate.tight k m a d pk new b gate.within gate.out_set leave a pk.first o) ∙ gate.out_shore
      ]

      lifted_near : HoldsPocket g p
      lifted_near = record {
        set = λ v. m (f v);
        one = start;
        other = to g is cov w gate.tight k m a d pk new b gate.within gate.out_set leave d;
        pocket = lifted_pocket g is cov w gate.tight k m a d pk new b gate.within gate.out_set leave;
        contained = λ v wv i. rest_in con v wv (in_set g is w k m v wv new i) (held (f v) (f_within g is w k v wv) i);
        first = start_p;
      }

    -- with the new vertex
    module _ (new : m c ≡ true) where
      new_in : union m (singleton a) c ≡ true
      new_in = or_left (m c) (a == c) new

      abbrev left : Set
      left = kept con m a d pk new_in

      -- the first vertex in the graph
      first_is : Within g.order (up g is w k a) × (w (up g is w k a) ≡ true) × (f (up g is w k a) ≡ a)
      first_is = up_is g is w k a pk.first (λ e. both_ways (m a) pk.first_out (ap m e ∙ new))

      abbrev one : ℕ
      one = up g is w k a

      one_p : p one ≡ true
      one_p = rest_in con one first_is.0 first_is.1 (ap (complement over) first_is.2 ∙ ia)

      is_one : (v : ℕ) → Within g.order v → w v ≡ true → (a == f v) ≡ true → v ≡ one
      is_one v wv i z = sym (up_of g is w k v wv i) ∙ ap (up g is w k) (sym (eqb-true a (f v) z))

      -- an edge from outside the pocket to it begins at one of the two vertices
      from_pair : (x u v : ℕ) → Within (size g) x → HasEnds g x u v → m (f u) ≡ false → m (f v) ≡ true → pair_set a d (f u) ≡ true
      from_pair x u v we ends mu mv = pocket_edge h m a d pk x (f v) (f u) (edge_in g is w k x we) (turned_ends h x (f u) (f v) (ends_over g is w k x u v we ends)) mv mu

      not_first : (v : ℕ) → Within g.order v → over (f v) ≡ true → (a == f v) ≡ false
      not_first v wv i = ne_eqb a (f v) (λ e. both_ways (over (f v)) (ap over (sym e) ∙ not-true (over a) ia) i)

      -- the second vertex is in the image, else no edge of the graph joins two parts of the other shore
      second_over : over d ≡ true
      second_over = true_from_ne_false (over d) (λ id.
          let t = tight-turned g p tp in
          let o = count_member g.order out_p (omega (arith, three)) in
          let q = count_member g.order (minus (complement p) w) gate.more in
          let oq = outer_parts con o.0 o.2 in
          let s = split (complement p q.0) (w q.0) q.2 in
          both_ways (out_p q.0) (fails (w q.0) (p q.0) s.1) (stays_joined g (complement (complement p)) out_p is
          (λ x we i j. no_cut g out_p x (λ u v ends ou ov.
          let wu = (ends_within g is x u v we ends).0 in
          let wv = (ends_within g is x u v we ends).1 in
          let z = beside_ends g (complement (complement p)) x u v ends i j in
          let iu = at con u wu ∙ ou in
          let out = false_from_ne_true (w v) (λ iv. both_ways (p v) (not-true (p v) (not-false (complement p v) z.1)) (in_p con v iv ov)) in
          both_ways (pair_set a d (f u)) (neither (a == f u) (d == f u) (not_first u wu iu) (ne_eqb d (f u) (λ e. both_ways (over (f u)) (ap over (sym e) ∙ id) iu)))
          (from_pair x u v we ends (not_over u wu iu) (ap m (f_out g is w k v wv out) ∙ new))))
          o.0 q.0 (tight_joined g (complement p) o.0 q.0 is cov t.cut o.1 q.1 (ap not oq.1) s.0) o.2))
        where
          split : (i j : Bool) → (i && not j) ≡ true → (i ≡ true) × (j ≡ false)
          split i j z = grind arith

          fails : (i j : Bool) → i ≡ false → (i && not j) ≡ false
          fails i j z = grind arith

      -- some vertices of p are left
      shrunk_gate : 1 ≤ count g.order (meet left p) → Lesser g p w
      shrunk_gate some = record {
        set = left;
        exit = one;
        gate = record {
          within = first_is.0;
          tight = kept_tight con m a d pk new_in;
          odd = ap is_odd (count_congr g.order (minus left p) out_p (λ v wv. alike (left v) (w v) (p v) (λ i. kept_in con m a d pk new_in v wv i) (λ i. let j = at con v wv ∙ i in kept_from con m a d pk new_in v (not_over v wv j) (not_first v wv j)))) ∙ gate.odd;
          some = some;
          more = kept_more con m a d pk new_in;
          out_shore = one_p;
          out_set = false_from_ne_true (left one) (λ i. both_ways (a == f one) (kept_parts con m a d pk new_in one i).1 (eq-eqb a (f one) (sym first_is.2)));
          closed = λ x u v we ends ku pu kv.
              let wu = (ends_within g is x u v we ends).0 in
              let wv = (ends_within g is x u v we ends).1 in
              let iu = kept_parts con m a d pk new_in u ku in
              elim (or_cases (m (f v)) (a == f v) (kept_not con m a d pk new_in v kv)) [
                | inr z ↦ is_one v wv (in_shore g is w k v wv (λ e. both_ways (m a) pk.first_out (ap m (eqb-true a (f v) z ∙ e) ∙ new))) z
                | inl z ↦ absurd (elim (or_cases (a == f u) (d == f u) (from_pair x u v we ends iu.0 z)) [
                  | inl y ↦ both_ways (a == f u) iu.1 y
                  | inr y ↦ over_p con u wu (ap over (sym (eqb-true d (f u) y)) ∙ second_over) pu
                ])
              ];
        };
        less = kept_less con m a d pk new_in one first_is.0 first_is.1 (or_right (m (f one)) (a == f one) (eq-eqb a (f one) (sym first_is.2)));
      }
        where
          alike : (i j l : Bool) → (i ≡ true → j ≡ true) → ((j && not l) ≡ true → i ≡ true) → (i && not l) ≡ (j && not l)
          alike i j l s t = grind arith

      -- none are left
      module _ (gone : count g.order (meet left p) ≡ 0) where
        second_is : Within g.order (up g is w k d) × (w (up g is w k d) ≡ true) × (f (up g is w k d) ≡ d)
        second_is = up_is g is w k d pk.second (old_vertex con d second_over)

        abbrev two : ℕ
        two = up g is w k d

        two_outer : out_p two ≡ true
        two_outer = sym (at con two second_is.0) ∙ ap over second_is.2 ∙ second_over

        abbrev rest : Set
        rest = minus out_p (singleton two)

        -- the vertices of p in the gate but the first one are in the pocket
        in_pocket : (v : ℕ) → Within g.order v → w v ≡ true → p v ≡ true → v ≢ one → m (f v) ≡ true
        in_pocket v wv i pv n = true_from_ne_false (m (f v)) (λ o.
            let z = count_zero g.order (meet left p) gone v wv in
            both_ways (meet left p v) z (and_from (left v) (p v) (kept_from con m a d pk new_in v o (false_from_ne_true (a == f v) (λ y. n (is_one v wv i y)))) pv))

        rest_closed : (x : ℕ) → Within (size g) x → pair_set two one (first_end g x) ≡ false → pair_set two one (second_end g x) ≡ false → in_cut g rest x ≡ false
        rest_closed x we s t = no_cut g rest x (λ u v ends ru rv.
            let wu = (ends_within g is x u v we ends).0 in
            let wv = (ends_within g is x u v we ends).1 in
            let q = beside_ends g (pair_set two one) x u v ends s t in
            let off = or_parts (two == v) (one == v) q.1 in
            let off_u = or_parts (two == u) (one == u) q.0 in
            let ou = (and_parts (out_p u) (not (two == u)) ru).0 in
            let ov = but_fails (out_p v) (two == v) off.0 rv in
            let iu = at con u wu ∙ ou in
            let mv = to_pocket v wv ov (λ e. both_ways (one == v) off.1 (eq-eqb one v (sym e))) in
            elim (or_cases (a == f u) (d == f u) (from_pair x u v we ends (not_over u wu iu) mv)) [
              | inl y ↦ both_ways (a == f u) (not_first u wu iu) y
              | inr y ↦ both_ways (two == u) off_u.0 (eq-eqb two u (ap (up g is w k) (eqb-true d (f u) y) ∙ up_of g is w k u wu (outer_parts con u ou).0))
            ])
          where
            but_fails : (i j : Bool) → j ≡ false → (i && not j) ≡ false → i ≡ false
            but_fails i j y z = grind arith

            to_pocket : (v : ℕ) → Within g.order v → out_p v ≡ false → v ≢ one → m (f v) ≡ true
            to_pocket v wv o n = elim (cases_Bool (w v)) [
              | inl i ↦ in_pocket v wv i (in_p con v i o) n
              | inr i ↦ ap m (f_out g is w k v wv i) ∙ new
            ]

        rest_pocket : HoldsPocket g (complement p)
        rest_pocket =
            let n = count_minus g.order out_p two second_is.0 two_outer in
            record {
              set = rest;
              one = two;
              other = one;
              pocket = record {
                first = second_is.0;
                second = first_is.0;
                different = λ e. pk.different (sym first_is.2 ∙ ap f (sym e) ∙ second_is.2);
                first_out = but_not (out_p two) (two == two) (eq-eqb two two refl);
                second_out = false_from_ne_true (rest one) (λ i. both_ways (p one) (outer_parts con one (and_parts (out_p one) (not (two == one)) i).0).1 one_p);
                even = even (count g.order rest) (count g.order out_p) n gate.odd;
                some = omega (arith, three);
                closed = rest_closed;
              };
              contained = λ v wv i. ap not (outer_parts con v (and_parts (out_p v) (not (two == v)) i).0).1;
              first = ap not (outer_parts con two two_outer).1;
            }
          where
            even : (i j : ℕ) → i + 1 ≡ j → is_odd j ≡ true → is_odd i ≡ false
            even i j e o = let q : j ≡ suc i = omega arith in bits (is_odd i) (sym (ap is_odd q) ∙ o)
              where
                bits : (b : Bool) → not b ≡ true → b ≡ false
                bits b h = grind arith

    pub near_pocket : HoldsPocket g p ⊎ (HoldsPocket g (complement p) ⊎ Lesser g p w)
    near_pocket = elim (cases_Bool (m c)) [
      | inr o ↦ inl (lifted_near o)
      | inl i ↦ elim (cases_lt 0 (count g.order (meet (left i) p))) [
        | inl some ↦ inr (inr (shrunk_gate i some))
        | inr gone ↦ inr (inl (rest_pocket i (omega arith)))
      ]
    ]
