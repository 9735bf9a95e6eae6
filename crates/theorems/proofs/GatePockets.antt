-- The gate without a pocket of the contraction and its first vertex, one of which is the new vertex: a
-- tight shore. A pocket inside the image of the vertices outside p is one of the graph; or its second
-- vertex is the new one, and the gate without the pocket is a gate.
-- Used by: AllShelters, NearPockets.
use Rattle.tree_check.proofs.from_counting.Common.{◌≡◌, ◌≢◌, ℕ, ◌+◌, ◌≤◌, ◌<◌, ◌⊎◌, Bool, true, false, ◌==◌, ◌&&◌, ◌||◌, not, sym, ap, ◌∙◌, arith, cond, inl, inr, eq-eqb, eqb-true, ne_eqb, cases_Bool, cases_eq, and_from, and_parts, or_cases, or_left, or_parts, or_right, both_ways, false_from_ne_true, not-false, not-true, odd-add, count_congr, count_member, count_mono, count_plus, count_split, Within, count, is_odd, Set, complement, meet, minus, pair_set, singleton, union}
use Rattle.barrier_kit.proofs.Common.{tight-turned}
use Rattle.graph_core.proofs.Common.{Graph, HasEnds, IsTight, size}
use Rattle.quick_kinds.proofs.from_brick_kit.CutEnds.{ends_within}
use Rattle.theorems.proofs.ContractedShores.{count_back, edge_in, ends_over, f_in, f_within, in_set, shore_up, up, up_is}
use Rattle.theorems.proofs.EvenPockets.{pocket_back, pocket_tight}
use Rattle.theorems.proofs.GateSteps.{GateContraction, at, at_new, even_h, image, image_out, inner, old_vertex, outer, over_p}
use Rattle.theorems.proofs.HalfBarriers.{Gate}
use Rattle.theorems.proofs.LiftedReasons.{lifted_pocket, neither, pocket_edge, to, to_is, turned_ends}
use Rattle.theorems.proofs.PocketShelters.{HoldsPocket}
use Rattle.theorems.proofs.Pockets.{Pocket}

-- a gate with fewer vertices
pub record Lesser (g : Graph) (p w : Set) : Type 0 where
  pub set : Set
  pub exit : ℕ
  pub gate : Gate g p set exit
  pub less : count g.order set < count g.order w

module _ (con : GateContraction) where
  open con use {g, is, cov, p, tp, w, b, gate, k, three}
  open k use {h, f, c, is as ish, merge}

  abbrev over : Set
  over = image con

  abbrev out_p : Set
  out_p = outer con

  abbrev inside_p : Set
  inside_p = inner con

  -- the gate without a pocket and its first vertex, one of which is the new vertex
  module _ (m : Set) (r q : ℕ) (pk : Pocket h m r q) (new_in : union m (singleton r) c ≡ true) where
    abbrev pub kept : Set
    kept v = complement (union m (singleton r)) (f v)

    pub kept_tight : IsTight g kept
    kept_tight = shore_up g is w k cov gate.tight (complement (union m (singleton r))) (tight-turned h (union m (singleton r)) (pocket_tight h m r q pk ish (even_h con)))

    pub kept_in : (v : ℕ) → Within g.order v → kept v ≡ true → w v ≡ true
    kept_in v wv i = in_set g is w k (complement (union m (singleton r))) v wv (ap not new_in) i

    pub kept_parts : (v : ℕ) → kept v ≡ true → (m (f v) ≡ false) × ((r == f v) ≡ false)
    kept_parts v i = or_parts (m (f v)) (r == f v) (not-true (union m (singleton r) (f v)) i)

    pub kept_from : (v : ℕ) → m (f v) ≡ false → (r == f v) ≡ false → kept v ≡ true
    kept_from v i j = ap not (neither (m (f v)) (r == f v) i j)

    pub kept_not : (v : ℕ) → kept v ≡ false → union m (singleton r) (f v) ≡ true
    kept_not v i = not-false (union m (singleton r) (f v)) i

    pub kept_less : (y : ℕ) → Within g.order y → w y ≡ true → union m (singleton r) (f y) ≡ true → count g.order kept < count g.order w
    kept_less y wy i j =
        let n = count_plus g.order kept y wy (ap not j) in
        let o = count_mono g.order (union kept (singleton y)) w (λ v wv t. elim (or_cases (kept v) (y == v) t) [
          | inl s ↦ kept_in v wv s
          | inr s ↦ ap w (sym (eqb-true y v s)) ∙ i
        ]) in omega arith

    pub kept_more : 1 ≤ count g.order (minus (complement p) kept)
    kept_more =
        let n = gate.more in
        let o = count_mono g.order (minus (complement p) w) (minus (complement p) kept) (λ v wv i. bits (complement p v) (w v) (kept v) i (kept_in v wv)) in omega arith
      where
        bits : (i j l : Bool) → (i && not j) ≡ true → (l ≡ true → j ≡ true) → (i && not l) ≡ true
        bits i j l t s = grind arith

  -- a pocket inside the image
  module _ (m : Set) (a d : ℕ) (pk : Pocket h m a d) (held : (t : ℕ) → Within h.order t → m t ≡ true → over t ≡ true) (ia : over a ≡ true) where
    m_new : m c ≡ false
    m_new = false_from_ne_true (m c) (λ i. both_ways (over c) (at_new con) (held c merge.new i))

    -- vertices of p are not in the pocket
    not_m : (v : ℕ) → Within g.order v → p v ≡ true → m (f v) ≡ false
    not_m v wv pv = false_from_ne_true (m (f v)) (λ i. over_p con v wv (held (f v) (f_within g is w k v wv) i) pv)

    -- its second vertex is an old one
    lifted_far : d ≢ c → HoldsPocket g (complement p)
    lifted_far n = record {
      set = λ v. m (f v);
      one = to g is cov w gate.tight k m a d pk m_new b gate.within gate.out_set leave a;
      other = to g is cov w gate.tight k m a d pk m_new b gate.within gate.out_set leave d;
      pocket = lifted_pocket g is cov w gate.tight k m a d pk m_new b gate.within gate.out_set leave;
      contained = λ v wv i. image_out con v wv (held (f v) (f_within g is w k v wv) i);
      first = image_out con _ one.0 (ap over one.1 ∙ ia);
    }
      where
        leave : pair_set a d c ≡ true → (e u v : ℕ) → Within (size g) e → HasEnds g e u v → m (f u) ≡ true → w v ≡ false → v ≡ b
        leave i e u v we ends mu wv = absurd (both_ways (pair_set a d c) (neither (a == c) (d == c) (ne_eqb a c (old_vertex con a ia)) (ne_eqb d c n)) i)

        one : Within g.order (to g is cov w gate.tight k m a d pk m_new b gate.within gate.out_set leave a) × (f (to g is cov w gate.tight k m a d pk m_new b gate.within gate.out_set leave a) ≡ a)
        one = to_is g is cov w gate.tight k m a d pk m_new b gate.within gate.out_set leave a pk.first

    -- its second vertex is the new one
    module _ (e : d ≡ c) where
      back : Pocket h m d a
      back = pocket_back h m a d pk

      new_in : union m (singleton d) c ≡ true
      new_in = or_right (m c) (d == c) (eq-eqb d c e)

      abbrev left : Set
      left = kept m d a back new_in

      not_d : (v : ℕ) → Within g.order v → w v ≡ true → (d == f v) ≡ false
      not_d v wv i = ne_eqb d (f v) (λ z. (f_in g is w k v wv i).1 (sym z ∙ e))

      -- a vertex of the pocket
      inhabitant : (v : ℕ) × Within g.order v × (w v ≡ true) × (m (f v) ≡ true)
      inhabitant =
          let t = count_member h.order m pk.some in
          let u = up_is g is w k t.0 t.1 (old_vertex con t.0 (held t.0 t.1 t.2)) in (up g is w k t.0, u.0, u.1, ap m u.2 ∙ t.2)

      odd_left : is_odd (count g.order (minus left p)) ≡ true
      odd_left =
          let s = count_split g.order out_p (λ v. m (f v)) in
          let n = count_congr g.order (meet out_p (λ v. m (f v))) (λ v. m (f v)) (λ v wv. absorbed (out_p v) (m (f v)) (λ i. sym (at con v wv) ∙ held (f v) (f_within g is w k v wv) i)) in
          let o = count_back g is w k m m_new in
          let l = count_congr g.order (minus out_p (λ v. m (f v))) (minus left p) (λ v wv. alike (w v) (p v) (m (f v)) (d == f v) (not_d v wv) (λ i. kept_in m d a back new_in v wv i)) in
          sym (ap is_odd l) ∙ parity (count g.order (meet out_p (λ v. m (f v)))) (count g.order (minus out_p (λ v. m (f v)))) (ap is_odd (n ∙ o) ∙ pk.even) (sym (ap is_odd s) ∙ gate.odd)
        where
          absorbed : (i j : Bool) → (j ≡ true → i ≡ true) → (i && j) ≡ j
          absorbed i j t = grind arith

          alike : (i j l n : Bool) → (i ≡ true → n ≡ false) → (not (l || n) ≡ true → i ≡ true) → ((i && not j) && not l) ≡ (not (l || n) && not j)
          alike i j l n s t = grind arith

          parity : (i j : ℕ) → is_odd i ≡ false → is_odd (i + j) ≡ true → is_odd j ≡ true
          parity i j e o = bits (is_odd i) (is_odd j) e (sym (odd-add i j) ∙ o)
            where
              bits : (i j : Bool) → i ≡ false → cond i (not j) j ≡ true → j ≡ true
              bits i j s t = grind arith

      left_closed : (x u v : ℕ) → Within (size g) x → HasEnds g x u v → left u ≡ true → p u ≡ true → left v ≡ false → v ≡ b
      left_closed x u v we ends ku pu kv =
          let wu = (ends_within g is x u v we ends).0 in
          let wv = (ends_within g is x u v we ends).1 in
          let iu = kept_in m d a back new_in u wu ku in
          elim (cases_Bool (w v)) [
            | inr o ↦ gate.closed x u v we ends iu pu o
            | inl i ↦ elim (or_cases (m (f v)) (d == f v) (kept_not m d a back new_in v kv)) [
              | inr s ↦ absurd (both_ways (d == f v) (not_d v wv i) s)
              | inl s ↦ absurd (elim (or_cases (a == f u) (d == f u) (pocket_edge h m a d pk x (f v) (f u) (edge_in g is w k x we) (turned_ends h x (f u) (f v) (ends_over g is w k x u v we ends)) s (not_m u wu pu))) [
                | inl z ↦ over_p con u wu (ap over (sym (eqb-true a (f u) z)) ∙ ia) pu
                | inr z ↦ both_ways (d == f u) (not_d u wu iu) z
              ])
            ]
          ]

      without_pocket : Lesser g p w
      without_pocket = record {
        set = left;
        exit = b;
        gate = record {
          within = gate.within;
          tight = kept_tight m d a back new_in;
          odd = odd_left;
          some = let n = gate.some in let o = count_mono g.order inside_p (meet left p) (λ v wv i. let s = and_parts (w v) (p v) i in and_from (left v) (p v) (kept_from m d a back new_in v (not_m v wv s.1) (not_d v wv s.0)) s.1) in omega arith;
          more = kept_more m d a back new_in;
          out_shore = gate.out_shore;
          out_set = false_from_ne_true (left b) (λ i. both_ways (w b) gate.out_set (kept_in m d a back new_in b gate.within i));
          closed = left_closed;
        };
        less = let y = inhabitant in kept_less m d a back new_in y.0 y.1 y.2 (or_left (m (f y.0)) (d == f y.0) y.3);
      }

    pub far_pocket : HoldsPocket g (complement p) ⊎ Lesser g p w
    far_pocket = elim (cases_eq d c) [
      | inr n ↦ inl (lifted_far n)
      | inl e ↦ inr (without_pocket e)
    ]
