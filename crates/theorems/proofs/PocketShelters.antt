-- In a bicritical graph one shore of a nontrivial tight cut contains a pocket and its first vertex.
-- Begin with a component at any cut pair; either it serves, or there is a smaller pocket.
use Rattle.tree_check.proofs.from_counting.Common.{◌≡◌, ℕ, suc, zero, ◌≤◌, ◌≢◌, ◌⊎◌, Bool, true, false, ◌==◌, ◌&&◌, ◌||◌, not, refl, sym, ap, ◌∙◌, arith, cond, eq-eqb, eqb-true, ne_eqb, inl, inr, cases_Bool, cases_eq, cases_lt, or_cases, or_left, or_right, and_parts, and_from, both_ways, false_from_ne_true, not-false, not_not, but_from, same_tests, alike_not_apart, le_refl, true≢false, member_count, count_singleton, odd-add, odd_pos, only_one, scan, count_congr, count_split, count_minus, count_mono, count_member, Within, count, is_odd, Set, pair_set, union, minus, meet, complement, singleton}
use Rattle.barrier_kit.proofs.Common.{even_order, part_out, part_step, tight-turned, nontrivial-turned}
use Rattle.graph_core.proofs.Common.{covered_perfect, joined_self, walk_joined, joined_outside, meet_tight, no_edge_joins, IsCovered, Graph, IsGraph, IsTight, IsBicritical, IsNontrivial, first_end, second_end, size, in_cut, connects, joined}
use Rattle.quick_kinds.proofs.from_brick_kit.Bricks.{shore_pair}
use Rattle.quick_kinds.proofs.from_brick_kit.PairSeparations.{stays_joined}
use Rattle.separation_kit.proofs.CutPairs.{beside_pair}
use Rattle.theorems.proofs.ConnectedShores.{tight_joined}
use Rattle.theorems.proofs.EvenPockets.{other_part, closed_even, pocket_back, pocket_off, pocket_tight}
use Rattle.theorems.proofs.Pockets.{Pocket}
use Rattle.theorems.proofs.SmallerPockets.{Smaller, smaller_pocket}

-- z contains a pocket and its first vertex
pub record HoldsPocket (g : Graph) (z : Set) : Type 0 where
  pub set : Set
  pub one : ℕ
  pub other : ℕ
  pub pocket : Pocket g set one other
  pub contained : (v : ℕ) → Within g.order v → set v ≡ true → z v ≡ true
  pub first : z one ≡ true

-- the same of a set with the same vertices
pub holds_same : (g : Graph) (y z : Set) → ((v : ℕ) → Within g.order v → y v ≡ z v) → HoldsPocket g y → HoldsPocket g z
holds_same g y z same h = let p = h.pocket in record { set = h.set; one = h.one; other = h.other; pocket = p; contained = λ v w k. sym (same v w) ∙ h.contained v w k; first = sym (same h.one p.first) ∙ h.first }

module _ (g : Graph) (is : IsGraph g) (cov : IsCovered g) (bi : IsBicritical g) where
  even_g : is_odd g.order ≡ false
  even_g = let k = covered_perfect g is cov in even_order g k.0 is k.1

  module _ (m : Set) (a d : ℕ) (p : Pocket g m a d) (r : ℕ) (wr : Within g.order r) (mr : m r ≡ false) (ar : pair_set a d r ≡ false)
      (y : Set) (ty : IsTight g y) (wide : IsNontrivial g.order y) where
    abbrev w : Set
    w = union m (singleton a)

    -- a connected shore without a and d that has a vertex of m is inside m
    inside_m : (x : Set) → IsTight g x → x a ≡ false → x d ≡ false → (u v : ℕ) → Within g.order u → Within g.order v → x u ≡ true → m u ≡ true → x v ≡ true → m v ≡ true
    inside_m x tx xa xd u v wu wv xu mu xv = stays_joined g (complement x) m is
        (λ e we s t. p.closed e we (off (first_end g e) s) (off (second_end g e) t)) u v (tight_joined g x u v is cov tx.cut wu wv xu xv) mu
      where
        off : (b : ℕ) → complement x b ≡ false → pair_set a d b ≡ false
        off b s = false_from_ne_true (pair_set a d b) (λ t. elim (or_cases (a == b) (d == b) t) [
          | inl i ↦ both_ways (x b) (ap x (sym (eqb-true a b i)) ∙ xa) (not-false (x b) s)
          | inr i ↦ both_ways (x b) (ap x (sym (eqb-true d b i)) ∙ xd) (not-false (x b) s)
        ])

    module _ (odd : is_odd (count g.order (meet w y)) ≡ true) where
      w_tight : IsTight g w
      w_tight = pocket_tight g m a d p is even_g

      met_tight : IsTight g (meet w y)
      met_tight = meet_tight g is cov w y w_tight ty odd

      -- no edge joins a vertex of w outside y with one of y outside w
      unjoined : (e : ℕ) → Within (size g) e → connects g (minus w y) (minus y w) e ≡ false
      unjoined e we = no_edge_joins g is cov w y w_tight ty odd e we

      w_d : w d ≡ false
      w_d = rw (p.second_out, ne_eqb a d p.different) refl

      w_a : w a ≡ true
      w_a = or_right (m a) (a == a) (eq-eqb a a refl)

      abbrev Result : Type 0
      Result = HoldsPocket g y ⊎ (HoldsPocket g (complement y) ⊎ Smaller g m r)

      -- all of w is in y
      whole : ((v : ℕ) → Within g.order v → w v ≡ true → y v ≡ true) → Result
      whole all = inl (record { set = m; one = a; other = d; pocket = p; contained = λ v wv k. all v wv (or_left (m v) (a == v) k); first = all a p.first w_a })

      -- only one vertex of w is in y
      module _ (q : ℕ) (wq : Within g.order q) (iq : meet w y q ≡ true) (only : (v : ℕ) → Within g.order v → meet w y v ≡ true → q ≡ v) where
        parts_q : (w q ≡ true) × (y q ≡ true)
        parts_q = and_parts (w q) (y q) iq

        m_out : (v : ℕ) → Within g.order v → m v ≡ true → q ≢ v → y v ≡ false
        m_out v wv k n = false_from_ne_true (y v) (λ t. n (only v wv (and_from (w v) (y v) (or_left (m v) (a == v) k) t)))

        -- it is a
        at_a : q ≡ a → Result
        at_a e =
            let ya : y a ≡ true = ap y (sym e) ∙ parts_q.1 in
            let out : (v : ℕ) → Within g.order v → m v ≡ true → y v ≡ false = λ v wv k. m_out v wv k (λ i. both_ways (m a) p.first_out (ap m (sym e ∙ i) ∙ k)) in
            elim (cases_Bool (y d)) [
              | inr o ↦ inr (inl (record { set = m; one = d; other = a; pocket = pocket_back g m a d p; contained = λ v wv k. ap not (out v wv k); first = ap not o }))
              | inl yd ↦
                  let u = count_member g.order m p.some in
                  let x = complement y in
                  let tx = tight-turned g y ty in
                  let size_same : count g.order m ≡ count g.order x = count_congr g.order m x (λ v wv. alike v wv (m v) (x v) refl refl
                  (λ k. ap not (out v wv k)) (λ k. inside_m x tx (ap not ya) (ap not yd) u.0 v u.1 wv (ap not (out u.0 u.1 u.2)) u.2 k)) in
                  absurd (both_ways (is_odd (count g.order x)) (ap is_odd (sym size_same) ∙ p.even) ty.odd_complement)
            ]
          where
            alike : (v : ℕ) → Within g.order v → (b k : Bool) → m v ≡ b → not (y v) ≡ k → (m v ≡ true → not (y v) ≡ true) → (not (y v) ≡ true → m v ≡ true) → m v ≡ not (y v)
            alike v wv true k i j there back = i ∙ sym (there i)
            alike v wv false true i j there back = back j ∙ sym j
            alike v wv false false i j there back = i ∙ sym j

        -- it is another vertex of w
        in_m : q ≢ a → Result
        in_m n =
            let mq = left_of (m q) (a == q) (ne_eqb a q (λ e. n (sym e))) parts_q.0 in
            let ya : y a ≡ false = false_from_ne_true (y a) (λ t. n (only a p.first (and_from (w a) (y a) w_a t))) in
            elim (cases_Bool (y d)) [
              | inr yd ↦
                  let three = wide.inside in
                  let few = count_mono g.order y (singleton q) (λ v wv k. eq-eqb q v (only v wv (and_from (w v) (y v) (or_left (m v) (a == v) (inside_m y ty ya yd q v wq wv parts_q.1 mq k)) k))) in
                  let one = count_singleton g.order q wq in absurd (omega arith)
              | inl yd ↦
                  let k = bi q a wq p.first n in
                  let less = minus m (singleton q) in
                  let even = closed_even g (pair_set q a) k.0 less is k.1 (λ v wv h. less_off v h) (λ e we s t. less_closed mq ya yd e we s t) in
                  let c = count_minus g.order m q wq mq in
                  let s : count g.order m ≡ suc (count g.order less) = omega arith in
                  absurd (both_ways (is_odd (count g.order m)) p.even (ap is_odd s ∙ ap not even))
            ]
          where
            left_of : (b k : Bool) → k ≡ false → (b || k) ≡ true → b ≡ true
            left_of b k h l = grind arith

            less_off : (v : ℕ) → minus m (singleton q) v ≡ true → pair_set q a v ≡ false
            less_off v h = bits (m v) (q == v) (a == v) h (λ i. ap m (sym (eqb-true a v i)) ∙ p.first_out)
              where
                bits : (b k l : Bool) → (b && not k) ≡ true → (l ≡ true → b ≡ false) → (k || l) ≡ false
                bits b k l h i = grind arith

            -- an edge that leaves m - q is at q or a, since none is at d
            less_closed : m q ≡ true → y a ≡ false → y d ≡ true → (e : ℕ) → Within (size g) e → pair_set q a (first_end g e) ≡ false → pair_set q a (second_end g e) ≡ false → in_cut g (minus m (singleton q)) e ≡ false
            less_closed mq ya yd e we s t =
                let x = first_end g e in
                let v = second_end g e in
                let k = neither_joins (minus w y x) (minus y w v) (minus y w x) (minus w y v) (unjoined e we) in
                alike_not_apart (minus m (singleton q) x) (minus m (singleton q) v) (same_tests (minus m (singleton q) x) (minus m (singleton q) v)
                (one x v (is e we).0 k.0 t (λ i j. level (m x) (m v) (p.closed e we i j)))
                (one v x (is e we).1 k.1 s (λ i j. sym (level (m x) (m v) (p.closed e we j i)))))
              where
                neither_joins : (b k l n : Bool) → ((b && k) || (l && n)) ≡ false → ((b && k) ≡ false) × ((n && l) ≡ false)
                neither_joins b k l n h = grind arith

                level : (b k : Bool) → ((b && not k) || (not b && k)) ≡ false → b ≡ k
                level b k h = grind arith

                split : (b k : Bool) → (b && not k) ≡ true → (b ≡ true) × (k ≡ false)
                split b k h = grind arith

                nor : (b k : Bool) → (b || k) ≡ false → (b ≡ false) × (k ≡ false)
                nor b k h = grind arith

                neither : (b k : Bool) → b ≡ false → k ≡ false → (b || k) ≡ false
                neither b k h l = grind arith

                one : (u v : ℕ) → Within g.order u → (minus w y u && minus y w v) ≡ false → pair_set q a v ≡ false → (pair_set a d u ≡ false → pair_set a d v ≡ false → m u ≡ m v) → minus m (singleton q) u ≡ true → minus m (singleton q) v ≡ true
                one u v wu k tv alike h =
                    let b = split (m u) (q == u) h in
                    let o = nor (q == v) (a == v) tv in
                    elim (cases_eq d v) [
                      | inr n ↦ but_from (m v) (q == v) (sym (alike (pocket_off g m a d p u b.0) (neither (a == v) (d == v) o.1 (ne_eqb d v n))) ∙ b.0) o.0
                      | inl dv ↦
                          let i : minus w y u ≡ true = but_from (w u) (y u) (or_left (m u) (a == u) b.0) (m_out u wu b.0 (λ z. both_ways (q == u) b.1 (eq-eqb q u z))) in
                          let j : minus y w v ≡ true = but_from (y v) (w v) (ap y (sym dv) ∙ yd) (ap w (sym dv) ∙ w_d) in
                          absurd (both_ways (minus w y u && minus y w v) k (and_from (minus w y u) (minus y w v) i j))
                    ]

      step : Result
      step = elim (cases_lt 1 (count g.order (meet w y))) [
        | inr l ↦
            let c = count_member g.order (meet w y) (odd_pos (count g.order (meet w y)) odd) in
            let one : count g.order (meet w y) ≡ 1 = let o = odd_pos (count g.order (meet w y)) odd in omega arith in
            let only : (v : ℕ) → Within g.order v → meet w y v ≡ true → c.0 ≡ v = λ v wv k. only_one g.order (meet w y) one c.0 v c.1 wv c.2 k in
            elim (cases_eq c.0 a) [
              | inl e ↦ at_a c.0 c.1 c.2 only e
              | inr n ↦ in_m c.0 c.1 c.2 only n
            ]
        | inl l ↦ elim (scan g.order (λ v. (w v ≡ true) × (y v ≡ false)) (λ v. w v ≡ true → y v ≡ true) (λ v wv. out_or_in (w v) (y v))) [
          | inl v ↦ inr (inr (smaller_pocket g is cov bi m a d p r wr mr ar (meet w y) met_tight (λ u wu k. (and_parts (w u) (y u) k).0) (omega arith) v.0 v.1 v.2.0 (fails (w v.0) (y v.0) v.2.1)))
          | inr all ↦ whole all
        ]
      ]
        where
          out_or_in : (b k : Bool) → ((b ≡ true) × (k ≡ false)) ⊎ (b ≡ true → k ≡ true)
          out_or_in b true = inr (λ i. refl)
          out_or_in true false = inl (refl, refl)
          out_or_in false false = inr (λ i. absurd (true≢false (sym i)))

          fails : (b k : Bool) → k ≡ false → (b && k) ≡ false
          fails b k h = grind arith

  -- by induction on the size of the pocket
  sheltered : (k : ℕ) (m : Set) (a d : ℕ) → Pocket g m a d → (r : ℕ) → Within g.order r → m r ≡ false → pair_set a d r ≡ false → (y : Set) → IsTight g y → IsNontrivial g.order y → count g.order m ≤ k →
      HoldsPocket g y ⊎ HoldsPocket g (complement y)
  sheltered zero m a d p r wr mr ar y ty wide le = let f = p.some in absurd (omega arith)
  sheltered (suc k) m a d p r wr mr ar y ty wide le = elim (cases_Bool (is_odd (count g.order (meet (union m (singleton a)) y)))) [
    | inl o ↦ elim (step m a d p r wr mr ar y ty wide o) [
      | inl s ↦ inl s
      | inr t ↦ elim t [
        | inl s ↦ inr s
        | inr s ↦ let l = s.less in sheltered k s.set s.one s.other s.pocket r wr s.beside s.apart y ty wide (omega arith)
      ]
    ]
    | inr o ↦ elim (step m a d p r wr mr ar (complement y) (tight-turned g y ty) (nontrivial-turned g.order y wide) (other_odd o)) [
      | inl s ↦ inr s
      | inr t ↦ elim t [
        | inl s ↦ inl (holds_same g (complement (complement y)) y (λ v w. not_not (y v)) s)
        | inr s ↦ let l = s.less in sheltered k s.set s.one s.other s.pocket r wr s.beside s.apart y ty wide (omega arith)
      ]
    ]
  ]
    where
      other_odd : is_odd (count g.order (meet (union m (singleton a)) y)) ≡ false → is_odd (count g.order (meet (union m (singleton a)) (complement y))) ≡ true
      other_odd o =
          let t = pocket_tight g m a d p is even_g in
          let n = count_split g.order (union m (singleton a)) y in
          let s = odd-add (count g.order (meet (union m (singleton a)) y)) (count g.order (minus (union m (singleton a)) y)) in
          rest _ _ _ o (ap is_odd n ∙ s) t.odd
        where
          rest : (b k l : Bool) → b ≡ false → l ≡ cond b (not k) k → l ≡ true → k ≡ true
          rest b k l h e i = grind arith

  pub critical_shelter : (y : Set) → IsTight g y → IsNontrivial g.order y → HoldsPocket g y ⊎ HoldsPocket g (complement y)
  critical_shelter y ty wide =
      let q = shore_pair g y is cov bi ty wide in
      let cp = q.2 in
      let r = beside_pair g q.0 q.1 cp in
      let l = other_part g q.0 q.1 r.0 is cp r.1 r.2 in
      let n = bi q.0 q.1 cp.first cp.second cp.different in
      let m = joined g (pair_set q.0 q.1) l.0 in
      let closed : (e : ℕ) → Within (size g) e → pair_set q.0 q.1 (first_end g e) ≡ false → pair_set q.0 q.1 (second_end g e) ≡ false → in_cut g m e ≡ false =
      λ e we s t. alike_not_apart (m (first_end g e)) (m (second_end g e)) (part_step g (pair_set q.0 q.1) l.0 e is l.1 we s t) in
      sheltered (count g.order m) m q.0 q.1
      (record {
        first = cp.first;
        second = cp.second;
        different = cp.different;
        first_out = part_out g (pair_set q.0 q.1) l.0 q.0 is l.2 (or_left (q.0 == q.0) (q.1 == q.0) (eq-eqb q.0 q.0 refl));
        second_out = part_out g (pair_set q.0 q.1) l.0 q.1 is l.2 (or_right (q.0 == q.1) (q.1 == q.1) (eq-eqb q.1 q.1 refl));
        even = closed_even g (pair_set q.0 q.1) n.0 m is n.1 (λ v wv k. joined_outside g (pair_set q.0 q.1) is l.0 v l.2 k) closed;
        some = member_count g.order m l.0 l.1 (walk_joined g (pair_set q.0 q.1) is l.0 l.0 l.1 (joined_self g (pair_set q.0 q.1) l.0));
        closed = closed;
      }) r.0 r.1 l.3 r.2 y ty wide (le_refl (count g.order m))
