-- A cut is separating if and only if each edge is in a perfect matching with exactly one edge in
-- it. An edge of a shore is in a perfect matching of the contraction that keeps it, whose cut edge
-- is in one of the other contraction; both together are one of the graph.
use Rattle.tree_check.proofs.from_counting.Common.{◌≡◌, ◌≢◌, ℕ, suc, ◌+◌, Bool, true, false, ◌&&◌, ◌||◌, not, refl, sym, ap, ◌∙◌, arith, List, ◌↔◌, inl, inr, and_from, and_parts, cases_Bool, cases_lt, count_member, count_zero, member_count, not-true, odd-double, odd_pos, or_left, or_right, true≢false, Within, IsRisingIn, count, is_odd, mem, Set, complement, meet, minus, none}
use Rattle.barrier_kit.proofs.Common.{crosses_apart}
use Rattle.graph_core.proofs.Common.{complement_of-rises, mem-complement_of, parity, parted, tight_from_cut, Graph, IsCovered, IsConnected, IsGraph, IsPerfect, IsSide, IsTight, Merges, complement_of, contracted, degree, edges_in_cut, first_end, in_cut, inside, merged, second_end, singles, size}
use Rattle.quick_kinds.proofs.from_matching_digraph.Balance.{balance, leaves_left, leaves_right}
use Rattle.theorems.proofs.BrickFacts.{turned_cut}
use Rattle.theorems.proofs.ContractedMatchings.{OneSide, allowed_by, covered_by_met}
use Rattle.theorems.proofs.JoinedMatchings.{both, both_cut, both_perfect}
use Rattle.theorems.proofs.MergedSets.{merged_list, other_set}
use Rattle.theorems.specs.Separating.{IsMetOnce, IsSeparating}

module _ (g : Graph) (is : IsGraph g) where
  module _ (x : List ℕ) (rises : IsRisingIn g.order x) (u v : ℕ) (wu : Within g.order u) (wv : Within g.order v) (xu : mem x u ≡ true) (xv : mem x v ≡ false) where
    abbrev y : Set
    y = mem x

    one : (f : ℕ → ℕ) × (c : ℕ) × Merges g (mem x) (contracted g (merged (singles g.order) x)) f c
    one = merged_list g is x rises u wu xu

    rest : (f : ℕ → ℕ) × (c : ℕ) × Merges g (complement (mem x)) (contracted g (merged (singles g.order) (complement_of g.order x))) f c
    rest =
        let same : (w : ℕ) → Within g.order w → mem (complement_of g.order x) w ≡ not (mem x w) = λ w ww. mem-complement_of g.order x w ww in
        let m = merged_list g is (complement_of g.order x) (complement_of-rises g.order x) v wv (same v wv ∙ ap not xv) in
        (m.0, m.1, other_set g (mem (complement_of g.order x)) (complement (mem x)) _ m.0 m.1 same m.2)

    from_met : IsConnected g → IsMetOnce g y → IsSeparating g x
    from_met connected met = record {
      kept = covered_by_met g is (complement y) _ rest.0 rest.1 rest.2 connected v u wv wu (ap not xv) (ap not xu) (λ e w d. let m = met e w d in (m.0, m.1, m.2, turned_cut g m.0 y ∙ m.3));
      merged = covered_by_met g is y _ one.0 one.1 one.2 connected u v wu wv xu xv met;
    }

    module _ (sep : IsSeparating g x) where
      Met : ℕ → Type 0
      Met e = (m : Set) × IsPerfect g none m × (m e ≡ true) × (edges_in_cut g m y ≡ 1)

      off_x : (e : ℕ) → Within (size g) e → first_end g e ≢ second_end g e → inside g y e ≡ false → (k : Set) × OneSide g y k × (k e ≡ true)
      off_x e w d out = allowed_by g is y _ one.0 one.1 one.2 sep.merged e w d out

      in_x : (e : ℕ) → Within (size g) e → first_end g e ≢ second_end g e → inside g (complement y) e ≡ false → (j : Set) × OneSide g (complement y) j × (j e ≡ true)
      in_x e w d out = allowed_by g is (complement y) _ rest.0 rest.1 rest.2 sep.kept e w d out

      together : (k j : Set) (b e : ℕ) → Within (size g) b → in_cut g y b ≡ true → OneSide g y k → OneSide g (complement y) j → k b ≡ true → j b ≡ true → (k e || j e) ≡ true → Met e
      unfolding Met
      together k j b e wb cb ks js kb jb t =
          let once : (v : ℕ) → Within g.order v → y v ≡ true → degree g j v ≡ 1 = λ v w h. js.once v w (ap not h) in
          let cut : edges_in_cut g j y ≡ 1 = sym (turned_cut g j y) ∙ js.cut in (
            both g y k j b wb cb kb jb ks.once ks.cut ks.none_inside once cut js.none_inside,
            both_perfect g y k j b wb cb kb jb ks.once ks.cut ks.none_inside once cut js.none_inside,
            t,
            both_cut g y k j b wb cb kb jb ks.once ks.cut ks.none_inside once cut js.none_inside,
          )

      in_cut_only : (e : ℕ) → in_cut g y e ≡ true → (inside g y e ≡ false) × (inside g (complement y) e ≡ false)
      in_cut_only e h = go (y (first_end g e)) (y (second_end g e)) h
        where
          go : (p q : Bool) → ((p && not q) || (not p && q)) ≡ true → ((p && q) ≡ false) × ((not p && not q) ≡ false)
          go true true h = absurd (true≢false (sym h))
          go true false h = (refl, refl)
          go false true h = (refl, refl)
          go false false h = absurd (true≢false (sym h))

      cut_edge_of : (k : Set) → edges_in_cut g k y ≡ 1 → (b : ℕ) × Within (size g) b × (k b ≡ true) × (in_cut g y b ≡ true)
      cut_edge_of k h = grind (arith, count_member, size, in_cut, and_parts)

      to_met : IsMetOnce g y
      unfolding Met
      to_met e w d = elim (cases_Bool (in_cut g y e)) [
        | inl c ↦
            let o = in_cut_only e c in
            let k = off_x e w d o.0 in
            let j = in_x e w d o.1 in
            together k.0 j.0 e e w c k.1 j.1 k.2 j.2 (or_left (k.0 e) (j.0 e) k.2)
        | inr n ↦ elim (cases_Bool (inside g y e)) [
          | inl i ↦
              let j = in_x e w d (not_both (y (first_end g e)) (y (second_end g e)) i) in
              let js = j.1 in
              let b = cut_edge_of j.0 (sym (turned_cut g j.0 y) ∙ js.cut) in
              let k = off_x b.0 b.1 (crosses_apart g y b.0 b.3) (in_cut_only b.0 b.3).0 in
              together k.0 j.0 b.0 e b.1 b.3 k.1 j.1 k.2 b.2 (or_right (k.0 e) (j.0 e) j.2)
          | inr o ↦
              let k = off_x e w d o in
              let ks = k.1 in
              let b = cut_edge_of k.0 ks.cut in
              let j = in_x b.0 b.1 (crosses_apart g y b.0 b.3) (in_cut_only b.0 b.3).1 in
              together k.0 j.0 b.0 e b.1 b.3 k.1 j.1 b.2 j.2 (or_left (k.0 e) (j.0 e) k.2)
        ]
      ]
        where
          not_both : (p q : Bool) → (p && q) ≡ true → (not p && not q) ≡ false
          not_both p q h = grind arith

    pub separating_or_met : IsConnected g → IsSeparating g x ↔ IsMetOnce g y
    separating_or_met connected = (to_met, from_met connected)

    -- the cut has an edge, so both shores are odd
    module _ (connected : IsConnected g) (sep : IsSeparating g x) where
      some_cut : (e : ℕ) × Within (size g) e × (in_cut g y e ≡ true)
      some_cut = elim (cases_lt 0 (count (size g) (in_cut g y))) [
        | inl l ↦ count_member (size g) (in_cut g y) l
        | inr l ↦ absurd ((parted g u v is wu wv).1 (y, xu, xv, count_zero (size g) (in_cut g y) (omega arith)) (connected u v wu wv))
      ]

      met_cut : (m : Set) × IsPerfect g none m × (m some_cut.0 ≡ true) × (edges_in_cut g m y ≡ 1)
      met_cut = to_met sep some_cut.0 some_cut.1 (crosses_apart g y some_cut.0 some_cut.2)

      odd_from : (z : Set) → edges_in_cut g met_cut.0 z ≡ 1 → is_odd (count g.order z) ≡ true
      odd_from z h =
          let p = parity g is met_cut.0 z met_cut.1 in
          let i = count (size g) (λ e. met_cut.0 e && inside g z e) in
          let s : count g.order z ≡ suc (i + i) = omega arith in
          ap is_odd s ∙ ap not (odd-double i)

      pub separating_odd : (is_odd (count g.order y) ≡ true) × (is_odd (count g.order (complement y)) ≡ true)
      separating_odd = (odd_from y met_cut.3, odd_from (complement y) (turned_cut g met_cut.0 y ∙ met_cut.3))

      -- in a bipartite graph all cut edges leave on one side
      module _ (a : Set) (two : IsSide g a) where
        abbrev lefts : Set
        lefts = leaves_left g is a two y

        abbrev rights : Set
        rights = leaves_right g is a two y

        left_cut : (e : ℕ) → lefts e ≡ true → in_cut g y e ≡ true
        left_cut e h = go (y (first_end g e)) (a (first_end g e)) (y (second_end g e)) (a (second_end g e)) h
          where
            go : (p q r s : Bool) → (((p && q) && (not r && not s)) || ((not p && not q) && (r && s))) ≡ true → ((p && not r) || (not p && r)) ≡ true
            go p q r s h = grind arith

        right_cut : (e : ℕ) → rights e ≡ true → in_cut g y e ≡ true
        right_cut e h = go (y (first_end g e)) (a (first_end g e)) (y (second_end g e)) (a (second_end g e)) h
          where
            go : (p q r s : Bool) → (((p && not q) && (not r && s)) || ((not p && q) && (r && not s))) ≡ true → ((p && not r) || (not p && r)) ≡ true
            go p q r s h = grind arith

        -- a matching that has one edge in the cut, e
        at : (e : ℕ) → Within (size g) e → in_cut g y e ≡ true → (m : Set) × IsPerfect g none m × (m e ≡ true) × (edges_in_cut g m y ≡ 1)
        at e w h = to_met sep e w (crosses_apart g y e h)

        -- no edge of a part of the cut is in a perfect matching, if none is in one with one cut
        -- edge
        unmatched : (out : Set) → ((e : ℕ) → out e ≡ true → in_cut g y e ≡ true) → ((n : Set) → IsPerfect g none n → edges_in_cut g n y ≡ 1 → count (size g) (λ e. n e && out e) ≡ 0) → (m : Set) → count (size g) (λ e. m e && out e) ≡ 0
        unmatched out cuts empty m = elim (cases_lt 0 (count (size g) (λ e. m e && out e))) [
          | inr none_there ↦ omega arith
          | inl l ↦
              let e = count_member (size g) (λ e. m e && out e) l in
              let r = (and_parts (m e.0) (out e.0) e.2).1 in
              let n = at e.0 e.1 (cuts e.0 r) in
              let s = member_count (size g) (λ e. n.0 e && out e) e.0 e.1 (and_from (n.0 e.0) (out e.0) n.2 r) in
              let z = empty n.0 n.1 n.3 in absurd (omega arith)
        ]

        no_rights : count g.order (meet y a) ≡ count g.order (minus y a) + 1 → (m : Set) → IsPerfect g none m → edges_in_cut g m y ≡ 1
        no_rights more m p =
            let k = unmatched rights right_cut (λ n q o. let c = balance g is a two y n q in omega arith) m in
            let b = balance g is a two y m p in omega arith

        no_lefts : count g.order (meet y a) + 1 ≡ count g.order (minus y a) → (m : Set) → IsPerfect g none m → edges_in_cut g m y ≡ 1
        no_lefts more m p =
            let k = unmatched lefts left_cut (λ n q o. let c = balance g is a two y n q in omega arith) m in
            let b = balance g is a two y m p in omega arith

        pub separating_tight : IsTight g y
        separating_tight =
            let b = balance g is a two y met_cut.0 met_cut.1 in
            let o = met_cut.3 in
            tight_from_cut g y met_cut.0 is met_cut.1 (elim (cases_lt 0 (count (size g) (λ e. met_cut.0 e && rights e))) [
              | inr none_there ↦ no_rights (omega arith)
              | inl l ↦ no_lefts (omega arith)
            ])

  pub tight_separating : (x : List ℕ) → IsCovered g → IsRisingIn g.order x → IsTight g (mem x) → IsSeparating g x
  tight_separating x cov rises t =
      let u = count_member g.order (mem x) (odd_pos (count g.order (mem x)) t.odd) in
      let v = count_member g.order (complement (mem x)) (odd_pos (count g.order (complement (mem x))) t.odd_complement) in
      from_met x rises u.0 v.0 u.1 v.1 u.2 (not-true (mem x v.0) v.2) cov.connected (λ e w d. let m = cov.allowed e w d in (m.0, m.1, m.2, t.cut m.0 m.1))
