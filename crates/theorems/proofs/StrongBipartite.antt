-- A bipartite graph with a perfect matching is matching covered if and only if the digraph of the
-- matching is strongly connected. What walks lead to from a vertex has both ends of an edge of the
-- matching or neither; what it lacks of the side has no neighbours but those that it lacks, so
-- surplus leaves nothing. Conversely a walk from the side into a part of it has to take an edge of
-- the matching into the part with its neighbours, so there is a neighbour more.
use Rattle.tree_check.proofs.from_counting.Common.{◌≡◌, ℕ, ◌≤◌, Bool, true, false, cond, ◌&&◌, ◌||◌, not, refl, ap, ◌∙◌, arith, ◌↔◌, inl, inr, List, [], ◌∷◌, and_from, and_parts, both_ways, but_from, but_not, cases_Bool, cases_lt, count_congr, count_member, count_mono, count_split, count_zero, false_from_ne_true, member_count, not-true, or_cases, or_left, or_right, same_tests, Within, count, Set, complement, meet, minus, none, union}
use Rattle.graph_core.proofs.Common.{IsClosed, Walk-stays, adjacent-edge, adjacent_from, adjacent_within, flood_closed, flood_own, flood_walk, has_ends-back, has_ends-own, Graph, IsConnected, IsCovered, IsMultigraph, IsPerfect, IsSide, Joined, Walk, adjacent, edges_in_cut, first_end, has_ends, in_cut, reaches, second_end, size}
use Rattle.quick_kinds.proofs.from_matching_digraph.Balance.{crossing, equal_sides, other_side, side_count}
use Rattle.quick_kinds.proofs.from_matching_digraph.TightShores.{ends_of_mates, mates_edge, mates_from}
use Rattle.quick_kinds.specs.from_matching_digraph.Digraph.{arc, are_mates}
use Rattle.theorems.proofs.BipartiteCovered.{by_neighbours}
use Rattle.theorems.proofs.Marriages.{marriage, same_count, same_near, within_side}
use Rattle.theorems.proofs.Neighbourhoods.{edge_neighbour, ends_cross, near_count, near_out, near_side, neighbour_edge, surplus}
use Rattle.theorems.proofs.TwoExtendable.{cut_from_ends}
use Rattle.theorems.specs.Bipartite.{HasSurplus, IsStrong}
use Rattle.theorems.specs.Braces.{neighbourhood}

module _ (g : Graph) (a m : Set) (is : IsMultigraph g) (two : IsSide g a) (perfect : IsPerfect g none m) where
  arc_ends : (u v : ℕ) → arc g a m u v ≡ true → Within g.order u × Within g.order v
  arc_ends u v h = go (a u) h
    where
      go : (s : Bool) → cond s (are_mates g m u v) (adjacent g none u v) ≡ true → Within g.order u × Within g.order v
      go true h = ends_of_mates g is.ends m u v h
      go false h = adjacent_within g none is.ends u v h

  -- from a vertex off the side arcs lead along all edges
  from_off : (u v e : ℕ) → Within (size g) e → has_ends g u v e ≡ true → a u ≡ false → arc g a m u v ≡ true
  from_off u v e w h au = ap (λ s. cond s (are_mates g m u v) (adjacent g none u v)) au ∙ adjacent_from g none u v e refl refl w h

  -- an edge of the matching is an arc both ways
  along : (u v e : ℕ) → Within (size g) e → m e ≡ true → has_ends g u v e ≡ true → arc g a m u v ≡ true
  along u v e w t h = grind (arith, cases_Bool, cond, adjacent, none, mates_from, from_off)

  -- what walks lead to from a vertex
  module _ (u : ℕ) (wu : Within g.order u) where
    abbrev reached : Set
    reached = reaches g.order (arc g a m) u g.order

    abbrev left_out : Set
    left_out = minus a reached

    abbrev right_out : Set
    right_out = minus (complement a) reached

    closed : (s t : ℕ) → Within g.order s → Within g.order t → reached s ≡ true → arc g a m s t ≡ true → reached t ≡ true
    unfolding IsClosed
    closed = flood_closed g.order (arc g a m) u wu

    on_side : (v : ℕ) → left_out v ≡ true → a v ≡ true
    on_side v h = (and_parts (a v) (not (reached v)) h).0

    off_side : (v : ℕ) → right_out v ≡ true → complement a v ≡ true
    off_side v h = (and_parts (not (a v)) (not (reached v)) h).0

    -- both ends of an edge of the matching, or neither
    mates_alike : (e : ℕ) → Within (size g) e → m e ≡ true → reached (first_end g e) ≡ reached (second_end g e)
    mates_alike e w t =
        let s = first_end g e in
        let v = second_end g e in
        let h = has_ends-own g e in
        let k = is.ends e w in
        same_tests (reached (first_end g e)) (reached (second_end g e)) (λ i. closed s v k.0 k.1 i (along s v e w t h)) (λ i. closed v s k.1 k.0 i (along v s e w t (has_ends-back g s v e h)))

    as_many_out : count g.order left_out ≡ count g.order right_out
    as_many_out =
        let i = side_count g is.ends a left_out m two on_side perfect in
        let j = side_count g is.ends (complement a) right_out m (other_side g is.ends a two) off_side perfect in
        let c : edges_in_cut g m left_out ≡ edges_in_cut g m right_out = count_congr (size g) _ _ (λ e w. alike (m e) (a (first_end g e)) (a (second_end g e)) (reached (first_end g e)) (reached (second_end g e)) (crossing g is.ends a none m two perfect e w) (mates_alike e w)) in
        omega arith
      where
        alike : (k p q x y : Bool) → (k ≡ true → ((p && not q) || (not p && q)) ≡ true) → (k ≡ true → x ≡ y) →
            (k && (((p && not x) && not (q && not y)) || (not (p && not x) && (q && not y)))) ≡ (k && (((not p && not x) && not (not q && not y)) || (not (not p && not x) && (not q && not y))))
        alike k p q x y h i = grind arith

    -- what is left out of the side has no neighbour that is reached
    near_left_out : (v : ℕ) → Within g.order v → neighbourhood g left_out v ≡ true → right_out v ≡ true
    near_left_out v wv h = grind (arith, neighbour_edge, near_side, on_side, and_parts, but_from, false_from_ne_true, both_ways, not-true, closed, from_off, has_ends-back)

    some_out : (v : ℕ) → Within g.order v → reached v ≡ false → 1 ≤ count g.order left_out
    some_out v wv off = elim (cases_Bool (a v)) [
      | inl av ↦ member_count g.order left_out v wv (but_from (a v) (reached v) av off)
      | inr av ↦ let c = as_many_out in let d = member_count g.order right_out v wv (but_from (not (a v)) (reached v) (ap not av) off) in omega arith
    ]

    some_in : IsCovered g → 1 ≤ count g.order (meet a reached)
    some_in cov =
        let own = flood_own g.order (arc g a m) u g.order in
        elim (cases_Bool (a u)) [
          | inl au ↦ member_count g.order (meet a reached) u wu (and_from (a u) (reached u) au own)
          | inr au ↦
              let c = as_many_out in
              let d = member_count g.order (meet (complement a) reached) u wu (and_from (not (a u)) (reached u) (ap not au) own) in
              let i = count_split g.order a reached in
              let j = count_split g.order (complement a) reached in
              let e = equal_sides g is.ends a two cov in omega arith
        ]

    all_reached : IsCovered g → (v : ℕ) → Within g.order v → reached v ≡ true
    all_reached cov v wv = elim (cases_Bool (reached v)) [
      | inl i ↦ i
      | inr off ↦
          let x = count_member g.order left_out (some_out v wv off) in
          let y = count_member g.order (meet a reached) (some_in cov) in
          let p = and_parts (a y.0) (reached y.0) y.2 in
          let k = surplus g is a two left_out on_side cov x.0 y.0 x.1 y.1 x.2 p.0 (but_not (a y.0) (reached y.0) p.1) in
          let l = count_mono g.order (neighbourhood g left_out) right_out near_left_out in
          let c = as_many_out in absurd (omega arith)
    ]

  strong : IsCovered g → IsStrong g a m
  strong cov u v wu wv = flood_walk g.order (arc g a m) u g.order v (all_reached u wu cov v wv)

  -- an arc is along an edge, so that walks of arcs are walks
  arc_adjacent : (u v : ℕ) → arc g a m u v ≡ true → adjacent g none u v ≡ true
  arc_adjacent u v h = go (a u) h
    where
      go : (s : Bool) → cond s (are_mates g m u v) (adjacent g none u v) ≡ true → adjacent g none u v ≡ true
      go true h = let e = mates_edge g m u v h in adjacent_from g none u v e.0 refl refl e.1 e.3
      go false h = h

  walk_of_edges : (u v : ℕ) (ws : List ℕ) → Walk (arc g a m) u ws v → Walk (adjacent g none) u ws v
  walk_of_edges u v [] h = h
  walk_of_edges u v (w ∷ ws) h = (arc_adjacent u w h.0, walk_of_edges w v ws h.1)

  connected : IsStrong g a m → IsConnected g
  unfolding Joined
  connected each u v wu wv = let w = each u v wu wv in (w.0, walk_of_edges u v w.0 w.1)

  -- a part of the side with its neighbours, where no edge of the matching leaves them: no arc comes
  -- into them
  module _ (z : Set) (sub : (v : ℕ) → z v ≡ true → a v ≡ true) (uncut : edges_in_cut g m (union z (neighbourhood g z)) ≡ 0) where
    abbrev both : Set
    both = union z (neighbourhood g z)

    none_into : (u v : ℕ) → Within g.order u → Within g.order v → complement both u ≡ true → arc g a m u v ≡ true → complement both v ≡ true
    none_into u v wu wv bu h = ap not (false_from_ne_true (both v) (λ bv. go bv (a u) refl h))
      where
        go : both v ≡ true → (s : Bool) → a u ≡ s → cond s (are_mates g m u v) (adjacent g none u v) ≡ true → ⊥
        go bv true au h =
            let e = mates_edge g m u v h in
            let c = cut_from_ends g both v u e.0 (has_ends-back g u v e.0 e.3) bv (not-true (both u) bu) in
            let o = count_zero (size g) (λ i. m i && in_cut g both i) uncut e.0 e.1 in
            both_ways (m e.0 && in_cut g both e.0) o (and_from (m e.0) (in_cut g both e.0) e.2 c)
        go bv false au h =
            let e = (adjacent-edge g none u v h).2 in
            elim (or_cases (z v) (neighbourhood g z v) bv) [
              | inl zv ↦ both_ways (both u) (not-true (both u) bu) (or_right (z u) (neighbourhood g z u) (edge_neighbour g z v u e.0 wv zv e.1 (has_ends-back g u v e.0 e.2)))
              | inr nv ↦ both_ways (a u) au (ends_cross g is a two u v e.0 e.1 e.2 ∙ near_side g is a two z sub v nv)
            ]

    stays_off : (u v : ℕ) (ws : List ℕ) → complement both u ≡ true → Walk (arc g a m) u ws v → complement both v ≡ true
    unfolding IsClosed
    stays_off u v ws bu h = Walk-stays g.order (arc g a m) (complement both) arc_ends (λ s t ws wt bs k. none_into s t ws wt bs k) u v ws bu h

  more : IsStrong g a m → HasSurplus g a
  more each s sub some small =
      let c = same_count g a is two s sub in
      let d = same_near g a is two s sub in
      let i = count_split g.order a s in
      let x = count_member g.order (meet a s) (omega arith) in
      let y = count_member g.order (minus a s) (omega arith) in
      let p = and_parts (a y.0) (not (s y.0)) y.2 in
      let side = within_side g a is two s sub in
      let n = near_count g is a two (meet a s) side m perfect in
      elim (cases_lt 0 (edges_in_cut g m (union (meet a s) (neighbourhood g (meet a s))))) [
        | inl l ↦ omega arith
        | inr uncut ↦
            let w = each y.0 x.0 y.1 x.1 in
            let off = near_out g is a two (meet a s) side y.0 p.0 (lacks (a y.0) (s y.0) (not-true (s y.0) p.1)) in
            let on = or_left (meet a s x.0) (neighbourhood g (meet a s) x.0) x.2 in
            let k = stays_off (meet a s) side (omega arith) y.0 x.0 w.0 (ap not off) w.1 in
            absurd (both_ways (union (meet a s) (neighbourhood g (meet a s)) x.0) (not-true (union (meet a s) (neighbourhood g (meet a s)) x.0) k) on)
      ]
    where
      lacks : (p q : Bool) → q ≡ false → (p && q) ≡ false
      lacks p q h = grind arith

  pub by_digraph : 2 ≤ g.order → IsCovered g ↔ IsStrong g a m
  by_digraph many = (
    strong,
    (λ each. (by_neighbours g a is two many).1 (connected each, ((marriage g a is two).0 (m, perfect)).0, more each)),
  )
