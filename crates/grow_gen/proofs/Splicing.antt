-- Is a splice of two covered cubic graphs a covered cubic graph? Yes: a perfect matching of each
-- that agree on the edges that are joined give one of the splice, and each edge is in such a pair
-- since each of the joined edges is allowed.
use Rattle.graph_core.proofs.from_counting.Common.{◌≡◌, ℕ, ◌+◌, ◌-◌, ◌≤◌, ◌<◌, ◌≢◌, Bool, true, ◌==◌, not, ◌⊎◌, inl, inr, List, [], ◌∷◌, ◌++◌, length, map, filter, refl, sym, ap, ap₂, ◌∙◌, arith, subst, slice_index_or, length-append, length-map, cases_lt, true≢false, Within, bit, everything, none, mem}
use Rattle.graph_core.proofs.Common.{Graph, size, degree, IsMultigraph, IsPerfect, Allowed, IsCovered, degree_congr}
use Rattle.grow_gen.specs.Common.{IsCubic, is_at, neighbours, new_number, permutation, renumbered_edge, rehung_edges, targets_of, splice}
use Rattle.grow_gen.proofs.EdgeSums.{Each, sum_edges, sum_edges-append, ends_at, marks_from, marked, marked-front, marked-back, each-append, edge-at, edge-at_place, each-weaker, degree-marked, length-marks_from, length-marks_where, marked-marks_from}
use Rattle.grow_gen.proofs.Rehanging.{IsEdge, IsClear, flags_at, caught, each-rehung, length-rehung_edges, sum_edges-rehung_elsewhere, sum_edges-rehung_there}
use Rattle.grow_gen.proofs.Renumbering.{kept_edges, kept_marks, ends_beside, each-beside, each-kept, new_number-same, new_number-where, old_or_new, sum_edges-kept_new, sum_edges-kept_old}
use Rattle.grow_gen.proofs.ThreeEdges.{unit-of_one, three-items, three-true, each-edge_of, edges-at, flags-three, PerfectMarks, marks-with, marks-through}
use Rattle.grow_gen.proofs.PermutedLists.{permuted, permuted_values, by_permutation, caught-permuted, mem-permuted, true_count-permuted, permuted-back, length-permuted}

module _ (g h : Graph) (w i : ℕ) (mg : IsMultigraph g) (mh : IsMultigraph h) (cg : IsCubic g) (ch : IsCubic h) (two : 2 ≤ h.order) (ww : Within g.order w) (li : i < 6) where
  pub one : Within h.order 1
  one = (omega arith, omega arith)

  -- the new number of a vertex of h
  abbrev pub new : ℕ → ℕ
  new x = new_number g.order w x

  -- the three neighbours of vertex 1
  pub beside : (p : ℕ) × (q : ℕ) × (r : ℕ) × (neighbours h 1 ≡ p ∷ q ∷ r ∷ [])
  beside = three-items (neighbours h 1) (length-map (filter (is_at 1) h.ends) _ ∙ edges-at h mh ch 1 one)

  -- a vertex of h but 1
  abbrev pub InRange : ℕ → Type 0
  InRange v = (2 ≤ v) × (v ≤ h.order)

  pub beside-in_range : InRange beside.0 × InRange beside.1 × InRange beside.2
  beside-in_range = let e = subst (Each InRange) beside.3 (each-beside h.order h.ends (each-edge_of h mh)) in (e.0, e.1.0, e.1.1.0)

  -- the new ends of the three edges at w
  abbrev pub targets : List ℕ
  targets = targets_of g.order w h (permutation i)

  pub targets-permuted : targets ≡ permuted_values i new (beside.0 ∷ beside.1 ∷ beside.2 ∷ [])
  targets-permuted = ap (permuted_values i new) beside.3

  -- each is the new number of a neighbour
  target-new : (t : ℕ) → mem targets t ≡ true → (x : ℕ) × InRange x × (t ≡ new x)
  target-new t m = elim (mem-permuted new beside.0 beside.1 beside.2 t i li (ap (λ ts. mem ts t) (sym targets-permuted) ∙ m)) [
    | inl e ↦ (beside.0, beside-in_range.0, e)
    | inr e ↦ elim e [ inl d ↦ (beside.1, beside-in_range.1, d) | inr d ↦ (beside.2, beside-in_range.2, d) ]
  ]

  new-where : (x : ℕ) → InRange x → Within (g.order + h.order - 2) (new x) × ((new x ≡ w) ⊎ (g.order < new x))
  new-where x r = new_number-where g.order w ww h.order x two r.0 r.1

  pub targets-three : length targets ≡ 3
  targets-three = ap length targets-permuted ∙ length-permuted new beside.0 beside.1 beside.2 i li

  pub target-place : (t : ℕ) → mem targets t ≡ true → Within (g.order + h.order - 2) t × ((t ≡ w) ⊎ (g.order < t))
  target-place t m = let x = target-new t m in subst (λ v. Within (g.order + h.order - 2) v × ((v ≡ w) ⊎ (g.order < v))) (sym x.2) (new-where x.0 x.1)

  -- the marks of both parts
  abbrev pub both_marks : List Bool → List Bool → List Bool
  both_marks bs cs = bs ++ kept_marks cs h.ends

  pub length-both_marks : (bs cs : List Bool) → length bs ≡ size g → length cs ≡ size h → length (both_marks bs cs) ≡ size (splice g w h (permutation i))
  unfolding splice
  length-both_marks bs cs lb lc = grind (arith, length-append, kept_marks, length-rehung_edges, length-marks_where, length-map, kept_edges)

  -- a vertex of g but w keeps its ends
  pub degree-old : (bs cs : List Bool) → length bs ≡ size g → length cs ≡ size h → (v : ℕ) → Within g.order v → v ≢ w →
      degree (splice g w h (permutation i)) (marked (both_marks bs cs)) v ≡ degree g (marked bs) v
  unfolding splice
  degree-old bs cs lb lc v u d =
      let a = sum_edges-kept_old g.order w ww h.order v cs h.ends two u.1 d (each-edge_of h mh) lc in
      degree-marked (splice g w h (permutation i)) (both_marks bs cs) v (length-both_marks bs cs lb lc)
      ∙ sum_edges-append (ends_at v) bs (kept_marks cs h.ends) (rehung_edges w targets g.ends) _ (lb ∙ sym (length-rehung_edges w targets g.ends))
      ∙ ap₂ ◌+◌ (sum_edges-rehung_elsewhere w v targets bs g.ends d away lb) a
      ∙ (let z : sum_edges (ends_at v) bs g.ends + 0 ≡ sum_edges (ends_at v) bs g.ends = omega arith in z)
      ∙ sym (degree-marked g bs v lb)
    where
      away : (t : ℕ) → mem targets t ≡ true → t ≢ v
      away t m q = elim (target-place t m).1 [ inl z ↦ d (sym q ∙ z) | inr z ↦ absurd (omega arith) ]

  -- the marks at w and at 1 agree on the edges that are joined
  abbrev pub Agree : List Bool → List Bool → Type 0
  Agree bs cs = flags_at w bs g.ends ≡ permuted i (flags_at 1 cs h.ends)

  -- where they agree, a new vertex has the ends that it has in h
  pub degree-new : (bs cs : List Bool) → length bs ≡ size g → length cs ≡ size h → Agree bs cs → (x : ℕ) → 2 ≤ x → x ≤ h.order →
      degree (splice g w h (permutation i)) (marked (both_marks bs cs)) (new x) ≡ degree h (marked cs) x
  unfolding splice
  degree-new bs cs lb lc agree x a b =
      let f = flags-three h mh ch 1 one cs lc in
      let k = sum_edges-kept_new g.order w ww h.order x cs h.ends a (each-edge_of h mh) lc in
      degree-marked (splice g w h (permutation i)) (both_marks bs cs) (new x) (length-both_marks bs cs lb lc)
      ∙ sum_edges-append (ends_at (new x)) bs (kept_marks cs h.ends) (rehung_edges w targets g.ends) _ (lb ∙ sym (length-rehung_edges w targets g.ends))
      ∙ ap (λ z. z + sum_edges (ends_at (new x)) (kept_marks cs h.ends) (map (renumbered_edge g.order w) (kept_edges h.ends))) (
      sum_edges-rehung_there w (new x) targets bs g.ends (each-weaker (IsEdge g.order) (IsClear w (new x)) g.ends clear (each-edge_of g mg)) lb few
      ∙ ap₂ (caught (λ t. t == new x)) (agree ∙ ap (permuted i) f.3) targets-permuted
      ∙ caught-permuted (λ t. t == new x) new f.0 f.1 f.2 beside.0 beside.1 beside.2 i li
      ∙ same f.0 f.1 f.2
      ∙ ap₂ (caught (λ t. t == x)) (sym f.3) (sym beside.3)
      )
      ∙ (let z : caught (λ t. t == x) (flags_at 1 cs h.ends) (ends_beside 1 h.ends) + sum_edges (ends_at (new x)) (kept_marks cs h.ends) (map (renumbered_edge g.order w) (kept_edges h.ends)) ≡ sum_edges (ends_at x) cs h.ends = omega (arith, k) in z)
      ∙ sym (degree-marked h cs x lc)
    where
      clear : (e : ℕ × ℕ) → IsEdge g.order e → IsClear w (new x) e
      clear e k = grind arith

      few : length (flags_at w bs g.ends) ≤ length targets
      few = let p = length-marks_where (is_at w) bs g.ends lb in let q = edges-at g mg cg w ww in let r = targets-three in omega arith

      same : (s t u : Bool) → caught (λ v. new v == new x) (s ∷ t ∷ u ∷ []) (beside.0 ∷ beside.1 ∷ beside.2 ∷ []) ≡ caught (λ v. v == x) (s ∷ t ∷ u ∷ []) (beside.0 ∷ beside.1 ∷ beside.2 ∷ [])
      same s t u = grind (arith, bit, new_number-same, beside, beside-in_range)

  -- each vertex of the splice has as many ends as it has in its graph, if all in their graphs
  -- have k
  degree-both : (k : ℕ) (bs cs : List Bool) → length bs ≡ size g → length cs ≡ size h → Agree bs cs → ((v : ℕ) → Within g.order v → degree g (marked bs) v ≡ k) → ((v : ℕ) → Within h.order v → degree h (marked cs) v ≡ k) →
      (v : ℕ) → Within (g.order + h.order - 2) v → degree (splice g w h (permutation i)) (marked (both_marks bs cs)) v ≡ k
  degree-both k bs cs lb lc agree dg dh v u = grind (arith, old_or_new g.order w ww h.order v two u, degree-old bs cs lb lc v, degree-new bs cs lb lc agree)

  -- each edge of the splice is one of g with its number, or one of h
  pub edge-cases : (e : ℕ) → Within (size (splice g w h (permutation i))) e →
      (Within (size g) e × ((bs cs : List Bool) → length bs ≡ size g → length cs ≡ size h → marked (both_marks bs cs) e ≡ marked bs e))
      ⊎ ((j : ℕ) × Within (size h) j × ((bs cs : List Bool) → length bs ≡ size g → length cs ≡ size h → marked (both_marks bs cs) e ≡ marked cs j))
  unfolding splice
  edge-cases e u =
      let a = length-append (rehung_edges w targets g.ends) (map (renumbered_edge g.order w) (kept_edges h.ends)) in
      let b = length-rehung_edges w targets g.ends in
      let c = length-map (kept_edges h.ends) (renumbered_edge g.order w) in
      elim (cases_lt (size g) e) [
        | inr l ↦ inl ((u.0, l), λ bs cs lb lc. marked-front bs (kept_marks cs h.ends) e (u.0, let z = l in omega arith))
        | inl l ↦ let j = edge-at_place (λ f. not (is_at 1 f)) h.ends (e - size g - 1) (let z = u in omega arith) in
            inr (
              j.0,
              j.1.0,
              λ bs cs lb lc.
                  ap (marked (both_marks bs cs)) (let q : e ≡ length bs + (e - size g) = omega arith in q)
                  ∙ marked-back bs (kept_marks cs h.ends) (e - size g) (omega arith)
                  ∙ j.1.1 cs lc,
            )
      ]

  -- the splice is a multigraph
  pub splice-multigraph : IsMultigraph (splice g w h (permutation i))
  unfolding splice
  splice-multigraph = record { ends = λ e u. let p = each e u in (p.0, p.1); no_loop = λ e u. (each e u).2 }
    where
      each : (e : ℕ) → Within (size (splice g w h (permutation i))) e → IsEdge (g.order + h.order - 2) (slice_index_or (splice g w h (permutation i)).ends (e - 1) (0, 0))
      each e u = edge-at (IsEdge (g.order + h.order - 2)) (rehung_edges w targets g.ends ++ map (renumbered_edge g.order w) (kept_edges h.ends))
          (each-append (IsEdge (g.order + h.order - 2)) (rehung_edges w targets g.ends) (map (renumbered_edge g.order w) (kept_edges h.ends))
          (each-rehung g.order (g.order + h.order - 2) w targets g.ends (omega arith) target-place (each-edge_of g mg))
          (each-kept g.order w ww h.order h.ends two (each-edge_of h mh))) e u

  -- all edges
  abbrev all_of : Graph → List Bool
  all_of x = marks_from 0 (size x) everything

  all_at : (x : Graph) (v : ℕ) → degree x (marked (all_of x)) v ≡ degree x everything v
  all_at x v = degree_congr x (marked (all_of x)) everything v (λ e u. marked-marks_from 0 (size x) everything e u)

  -- all three edges at w and at 1 are joined
  all_agree : Agree (all_of g) (all_of h)
  all_agree =
      let f = flags-three g mg cg w ww (all_of g) (length-marks_from 0 (size g) everything) in
      let k = flags-three h mh ch 1 one (all_of h) (length-marks_from 0 (size h) everything) in
      grind (arith, three-true f.0 f.1 f.2 (f.4 ∙ all_at g w ∙ cg w ww), all_at g w, by_permutation, three-true k.0 k.1 k.2 (k.4 ∙ all_at h 1 ∙ ch 1 one), all_at h 1)

  all_both : (e : ℕ) → Within (size (splice g w h (permutation i))) e → marked (both_marks (all_of g) (all_of h)) e ≡ true
  all_both e u = elim (edge-cases e u) [
    | inl a ↦ a.1 (all_of g) (all_of h) (length-marks_from 0 (size g) everything) (length-marks_from 0 (size h) everything) ∙ marked-marks_from 0 (size g) everything e a.0
    | inr a ↦ a.2 (all_of g) (all_of h) (length-marks_from 0 (size g) everything) (length-marks_from 0 (size h) everything) ∙ marked-marks_from 0 (size h) everything a.0 a.1
  ]

  -- the splice is cubic
  pub splice-cubic : IsCubic (splice g w h (permutation i))
  unfolding splice
  splice-cubic v u =
      sym (degree_congr (splice g w h (permutation i)) (marked (both_marks (all_of g) (all_of h))) everything v all_both)
      ∙ degree-both 3 (all_of g) (all_of h) (length-marks_from 0 (size g) everything) (length-marks_from 0 (size h) everything) all_agree (λ v u. all_at g v ∙ cg v u) (λ v u. all_at h v ∙ ch v u) v u

  -- two perfect matchings that agree give one of the splice
  pub splice-perfect : (b : PerfectMarks g) (c : PerfectMarks h) → Agree b.marks c.marks → IsPerfect (splice g w h (permutation i)) none (marked (both_marks b.marks c.marks))
  unfolding splice
  splice-perfect b c agree = grind (arith, degree-both 1 b.marks c.marks b.whole c.whole agree, true≢false)

  -- to each perfect matching of g there is one of h that agrees, and the other way round
  partner_in_h : IsCovered h → (b : PerfectMarks g) → (c : PerfectMarks h) × Agree b.marks c.marks
  partner_in_h cov b =
      let f = flags-three g mg cg w ww b.marks b.whole in
      let p = permuted-back f.0 f.1 f.2 i li in
      let u = unit-of_one p.0 p.1 p.2 (p.4 ∙ f.4 ∙ b.perfect.once w ww refl) in
      let c = marks-through h mh ch 1 one cov u.0 u.1 in
      (c.0, f.3 ∙ p.3 ∙ ap (permuted i) (u.2 ∙ sym c.1))

  partner_in_g : IsCovered g → (c : PerfectMarks h) → (b : PerfectMarks g) × Agree b.marks c.marks
  partner_in_g cov c =
      let f = flags-three h mh ch 1 one c.marks c.whole in
      let p = true_count-permuted f.0 f.1 f.2 i li in
      let u = unit-of_one p.0 p.1 p.2 (p.4 ∙ f.4 ∙ c.perfect.once 1 one refl) in
      let b = marks-through g mg cg w ww cov u.0 u.1 in
      (b.0, b.1 ∙ sym u.2 ∙ sym p.3 ∙ ap (permuted i) (sym f.3))

  -- each edge of the splice is in a perfect matching
  pub splice-allowed : IsCovered g → IsCovered h → (e : ℕ) → Within (size (splice g w h (permutation i))) e → Allowed (splice g w h (permutation i)) e
  splice-allowed vg vh e u = elim (edge-cases e u) [
    | inl a ↦ let b = marks-with g mg cg w ww vg e a.0 in let c = partner_in_h vh b.0 in
        (marked (both_marks b.0.marks c.0.marks), splice-perfect b.0 c.0 c.1, a.1 b.0.marks c.0.marks b.0.whole c.0.whole ∙ b.1)
    | inr a ↦ let c = marks-with h mh ch 1 one vh a.0 a.1 in let b = partner_in_g vg c.0 in
        (marked (both_marks b.0.marks c.0.marks), splice-perfect b.0 c.0 b.1, a.2 b.0.marks c.0.marks b.0.whole c.0.whole ∙ c.1)
  ]
