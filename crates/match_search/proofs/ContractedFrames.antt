-- A frame of the graph in which a blossom of a forest is shrunk is one of the graph, with the
-- blossom among the outer vertices. Idea: the base is an outer vertex of the forest in the shrunk
-- graph, so a matching of the same size misses it.
use Rattle.graph_core.proofs.from_counting.Common.{◌≡◌, ◌≢◌, ℕ, suc, ◌+◌, ◌-◌, ◌≤◌, Bool, true, false, ◌==◌, refl, sym, ap, ap₂, ◌∙◌, arith, not, ◌&&◌, ◌||◌, eq-eqb, ne_eqb, inl, inr, subst, and_false, and_from, both_ways, cases_Bool, cases_eq, count_congr, fun_ext, or_right, Within, bit, count, Set, none, union}
use Rattle.graph_core.proofs.Common.{IsMatching, degree, missed_count, size}
use Rattle.match_search.specs.Common.{Frame, IsAlternating, IsAlternatingForest, IsNearPerfect, flipped}
use Rattle.match_search.proofs.AlternatingPaths.{flipped_count, flipped_end, flipped_matching}
use Rattle.match_search.proofs.ContractedPaths.{at, length_of, new_last, new_path, on}
use Rattle.match_search.proofs.CrossingPaths.{Way, mate_within, way_in}
use Rattle.match_search.proofs.Forests.{final_frame, first_outer, forest_start, met, turned}
use Rattle.match_search.proofs.LongerPaths.{end_within}
use Rattle.match_search.proofs.NearPerfectSets.{near_perfect_count}
use Rattle.match_search.proofs.ShrunkForests.{H, ShrunkForest, Stays, contracted_count, degree_parts, graph_below, left_edges, left_matching, missed_base, missed_in, missed_out, rs, stays_degree, stays_or_not, wz}
use Rattle.match_search.proofs.ShrunkFrames.{frame_up}
use Rattle.match_search.proofs.Shrinking.{shut_out, shut_z}

module _ (given : ShrunkForest) where
  open given use {g, is, r, f, mate, has, walked, c, z, es, shrunk, e1, fits}
  open given.walked use {k, v, forest}

  -- f misses no vertex of c but the base
  matched_in : (u : ℕ) → Within g.order u → c u ≡ true → u ≢ z → degree g f u ≡ 1
  matched_in u w cu n = elim (cases_eq (degree g f u) 0) [
    | inr s ↦ let a = has.matching.once u w in omega arith
    | inl q ↦
        let o = forest.misses u w (fits.left u cu) q in
        let over = fits.over u cu o in
        elim (cases_eq (k u) 0) [
          | inl s ↦
              let few = over.0 in
              let here : v u 0 ≡ u = ap (v u) (omega arith) ∙ forest.last u o in
              let there : v z 0 ≡ z = ap (v z) (omega arith) ∙ forest.last z fits.base_outer in
              absurd (n (sym here ∙ over.1 0 (omega arith) ∙ there))
          | inr s ↦
              let p = walked.up u o s in
              let wm = mate_within given u p.0 o p.1 in
              let d = has.paired u w (λ t. absurd (omega arith)) in
              let one = (met g f d.0 u (mate u) d.1 d.2 d.3).0 in absurd (omega arith)
        ]
  ]

  -- the edges of f in c meet each vertex of c but the base once
  pub near_base : IsNearPerfect g c z e1
  near_base = record {
    degrees = λ u w. elim (cases_Bool (c u)) [
      | inr q ↦ missed_out given u q ∙ sym (ap (λ b. bit (b && not (u == z))) q)
      | inl q ↦ elim (cases_eq u z) [
        | inl s ↦ ap (degree g e1) s ∙ missed_base given ∙ sym (ap (λ b. bit (c u && not b)) (eq-eqb u z s) ∙ ap bit (and_false (c u)))
        | inr s ↦
            let a = degree_parts given u in
            let b = missed_in given u q s in
            let d = matched_in u w q s in
            let t = ap bit (and_from (c u) (not (u == z)) q (ap not (ne_eqb u z s))) in omega arith
      ]
    ];
  }

  removed_same : (u : ℕ) → Stays c z u → rs given u ≡ r u
  removed_same u st = grind (arith, shut_out, wz, rs, shut_z)

  -- as many vertices are missed as before
  pub contracted_missed : missed_count (H given) (rs given) (left_edges given) ≡ missed_count g r f
  unfolding missed_count
  contracted_missed = count_congr g.order (λ u. not (rs given u) && (degree (H given) (left_edges given) u == 0)) (λ u. not (r u) && (degree g f u == 0)) each
    where
      each : (u : ℕ) → Within g.order u → (not (rs given u) && (degree (H given) (left_edges given) u == 0)) ≡ (not (r u) && (degree g f u == 0))
      each u w = elim (stays_or_not given u) [
        | inl s ↦ ap₂ (λ a b. not a && (b == 0)) (removed_same u s) (stays_degree given u s)
        | inr s ↦
            ap (λ b. not b && (degree (H given) (left_edges given) u == 0)) (or_right (r u) (c u && not (u == z)) (and_from (c u) (not (u == z)) s.0 (ap not (ne_eqb u z s.1))))
            ∙ sym (ap (λ d. not (r u) && (d == 0)) (matched_in u w s.0 s.1) ∙ and_false (not (r u)))
      ]

  base_way : Way c k v z z (k z - k z)
  base_way = way_in given z fits.base fits.base_outer

  abbrev path_length : ℕ
  path_length = length_of given z (k z - k z) fits.base_outer (inr refl) base_way

  abbrev path_at : ℕ → ℕ
  path_at = at given z (k z - k z) fits.base_outer (inr refl) base_way

  abbrev path_edges : ℕ → ℕ
  path_edges j = walked.e z (on given z (k z - k z) fits.base_outer (inr refl) base_way j)

  base_path : IsAlternating (H given) (rs given) (left_edges given) path_length path_at path_edges
  base_path = new_path given z (k z - k z) fits.base_outer (inr refl) base_way

  -- a matching of the same size misses the base
  pub base_missed : (m : Set) × IsMatching (H given) (rs given) m × (count (size (H given)) m ≡ count (size (H given)) (left_edges given)) × (degree (H given) m z ≡ 0)
  base_missed =
      let mm = left_matching given in
      let all : path_length ≤ path_length = omega arith in (
        flipped (left_edges given) path_edges path_length,
        flipped_matching (H given) (rs given) (left_edges given) mm path_length path_at path_edges base_path path_length all,
        flipped_count (H given) (rs given) (left_edges given) mm path_length path_at path_edges base_path path_length all,
        ap (degree (H given) (flipped (left_edges given) path_edges path_length)) (sym (new_last given z (k z - k z) fits.base_outer (inr refl) base_way)) ∙ flipped_end (H given) (rs given) (left_edges given) mm path_length path_at path_edges base_path path_length all,
      )

  -- for any number of edges in c
  module _ (near_sets : (t : ℕ) → Within g.order t → c t ≡ true → (d : Set) × IsNearPerfect g c t d) (half : ℕ) (odd : count g.order c ≡ suc (half + half)) where
    pub contracted_size : count (size (H given)) (left_edges given) + half ≡ count (size g) f
    contracted_size = let a = contracted_count given in let b = near_perfect_count g is c z e1 near_base half fits.base (wz given) odd in omega arith

    pub frame_contracted : (outer2 inner2 : Set) → Frame (H given) (rs given) (count (size (H given)) (left_edges given)) outer2 inner2 → Frame g r (count (size g) f) (union outer2 c) inner2
    frame_contracted outer2 inner2 frame =
        let m = base_missed in
        let up = frame_up g is r c z es shrunk fits.left (wz given) fits.base m.0 outer2 inner2 half (count (size (H given)) (left_edges given)) m.1 m.3 m.2 frame near_sets odd in
        subst (λ (l : ℕ). Frame g r l (union outer2 c) inner2) contracted_size up.2

    -- where all vertices that are left are in c, they are a frame
    module _ (whole : (u : ℕ) → Within g.order u → r u ≡ false → c u ≡ true) where
      mm : IsMatching (H given) (rs given) (left_edges given)
      mm = left_matching given

      abbrev first : Set
      first = first_outer (H given) (graph_below given) (rs given) (left_edges given) mm

      start : IsAlternatingForest (H given) (rs given) (left_edges given) first none (λ u. 0) (λ u j. u) (λ u j. 0)
      start = forest_start (H given) (graph_below given) (rs given) (left_edges given) mm

      only_base : (u : ℕ) → Within g.order u → rs given u ≡ false → u ≡ z
      only_base u w q = grind (arith, stays_or_not, both_ways, removed_same, rs, or_right, and_from, ne_eqb)

      first_in : (u : ℕ) → first u ≡ true → c u ≡ true
      first_in u t = let a = start.outer_in u t in ap c (only_base u a.0 a.1) ∙ fits.base

      frame_below : Frame (H given) (rs given) (count (size (H given)) (left_edges given)) first none
      frame_below = final_frame (H given) (graph_below given) (rs given) (left_edges given) mm first none (λ u. 0) (λ u j. u) (λ u j. 0) start
          (λ d x y w ends rx ry n o. absurd (n (only_base x (end_within (H given) (graph_below given) d x y w ends) rx ∙ sym (only_base y (end_within (H given) (graph_below given) d y x w (turned (H given) d x y ends)) ry))))

      pub frame_whole : Frame g r (count (size g) f) c none
      frame_whole = subst (λ (o : Set). Frame g r (count (size g) f) o none) (fun_ext (λ u. absorbed (first u) (c u) (first_in u))) (frame_contracted first none frame_below)
        where
          absorbed : (a b : Bool) → (a ≡ true → b ≡ true) → (a || b) ≡ b
          absorbed a b h = grind arith
