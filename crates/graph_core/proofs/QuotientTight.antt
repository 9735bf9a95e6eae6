-- A set of blocks is tight in the quotient if and only if it is in the contracted graph. Perfect
-- matchings go over both ways by the least edge with the same ends.
use Rattle.vset_core.proofs.from_counting.Common.{◌≡◌, ℕ, ◌<◌, ◌≢◌, true, not, ◌==◌, List, length, refl, sym, ap, ◌∙◌, arith, inl, inr, subst, ne_eqb, and_parts, and_from, cases_lt, least_of, least_of_is, some_true, true_some, Within, Set, some}
use Rattle.graph_core.proofs.Adjacency.{has_ends-from}
use Rattle.graph_core.proofs.Blocks.{contracted-graph, contracted-order, contracted-size}
use Rattle.graph_core.proofs.Carrying.{carried_set, cut_carried, perfect_carried}
use Rattle.graph_core.proofs.Quotients.{edge_of_pair, quotient-order, quotient_edge}
use Rattle.graph_core.proofs.Walks.{has_ends-back, has_ends-cases, has_ends-own}
use Rattle.graph_core.specs.Common.{Graph, IsGraph, first_end, has_ends, second_end, size, HasEnds, AreBlocks, contracted, quotient, CutIsTight, IsTight}

module _ (g : Graph) (p : List (List ℕ)) (is : IsGraph g) (pp : AreBlocks g.order p) where
  -- the quotient is a graph
  pub quotient_graph : IsGraph (quotient g p)
  quotient_graph e w = let r = quotient_edge g p e w in (subst (λ n. Within n (first_end (quotient g p) e)) (sym (quotient-order g p)) r.0, subst (λ n. Within n (second_end (quotient g p) e)) (sym (quotient-order g p)) r.1)

  -- two places that an edge of g joins have an edge of the quotient
  pair_edge : (u v e : ℕ) → Within (length p) u → Within (length p) v → u ≢ v → Within (size g) e → has_ends (contracted g p) u v e ≡ true → some (size (quotient g p)) (has_ends (quotient g p) u v) ≡ true
  pair_edge u v e wu wv d w b = elim (cases_lt u v) [
    | inl l ↦
        let r = edge_of_pair g p u v wu wv l (and_from (not (u == v)) (some (size g) (has_ends (contracted g p) u v)) (ap not (ne_eqb u v d)) (true_some (size g) (has_ends (contracted g p) u v) e w b)) in
        true_some (size (quotient g p)) (has_ends (quotient g p) u v) r.0 r.1 (has_ends-from (quotient g p) u v r.0 (inl (r.2, r.3)))
    | inr g' ↦
        let l : v < u = elim (cases_lt v u) [ inl m ↦ m | inr m ↦ absurd (d (omega arith)) ] in
        let r = edge_of_pair g p v u wv wu l (and_from (not (v == u)) (some (size g) (has_ends (contracted g p) v u)) (ap not (ne_eqb v u (λ q. d (sym q)))) (true_some (size g) (has_ends (contracted g p) v u) e w (has_ends-back (contracted g p) u v e b))) in
        true_some (size (quotient g p)) (has_ends (quotient g p) u v) r.0 r.1 (has_ends-back (quotient g p) v u r.0 (has_ends-from (quotient g p) v u r.0 (inl (r.2, r.3))))
  ]

  pick_down : ℕ → ℕ
  pick_down e = least_of (size (quotient g p)) (has_ends (quotient g p) (first_end (contracted g p) e) (second_end (contracted g p) e))

  pick_up : ℕ → ℕ
  pick_up k = least_of (size (contracted g p)) (has_ends (contracted g p) (first_end (quotient g p) k) (second_end (quotient g p) k))

  in_quotient : (e : ℕ) → Within (size (contracted g p)) e → first_end (contracted g p) e ≢ second_end (contracted g p) e → Within (size (quotient g p)) (pick_down e) × HasEnds (quotient g p) (pick_down e) (first_end (contracted g p) e) (second_end (contracted g p) e)
  unfolding pick_down
  in_quotient e w d =
      let i = contracted-graph g p is pp e w in
      let l = least_of_is (size (quotient g p)) (has_ends (quotient g p) (first_end (contracted g p) e) (second_end (contracted g p) e))
      (pair_edge (first_end (contracted g p) e) (second_end (contracted g p) e) e (subst (λ n. Within n (first_end (contracted g p) e)) (contracted-order g p) i.0) (subst (λ n. Within n (second_end (contracted g p) e)) (contracted-order g p) i.1) d (subst (λ n. Within n e) (contracted-size g p) w) (has_ends-own (contracted g p) e)) in
      (l.0, has_ends-cases (quotient g p) (first_end (contracted g p) e) (second_end (contracted g p) e) (pick_down e) l.1)

  in_contracted : (k : ℕ) → Within (size (quotient g p)) k → first_end (quotient g p) k ≢ second_end (quotient g p) k → Within (size (contracted g p)) (pick_up k) × HasEnds (contracted g p) (pick_up k) (first_end (quotient g p) k) (second_end (quotient g p) k)
  unfolding pick_up
  in_contracted k w d =
      let r = quotient_edge g p k w in
      let q = some_true (size g) (has_ends (contracted g p) (first_end (quotient g p) k) (second_end (quotient g p) k)) (and_parts (not (first_end (quotient g p) k == second_end (quotient g p) k)) (some (size g) (has_ends (contracted g p) (first_end (quotient g p) k) (second_end (quotient g p) k))) r.3).1 in
      let l = least_of_is (size (contracted g p)) (has_ends (contracted g p) (first_end (quotient g p) k) (second_end (quotient g p) k))
      (true_some (size (contracted g p)) (has_ends (contracted g p) (first_end (quotient g p) k) (second_end (quotient g p) k)) q.0 (subst (λ n. Within n q.0) (sym (contracted-size g p)) q.1) q.2) in
      (l.0, has_ends-cases (contracted g p) (first_end (quotient g p) k) (second_end (quotient g p) k) (pick_up k) l.1)

  own : ℕ → ℕ
  own v = v

  onto_q : (w : ℕ) → Within (quotient g p).order w → (v : ℕ) × Within (contracted g p).order v × (own v ≡ w)
  unfolding own
  onto_q w ww = (w, subst (λ n. Within n w) (quotient-order g p ∙ sym (contracted-order g p)) ww, refl)

  onto_s : (w : ℕ) → Within (contracted g p).order w → (v : ℕ) × Within (quotient g p).order v × (own v ≡ w)
  unfolding own
  onto_s w ww = (w, subst (λ n. Within n w) (contracted-order g p ∙ sym (quotient-order g p)) ww, refl)

  -- tight in the quotient from tight in the shrunk graph, and back
  pub cut_up : (y : Set) → CutIsTight (contracted g p) y → CutIsTight (quotient g p) y
  unfolding own
  cut_up y t m perfect =
      sym (cut_carried (quotient g p) (contracted g p) quotient_graph own pick_up (λ u v wu wv e. e) onto_s in_contracted m perfect y)
      ∙ t (carried_set (quotient g p) (contracted g p) quotient_graph own pick_up (λ u v wu wv e. e) onto_s in_contracted m perfect) (perfect_carried (quotient g p) (contracted g p) quotient_graph own pick_up (λ u v wu wv e. e) onto_s in_contracted m perfect)

  pub cut_down : (y : Set) → CutIsTight (quotient g p) y → CutIsTight (contracted g p) y
  unfolding own
  cut_down y t m perfect =
      sym (cut_carried (contracted g p) (quotient g p) (contracted-graph g p is pp) own pick_down (λ u v wu wv e. e) onto_q in_quotient m perfect y)
      ∙ t (carried_set (contracted g p) (quotient g p) (contracted-graph g p is pp) own pick_down (λ u v wu wv e. e) onto_q in_quotient m perfect) (perfect_carried (contracted g p) (quotient g p) (contracted-graph g p is pp) own pick_down (λ u v wu wv e. e) onto_q in_quotient m perfect)

  same_order : (contracted g p).order ≡ (quotient g p).order
  same_order = contracted-order g p ∙ sym (quotient-order g p)

  pub tight_up : (y : Set) → IsTight (contracted g p) y → IsTight (quotient g p) y
  tight_up y t = grind (arith, same_order, cut_up y t.cut)

  pub tight_down : (y : Set) → IsTight (quotient g p) y → IsTight (contracted g p) y
  tight_down y t = grind (arith, same_order, cut_down y t.cut)
