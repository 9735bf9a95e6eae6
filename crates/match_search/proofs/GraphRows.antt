-- What a row of ends says of the graph of these ends, and a row of edges of its vertices.
-- Each fact about the ends at a place is carried to the edge one place on.
use Rattle.graph_core.proofs.from_counting.Common.{◌≡◌, ℕ, suc, ◌+◌, ◌-◌, ◌<◌, ◌≤◌, ◌≢◌, true, cond, ◌==◌, sym, ap, ◌∙◌, arith, List, length, eq-eqb, ne_eqb, inl, inr, cases_eq, get_or-map, length-map, total_none, Within, Set}
use Rattle.graph_core.proofs.Common.{HasEnds, Graph, size, first_end, second_end, IsGraph, degree, graph_of}
use Rattle.match_search.proofs.Forests.{met}
use Rattle.match_search.specs.Common.{numbers, end_a, end_b, AreEnds, NamesEdges}
use Rattle.graph_core.specs.declared.ends.Ends.{Ends}

module _ (n : ℕ) (ends : List Ends) where
  abbrev pub G : Graph
  G = graph_of n ends

  pub size_is : size G ≡ length ends
  size_is = length-map ends (λ (e : Ends). (e.a, e.b))

  both_are : (k : ℕ) → k < length ends → Rattle.std.specs.Prelude.slice_index_or G.ends k (0, 0) ≡ (end_a ends k, end_b ends k)
  both_are k l = let pair : Ends → ℕ × ℕ = λ e. (e.a, e.b) in get_or-map pair ends k (record { a = 0; b = 0 }) (0, 0) l

  pub near_is : (e : ℕ) → Within (length ends) e → first_end G e ≡ end_a ends (e - 1)
  near_is e w = ap (λ (d : ℕ × ℕ). d.0) (both_are (e - 1) (omega arith))

  pub far_is : (e : ℕ) → Within (length ends) e → second_end G e ≡ end_b ends (e - 1)
  far_is e w = ap (λ (d : ℕ × ℕ). d.1) (both_are (e - 1) (omega arith))

  -- ends of 1 to n make a graph
  pub row_graph : AreEnds n ends → IsGraph G
  row_graph row e w = grind (arith, size_is, near_is, far_is)

  -- a vertex that no marked edge meets
  pub unmet_degree : (m : Set) (v : ℕ) → ((k : ℕ) → k < length ends → m (k + 1) ≡ true → (end_a ends k ≢ v) × (end_b ends k ≢ v)) → degree G m v ≡ 0
  unmet_degree m v unmet = grind (arith, total_none (size G), in_ends, forth, near_is, far_is)
    where
      in_ends : (e : ℕ) → Within (size G) e → Within (length ends) e
      in_ends e w = let s = size_is in omega arith

      forth : (e : ℕ) → 1 ≤ e → e - 1 + 1 ≡ e
      forth e l = omega arith

  module _ (m : Set) (at : List ℕ) (mates : NamesEdges ends m at (length ends)) where
    -- a vertex without a marked edge
    pub missed_degree : (v : ℕ) → numbers at v ≡ 0 → degree G m v ≡ 0
    missed_degree v z = unmet_degree m v (mates.missed v z)

    -- the mate of a vertex that has one
    abbrev pub partner : ℕ → ℕ
    partner w = cond (end_a ends (numbers at w - 1) == w) (end_b ends (numbers at w - 1)) (end_a ends (numbers at w - 1))

    pub pair_is : (w : ℕ) → numbers at w ≢ 0 → Within (size G) (numbers at w) × (m (numbers at w) ≡ true) × HasEnds G (numbers at w) w (partner w)
    pair_is w z = grind (arith, met, size_is, cases_eq, near_is, far_is, eq-eqb, ne_eqb)

-- the ends at a place are those of the next edge
pub ends_here : (n : ℕ) (ends : List Ends) (k : ℕ) → k < length ends → (end_a ends k ≡ first_end (graph_of n ends) (suc k)) × (end_b ends k ≡ second_end (graph_of n ends) (suc k))
ends_here n ends k l = grind (arith, near_is n ends (suc k), far_is n ends (suc k))

-- a vertex has no edge in the row if and only if the matching misses it
pub free_degree : (n : ℕ) (ends : List Ends) (m : Set) (at : List ℕ) → NamesEdges ends m at (length ends) → (u : ℕ) → (numbers at u == 0) ≡ (degree (graph_of n ends) m u == 0)
free_degree n ends m at mates u = elim (cases_eq (numbers at u) 0) [
  | inl q ↦ eq-eqb (numbers at u) 0 q ∙ sym (eq-eqb (degree (graph_of n ends) m u) 0 (missed_degree n ends m at mates u q))
  | inr q ↦ let p = pair_is n ends m at mates u q in let d = (met (graph_of n ends) m (numbers at u) u (partner n ends m at mates u) p.0 p.1 p.2).0 in
      ne_eqb (numbers at u) 0 q ∙ sym (ne_eqb (degree (graph_of n ends) m u) 0 (λ z. absurd (omega arith)))
]
