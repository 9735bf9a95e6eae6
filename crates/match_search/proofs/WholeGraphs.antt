-- The order and the ends of a graph, as the code reads them, make the graph again.
-- What is proved of these ends is so said of the graph, by one equation.
use Rattle.graph_core.proofs.from_counting.Common.{◌≡◌, ℕ, suc, ◌-◌, ◌<◌, List, length, sym, ap, ◌∙◌, arith, subst, inl, Within}
use Rattle.graph_core.proofs.Common.{Graph, HasEnds, IsGraph, first_end, second_end, size, AreRows, graph_of, IsWithinLimits}
use Rattle.graph_core.specs.declared.ends.Ends.{Ends}
use Rattle.match_search.specs.Common.{end_a, end_b, AreEnds, IsGraphRow}
use Rattle.match_search.proofs.GraphRows.{size_is, near_is, far_is}

module _ (g : Graph) (n : ℕ) (ends : List Ends) (order : n ≡ g.order) (same : graph_of g.order ends ≡ g) where
  pub whole_graph : graph_of n ends ≡ g
  whole_graph = ap (λ n. graph_of n ends) order ∙ same

  pub whole_size : length ends ≡ size g
  whole_size = sym (size_is n ends) ∙ ap size whole_graph

  -- the ends of edge e are item e - 1 of the list
  pub whole_ends : (e : ℕ) → Within (size g) e → (first_end g e ≡ end_a ends (e - 1)) × (second_end g e ≡ end_b ends (e - 1))
  whole_ends e w = grind (arith, whole_graph, whole_size, near_is n ends e, far_is n ends e)

  pub whole_pair : (e : ℕ) → Within (size g) e → HasEnds g e (end_a ends (e - 1)) (end_b ends (e - 1))
  whole_pair e w = inl (whole_ends e w)

  -- they are of 1 to the order
  pub whole_within : IsGraph g → AreEnds n ends
  whole_within is = record {
    a = λ k l. subst (Within n) ((whole_ends (suc k) (in_size k l)).0 ∙ ap (end_a ends) (back k)) (let w = is (suc k) (in_size k l) in omega arith);
    b = λ k l. subst (Within n) ((whole_ends (suc k) (in_size k l)).1 ∙ ap (end_b ends) (back k)) (let w = is (suc k) (in_size k l) in omega arith);
  }
    where
      back : (k : ℕ) → suc k - 1 ≡ k
      back k = omega arith

      in_size : (k : ℕ) → k < length ends → Within (size g) (suc k)
      in_size k l = let s = whole_size in omega arith

  -- and a set can hold them
  pub limits_ends : IsWithinLimits g → (e : ℕ) → Within (size g) e → Within 128 (end_a ends (e - 1)) × Within 128 (end_b ends (e - 1))
  limits_ends limits e w = grind (arith, whole_size, whole_within)

  pub limits_row : IsWithinLimits g → IsGraphRow n ends
  limits_row limits = grind (arith, whole_size, whole_within limits.multigraph.ends)

  -- the rows of the graph are those of its ends
  pub ends_rows : (rows : List (List ℕ)) → AreRows g rows → AreRows (graph_of n ends) rows
  ends_rows rows = subst (λ (h : Graph). AreRows h rows) (sym whole_graph)
