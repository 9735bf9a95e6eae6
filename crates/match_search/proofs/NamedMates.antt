-- The mates that a pass over marked edges names are those of the matching. Idea: a vertex without a
-- named mate meets no marked edge, and any other is joined to its mate by the edge that named it.
use Rattle.graph_core.proofs.from_counting.Common.{◌≡◌, ℕ, ◌+◌, ◌-◌, ap, ◌∙◌, arith, List, length, inl, inr, Set}
use Rattle.graph_core.proofs.Common.{IsMatching, graph_of}
use Rattle.graph_core.specs.declared.ends.Ends.{Ends}
use Rattle.match_search.specs.Common.{HasMates, NamesMates, numbers, end_a, end_b}
use Rattle.match_search.proofs.GraphRows.{far_is, near_is, size_is, unmet_degree}

pub named_mates : (n : ℕ) (ends : List Ends) (m : Set) (mate : List ℕ) → NamesMates ends m mate (length ends) → (r : Set) → IsMatching (graph_of n ends) r m → HasMates (graph_of n ends) r m (numbers mate)
named_mates n ends m mate named r mm = record {
  matching = mm;
  exposed = λ v w q. unmet_degree n ends m v (named.missed v q);
  paired = λ v w q.
      let t = named.met v q in
      let l = t.1 in
      let s = size_is n ends in
      let near = near_is n ends (t.0 + 1) (omega arith) ∙ ap (end_a ends) (back t.0) in
      let far = far_is n ends (t.0 + 1) (omega arith) ∙ ap (end_b ends) (back t.0) in
      (t.0 + 1, (omega arith, omega arith), t.2, elim t.3 [ inl e ↦ inl (near ∙ e.0, far ∙ e.1) | inr e ↦ inr (near ∙ e.0, far ∙ e.1) ]);
}
  where
    back : (k : ℕ) → k + 1 - 1 ≡ k
    back k = omega arith
