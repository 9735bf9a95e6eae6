-- Clusters of vertices that no nontrivial tight cut separates. Idea: that none separates two
-- vertices is an equivalence, and a pair is separated at an edge only by a nontrivial tight cut.
use Rattle.graph_core.proofs.from_counting.Common.{◌≡◌, ℕ, true, List, [], None, refl, sym, ap, ◌∙◌, arith, inl, inr, both_ways, cases_Bool, false_from_ne_true, Within, Set, item, mem, list_any}
use Rattle.graph_core.proofs.Common.{Graph, IsCovered, IsGraph, first_end, second_end, in_cut, size, IsNontrivial}
use Rattle.tight_cuts.proofs.EdgeLoop.{high_within, low_within, step_covers}
use Rattle.tight_cuts.proofs.FirstPairs.{no_first}
use Rattle.tight_cuts.proofs.FrontCandidates.{edge-known}
use Rattle.tight_cuts.proofs.LeastShores.{parts_nontrivial, separated_says}
use Rattle.tight_cuts.specs.Common.{cuts, first_separated, greater_end, is_separated, lesser_end, with_edge_cut, with_intersection, Candidate, AreClusters, AreUnparted}

module _ (g : Graph) (is : IsGraph g) (cov : IsCovered g) (e : ℕ) (we : Within (size g) e) where
  -- if no pair is separated at an edge, no nontrivial tight cut has the edge
  pub none_unparted : first_separated g e ≡ None → AreUnparted g (first_end g e) (second_end g e)
  none_unparted none x t nt = elim (cases_Bool (in_cut g x e)) [
    | inl c ↦ let covered = step_covers g is cov e we [] x t nt c in
        let same : with_edge_cut g [] e ≡ [] = ap (with_intersection g (lesser_end g e) (greater_end g e) []) none in
        absurd (both_ways (list_any (cuts g e) []) refl (ap (list_any (cuts g e)) (sym same) ∙ covered))
    | inr f ↦ grind arith
  ]

  -- and back
  pub unparted_none : AreUnparted g (first_end g e) (second_end g e) → first_separated g e ≡ None
  unparted_none level = no_first g.order (is_separated g (lesser_end g e) (greater_end g e)) (λ u v wu wv. false_from_ne_true (is_separated g (lesser_end g e) (greater_end g e) (u, v)) (λ s.
      let p = separated_says g (lesser_end g e) (greater_end g e) (u, v) s in
      let z = p.2.1 in
      let nontrivial : IsNontrivial g.order p.2.0 = parts_nontrivial g (lesser_end g e) (greater_end g e) (u, v) p.2.0 (low_within g is cov e we) (high_within g is cov e we) wu wv (grind arith) (grind arith) z in
      both_ways (p.2.0 (greater_end g e)) z.lacks_b (ends_level p.2.0 (level p.2.0 z.tight nontrivial) z.has_a)))
    where
      ends_level : (x : Set) → x (first_end g e) ≡ x (second_end g e) → x (lesser_end g e) ≡ true → x (greater_end g e) ≡ true
      ends_level x h t = grind arith

  -- so an edge between two vertices that are not separated gives nothing
  pub edge_settled : (list : List Candidate) → AreUnparted g (first_end g e) (second_end g e) → list ≡ with_edge_cut g list e
  edge_settled list level = grind (arith, cases_Bool, list_any, edge-known, unparted_none)

-- the ends of an edge, by the set of one of them
pub set_unparted : (g : Graph) (rows : List (List ℕ)) (e a b : ℕ) (set : List ℕ) → AreClusters g rows → Within g.order a → a ≡ first_end g e → b ≡ second_end g e → set ≡ item rows a → mem set b ≡ true → AreUnparted g (first_end g e) (second_end g e)
set_unparted g rows e a b set c wa qa qb is h x t nt = ap x (sym qa) ∙ c.unparted a b wa (ap (λ s. mem s b) (sym is) ∙ h) x t nt ∙ ap x qb
