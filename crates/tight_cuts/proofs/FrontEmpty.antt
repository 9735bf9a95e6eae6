-- A covered graph that is not bipartite and has no candidate of the first two parts has none at
-- all. It is bicritical, since else a barrier gives a cut, and has no cut pair, since else a
-- separation does; so by the theorem on bricks no nontrivial shore is tight.
use Rattle.graph_core.proofs.from_counting.Common.{◌≡◌, ◌≤◌, ℕ, Option, Some, None, [], refl, sym, ◌∙◌, arith, count_complement, Set}
use Rattle.barrier_kit.proofs.Common.{no_sides, bicritical_no_cuts, some_cut, barrier_cuts}
use Rattle.quick_kinds.proofs.from_brick_kit.Bricks.{no_shore}
use Rattle.graph_core.proofs.Common.{IsCovered, Graph, IsBipartite, IsMultigraph, IsBicritical, equivalent_pair, IsNontrivial, IsTight}
use Rattle.quick_kinds.proofs.from_separation_kit.SeparationFacts.{pair_some_cut, equivalent-none}
use Rattle.quick_kinds.specs.from_separation_kit.Common.{separation_cuts}
use Rattle.tight_cuts.proofs.Completeness.{candidates_none}
use Rattle.tight_cuts.proofs.FrontCandidates.{front-barriers, front-separations, equivalent-some}
use Rattle.tight_cuts.proofs.LiftedCandidates.{map-none}
use Rattle.tight_cuts.specs.Common.{Barrier, Separation, candidate_at, candidates, front_candidates}

module _ (g : Graph) (is : IsMultigraph g) (cov : IsCovered g) (odd_cycle : IsBipartite g → ⊥) (front : front_candidates g ≡ []) where
  no_tight : (x : Set) → IsTight g x → IsNontrivial g.order x → ⊥
  no_tight x tx wide = at (equivalent_pair g) refl
    where
      four : 4 ≤ g.order
      four = let a = wide.inside in let b = wide.outside in let c = count_complement g.order x in omega arith

      bicritical : IsBicritical g → ⊥
      bicritical bi =
          let none = map-none (candidate_at g.order Separation) (separation_cuts g) (front-separations g (bicritical_no_cuts g is.ends cov bi) ∙ front) in
          no_shore g is.ends cov bi (λ u v pair. pair_some_cut g is.ends bi four u v pair none) x tx wide

      at : (o : Option (ℕ × ℕ)) → equivalent_pair g ≡ o → ⊥
      at (Some k) q = some_cut g is.ends cov (no_sides g is.no_loop odd_cycle) bicritical
          (map-none (candidate_at g.order Barrier) (barrier_cuts g) (front-barriers g (equivalent-some g k (sym q)) ∙ front))
      at None q = bicritical ((equivalent-none g).0 q)

  pub front_empty : candidates g ≡ []
  front_empty = (candidates_none g is.ends cov).1 no_tight
