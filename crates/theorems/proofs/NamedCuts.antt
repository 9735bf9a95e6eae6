-- A covered graph with a nontrivial tight cut has a nontrivial barrier cut or 2-separation cut. A
-- bicritical one has a cut pair, one that is neither bicritical nor bipartite a class, and of a
-- bipartite one each tight cut is a barrier cut.
use Rattle.tree_check.proofs.from_counting.Common.{ℕ, sym, ◌⊎◌, inl, inr, Set, complement}
use Rattle.barrier_kit.proofs.Common.{class_barrier, class_cut, no_sides, nontrivial-turned, tight-turned, BarrierCut}
use Rattle.quick_kinds.proofs.from_brick_kit.Bricks.{shore_pair}
use Rattle.theorems.proofs.Quotients.{bipartite-or}
use Rattle.graph_core.proofs.Common.{nontrivial-same, tight-same, IsCovered, Graph, IsGraph, IsMultigraph, IsBarrier, IsBicritical, IsCutPair, IsNontrivial, IsTight}
use Rattle.quick_kinds.proofs.QuickBricks.{critical_or_not}
use Rattle.separation_kit.proofs.CutPairs.{beside_pair, pair_cut}
use Rattle.theorems.proofs.BarrierShores.{shore_barrier}
use Rattle.theorems.specs.Bricks.{IsBarrierCutOf, SeparationCut}

-- a barrier cut of a nontrivial tight shore
barrier_cut_of : (g : Graph) (x s : Set) → IsGraph g → IsTight g x → IsNontrivial g.order x → IsBarrierCutOf g x s → BarrierCut g s
barrier_cut_of g x s is t wide b = elim b.same [
  | inl same ↦ record {
    vertex = b.vertex;
    within = b.within;
    outside = b.outside;
    tight = tight-same g x _ is (λ v w. sym (same v w)) t;
    nontrivial = nontrivial-same g.order x _ (λ v w. sym (same v w)) wide;
  }
  | inr same ↦ record {
    vertex = b.vertex;
    within = b.within;
    outside = b.outside;
    tight = tight-same g (complement x) _ is (λ v w. sym (same v w)) (tight-turned g x t);
    nontrivial = nontrivial-same g.order (complement x) _ (λ v w. sym (same v w)) (nontrivial-turned g.order x wide);
  }
]

-- a cut pair of a bicritical graph
separation_of : (g : Graph) (u v : ℕ) → IsMultigraph g → IsBicritical g → IsCutPair g u v → SeparationCut g u v
separation_of g u v is bi p =
    let a = beside_pair g u v p in
    let c = pair_cut g u v a.0 is.ends bi p.first p.second p a.1 a.2 in
    record { pair = p; perfect = bi u v p.first p.second p.different; vertex = a.0; within = a.1; outside = a.2; tight = c.0; nontrivial = c.1 }

pub named_cut : (g : Graph) (x : Set) → IsMultigraph g → IsCovered g → IsTight g x → IsNontrivial g.order x → ((s : Set) × IsBarrier g s × BarrierCut g s) ⊎ ((u : ℕ) × (v : ℕ) × SeparationCut g u v)
named_cut g x is cov t wide = elim (critical_or_not g) [
  | inl bi ↦ let p = shore_pair g x is.ends cov bi t wide in inr (p.0, p.1, separation_of g p.0 p.1 is bi p.2)
  | inr n ↦ elim (bipartite-or g is.ends) [
    | inl sides ↦ let b = shore_barrier g is.ends cov x t sides.0 (λ e w d. sides.1 e w) in let k = b.1 in inl (b.0, k.barrier, barrier_cut_of g x b.0 is.ends t wide k)
    | inr odd ↦ let c = class_cut g is.ends cov (no_sides g is.no_loop odd) n in inl (c.2.0, class_barrier g c.0 c.2.0 is.ends cov c.1 c.2.1, c.2.2)
  ]
]
