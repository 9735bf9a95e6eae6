-- The components at a cut pair of a bicritical graph give nontrivial tight cuts, and a brick has at
-- least four vertices, is bicritical and has no cut pair. If one of these failed, there would be a
-- nontrivial tight cut.
use Rattle.graph_core.proofs.from_counting.Common.{◌≡◌, ℕ, ◌≤◌, false, arith, count_member, Within, Set, pair_set, union, singleton}
use Rattle.barrier_kit.proofs.Common.{leads_out, four_vertices, bicritical}
use Rattle.graph_core.proofs.Common.{IsSide, is_least, component_count, IsCovered, Graph, IsGraph, IsBicritical, IsCutPair, IsTight, IsNontrivial, joined}
use Rattle.separation_kit.proofs.Separations.{separation_tight, separation_nontrivial}

-- a vertex outside a cut pair
pub beside_pair : (g : Graph) (u v : ℕ) → IsCutPair g u v → (a : ℕ) × Within g.order a × (pair_set u v a ≡ false)
unfolding component_count
beside_pair g u v c = let k = count_member g.order (is_least g (pair_set u v)) (let two = c.parts in omega arith) in (k.0, k.1, leads_out g (pair_set u v) k.0 k.2)

-- second law: bicritical, the components at a cut pair have nontrivial tight cuts
pub pair_cut : (g : Graph) (u v a : ℕ) → IsGraph g → IsBicritical g → Within g.order u → Within g.order v → IsCutPair g u v → Within g.order a → pair_set u v a ≡ false →
    IsTight g (union (joined g (pair_set u v) a) (singleton u)) × IsNontrivial g.order (union (joined g (pair_set u v) a) (singleton u))
pair_cut g u v a is bi wu wv c wa o = let m = bi u v wu wv c.different in
    (separation_tight g is u v wu wv c.different m.0 m.1 a wa o, separation_nontrivial g is u v wu wv c.different m.0 m.1 a wa o c)

pub no_cut_pair : (g : Graph) → IsGraph g → IsBicritical g → ((x : Set) → IsTight g x → IsNontrivial g.order x → ⊥) → (u v : ℕ) → Within g.order u → Within g.order v → IsCutPair g u v → ⊥
no_cut_pair g is bi brick u v wu wv c = grind (arith, beside_pair g u v c, pair_cut g u v)

-- a brick
pub brick_facts : (g : Graph) → IsGraph g → IsCovered g → ((x : Set) → IsSide g x → ⊥) → ((x : Set) → IsTight g x → IsNontrivial g.order x → ⊥) →
    (4 ≤ g.order) × IsBicritical g × ((u v : ℕ) → Within g.order u → Within g.order v → IsCutPair g u v → ⊥)
brick_facts g is cov odd_cycle brick = grind (arith, bicritical, four_vertices, no_cut_pair)
