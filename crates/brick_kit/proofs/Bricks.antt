-- A nontrivial tight shore of a covered graph, loops allowed, has a reason: a barrier of at least two
-- vertices, or a cut pair. A shore of a bicritical graph gives a list of balanced shores, which is
-- uncrossed until it gives a cut pair; a graph that is not bicritical has a barrier by the theorem
-- of Tutte and Berge.
use Rattle.graph_core.proofs.from_counting.Common.{ℕ, suc, ◌+◌, ◌≤◌, ◌≢◌, ◌∷◌, ◌⊎◌, ◌↔◌, inl, inr, arith, cases_eq, two_members, scan, Within, bit, count, Set, pair_set}
use Rattle.graph_core.proofs.Common.{covered_perfect, IsCovered, Graph, IsBipartite, IsGraph, IsMultigraph, in_cut, HasPerfect, IsPerfect, IsBarrier, IsBicritical, IsCutPair, IsNontrivial, IsTight}
use Rattle.separation_kit.proofs.from_barrier_kit.Common.{equivalent_barrier, no_sides, perfect_or_not}
use Rattle.separation_kit.proofs.CutPairs.{brick_facts}
use Rattle.brick_kit.proofs.Duality.{dual}
use Rattle.brick_kit.proofs.PairsFromShores.{pair_below}
use Rattle.brick_kit.proofs.TightCovers.{dual_balance}
use Rattle.brick_kit.proofs.UncrossedLists.{spread}

pub critical_or_pair : (g : Graph) → (IsBicritical g) ⊎ ((a : ℕ) × (b : ℕ) × Within g.order a × Within g.order b × (a ≢ b) × ((m : Set) → IsPerfect g (pair_set a b) m → ⊥))
critical_or_pair g = elim (scan g.order (λ a. (b : ℕ) × Within g.order b × (a ≢ b) × ((m : Set) → IsPerfect g (pair_set a b) m → ⊥)) (λ a. (b : ℕ) → Within g.order b → a ≢ b → HasPerfect g (pair_set a b)) (λ a wa. row a)) [
  | inl p ↦ inr (p.0, p.2.0, p.1, p.2.1, p.2.2, p.2.3)
  | inr h ↦ inl (λ a b wa wb d. h a wa b wb d)
]
  where
    row : (a : ℕ) → ((b : ℕ) × Within g.order b × (a ≢ b) × ((m : Set) → IsPerfect g (pair_set a b) m → ⊥)) ⊎ ((b : ℕ) → Within g.order b → a ≢ b → HasPerfect g (pair_set a b))
    row a = elim (scan g.order (λ b. (a ≢ b) × ((m : Set) → IsPerfect g (pair_set a b) m → ⊥)) (λ b. a ≢ b → HasPerfect g (pair_set a b)) (λ b wb. grind (arith, cases_eq a b, perfect_or_not g (pair_set a b)))) [
      | inl p ↦ inl (p.0, p.1, p.2.0, p.2.1)
      | inr h ↦ inr h
    ]

-- by the dual of the weight "n, and one more in the cut of x"
pub shore_pair : (g : Graph) (x : Set) → IsGraph g → IsCovered g → IsBicritical g → IsTight g x → IsNontrivial g.order x → (a : ℕ) × (b : ℕ) × IsCutPair g a b
shore_pair g x is cov bi tx wide =
    let r = dual_balance g x is cov tx (dual g (λ e. g.order + bit (in_cut g x e)) is) in
    pair_below (suc (spread g.order (x ∷ x ∷ r.2))) g r.0 r.1 x (x ∷ r.2) is cov bi r.3 wide (omega arith)

pub shore_reason : (g : Graph) (x : Set) → IsGraph g → IsCovered g → IsTight g x → IsNontrivial g.order x → ((s : Set) × IsBarrier g s × (2 ≤ count g.order s)) ⊎ ((a : ℕ) × (b : ℕ) × IsCutPair g a b)
shore_reason g x is cov tx wide = elim (critical_or_pair g) [
  | inl bi ↦ inr (shore_pair g x is cov bi tx wide)
  | inr p ↦
      let m = covered_perfect g is cov in
      let b = equivalent_barrier g m.0 p.0 p.1 is m.1 p.2 p.3 p.4 p.5 in
      inl (b.0, b.1, two_members g.order b.0 p.0 p.1 p.2 p.3 p.4 b.2 b.3)
]

pub no_shore : (g : Graph) → IsGraph g → IsCovered g → IsBicritical g → ((a b : ℕ) → IsCutPair g a b → ⊥) → (x : Set) → IsTight g x → IsNontrivial g.order x → ⊥
no_shore g is cov bi none_pair x tx wide = let p = shore_pair g x is cov bi tx wide in none_pair p.0 p.1 p.2

-- a covered multigraph that is not bipartite is a brick if and only if it is bicritical and has no
-- cut pair
pub brick_or_not : (g : Graph) → IsMultigraph g → IsCovered g → (IsBipartite g → ⊥) → ((x : Set) → IsTight g x → IsNontrivial g.order x → ⊥) ↔ (IsBicritical g × ((u v : ℕ) → IsCutPair g u v → ⊥))
brick_or_not g is cov odd_cycle = grind (arith, brick_facts g is.ends cov (no_sides g is.no_loop odd_cycle), no_sides g is.no_loop odd_cycle, no_shore g is.ends cov)
