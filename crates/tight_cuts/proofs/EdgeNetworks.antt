-- The network as the code makes it, edge by edge, is the contracted network of a pair list.
-- Idea: one edge more is one arc more or none; equal rows give equal arcs.
use Rattle.graph_core.proofs.from_counting.Common.{◌≡◌, ℕ, suc, zero, ◌+◌, ◌≤◌, ◌<◌, ap, arith, List, ◌++◌, sum_by, inl, inr, sum_by-append, cases_eq, total}
use Rattle.flow_core.specs.Common.{Arc}
use Rattle.graph_core.proofs.Common.{Graph, first_end, second_end}
use Rattle.tight_cuts.specs.Common.{arc_between, arcs_by, at_place}

-- one edge more
pub arcs-next : (g : Graph) (weights : List ℕ) (group : ℕ → ℕ) (k first second capacity : ℕ) → first ≡ group (first_end g (k + 1)) → second ≡ group (second_end g (k + 1)) → capacity ≡ at_place weights (k + 1) →
    arcs_by g weights group k ++ arc_between first second capacity ≡ arcs_by g weights group (k + 1)
arcs-next g weights group k first second capacity a b c = grind arith

-- the capacity of an arc, or of none
between_capacity : (a b capacity : ℕ) → sum_by (λ (arc : Arc). arc.capacity) (arc_between a b capacity) ≤ capacity
between_capacity a b capacity = grind arith

-- the total stays within that of the row
pub capacity-next : (arcs : List Arc) (nodes : ℕ) (weights : List ℕ) (k a b capacity : ℕ) → capacity ≡ at_place weights (k + 1) → sum_by (λ (arc : Arc). arc.capacity) arcs ≤ total k (at_place weights) →
    sum_by (λ (arc : Arc). arc.capacity) (arcs ++ arc_between a b capacity) ≤ total (k + 1) (at_place weights)
capacity-next arcs nodes weights k a b capacity c l = grind (arith, sum_by-append, between_capacity a b capacity)

-- room for one more: the row's total up to an edge is at most the whole
pub total-room : (n k : ℕ) (f : ℕ → ℕ) → k < n → total k f + f (k + 1) ≤ total n f
total-room zero k f l = absurd (omega arith)
total-room (suc n) k f l = elim (cases_eq k n) [
  | inl e ↦ let t = ap (λ i. total i f) e in let s : f (k + 1) ≡ f (suc n) = ap f (let q : k + 1 ≡ suc n = omega arith in q) in omega arith
  | inr d ↦ let i = total-room n k f (omega arith) in omega arith
]
