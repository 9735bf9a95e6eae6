-- A graph whose edges are the first k pairs of a list: it is a multigraph within the limits, so
-- each of these pairs is two different vertices, and they are no more than a graph may have.
use Rattle.allowed_edges.proofs.from_counting.Common.{◌≡◌, ℕ, ◌-◌, ◌<◌, ◌≤◌, List, length, take, suc, sym, ap, ◌∙◌, subst, arith, get_or-take, length-take-le, Within}
use Rattle.graph_core.proofs.Common.{Graph, IsMultigraph, size, IsWithinLimits}
use Rattle.plain_graph.specs.EdgeFaults.{IsReachedPair, JoinsTwo, pair_at}

pub first_pairs-join : (n k : ℕ) (es : List (ℕ × ℕ)) → k ≤ length es → IsMultigraph (record { order = n; ends = take k es }) → (j : ℕ) → j < k → JoinsTwo n (pair_at es j)
first_pairs-join n k es h is j less = record {
  first = subst (λ (p : ℕ × ℕ). Within n p.0) here (is.ends (suc j) there).0;
  second = subst (λ (p : ℕ × ℕ). Within n p.1) here (is.ends (suc j) there).1;
  different = λ same. is.no_loop (suc j) there (ap (λ (p : ℕ × ℕ). p.0) here ∙ same ∙ sym (ap (λ (p : ℕ × ℕ). p.1) here));
}
  where
    there : Within (length (take k es)) (suc j)
    there = let l = length-take-le k es h in (omega arith, omega (arith, l))

    here : pair_at (take k es) (suc j - 1) ≡ pair_at es j
    here = let e : suc j - 1 ≡ j = omega arith in ap (pair_at (take k es)) e ∙ get_or-take k es j (0, 0) less

pub first_pairs-size : (n k : ℕ) (es : List (ℕ × ℕ)) (g : Graph) → g ≡ record { order = n; ends = take k es } → k < length es → size g ≡ k
first_pairs-size n k es g is less = ap size is ∙ length-take-le k es (omega arith)

pub reached : (n k : ℕ) (es : List (ℕ × ℕ)) (g : Graph) → g ≡ record { order = n; ends = take k es } → IsWithinLimits g → k < length es → IsReachedPair n es k
reached n k es g is limits less = grind (arith, first_pairs-join n k es, first_pairs-size n k es g is less)
