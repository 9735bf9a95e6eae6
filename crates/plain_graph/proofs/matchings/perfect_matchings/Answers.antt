use Rattle.allowed_edges.proofs.from_counting.Common.{◌≡◌, ℕ, List, filter, ap, sym, ◌∙◌, subst, All, arith, IsRisingIn, mem, Set}
use Rattle.graph_core.proofs.Common.{Graph, size, IsPerfect, is_perfect}
use Rattle.plain_graph.specs.Subsets.{perfect_matchings_of, subsets}
use Rattle.plain_graph.proofs.Tries.{perfect_matchings-all, perfect_matchings-perfect}
use Rattle.plain_graph.proofs.matchings.perfect_matchings.Goals as goal

-- those that are kept of all sets of edges
kept : (g : Graph) (r : Set) (n : ℕ) (sets slice found : List (List ℕ)) → found ≡ filter (λ (m : List ℕ). is_perfect g r (mem m)) slice → slice ≡ sets → sets ≡ subsets n → n ≡ size g → found ≡ perfect_matchings_of g r
kept g r n sets slice found a b c d = a ∙ ap (filter (λ (m : List ℕ). is_perfect g r (mem m))) (b ∙ c ∙ ap subsets d)

pub returns-clause-perfect : goal.returns-clause-perfect
returns-clause-perfect c =
    let g = c.args.graph.now in let r = mem c.args.removed in
    subst (All (λ (m : List ℕ). IsRisingIn (size g) m × IsPerfect g r (mem m)))
    (sym (kept g r c.size.result c.in_ok-sets.sets c.as_slice.result.now c.in_ok-found.found c.in_ok-found.ensures c.as_slice.ensures c.in_ok-sets.ensures c.size.ensures.is)) (perfect_matchings-perfect g r)

pub returns-clause-all : goal.returns-clause-all
returns-clause-all c m p = grind (arith, perfect_matchings-all)
