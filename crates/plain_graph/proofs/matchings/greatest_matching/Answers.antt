use Rattle.allowed_edges.proofs.from_counting.Common.{◌≡◌, ℕ, List, ap, sym, ◌∙◌, subst, All, arith, IsRisingIn, mem}
use Rattle.graph_core.proofs.Common.{size}
use Rattle.plain_graph.specs.Subsets.{subsets}
use Rattle.plain_graph.proofs.Subsets.{subsets-rising}
use Rattle.plain_graph.proofs.Tries.{greatest-list}
use Rattle.plain_graph.proofs.matchings.greatest_matching.Goals as goal

-- the sets that are tried are all sets of edges
all_sets : (n m : ℕ) (sets slice : List (List ℕ)) → slice ≡ sets → sets ≡ subsets m → m ≡ n → slice ≡ subsets n
all_sets n m sets slice a b c = a ∙ b ∙ ap subsets c

pub greatest_among-requires-clause-edges : goal.greatest_among-requires-clause-edges
greatest_among-requires-clause-edges c =
    let n = size c.args.graph.now in
    subst (All (IsRisingIn n)) (sym (all_sets n c.size.result c.in_ok-sets.sets c.as_slice.result.now c.as_slice.ensures c.in_ok-sets.ensures c.size.ensures.is)) (subsets-rising n)

pub returns-clause-greatest : goal.returns-clause-greatest
returns-clause-greatest c = grind (arith, greatest-list c.args.graph.now (mem c.args.removed) c.greatest_among.result, all_sets)
