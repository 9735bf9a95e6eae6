use Rattle.allowed_edges.proofs.from_counting.Common.{ℕ, List, ap, ◌∙◌, list_any, mem}
use Rattle.plain_graph.specs.Subsets.{perfect_matchings_of}
use Rattle.plain_graph.proofs.Tries.{is_allowed-list}
use Rattle.plain_graph.proofs.matchings.is_allowed.Goals as goal

pub returns : goal.returns
returns c =
    c.is_in_some.ensures
    ∙ ap (list_any (λ m. mem m c.args.edge)) (c.as_slice.ensures ∙ c.in_ok-matchings.ensures.list ∙ ap (λ (xs : List ℕ). perfect_matchings_of c.args.graph.now (mem xs)) c.empty.ensures)
    ∙ is_allowed-list c.args.graph.now c.args.edge c.requires.edge
