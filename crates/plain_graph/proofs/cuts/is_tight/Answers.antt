use Rattle.allowed_edges.proofs.from_counting.Common.{ℕ, List, ◌==◌, ◌&&◌, ap, sym, ◌∙◌, arith, list_all, mem, none}
use Rattle.graph_core.proofs.Common.{edges_in_cut}
use Rattle.plain_graph.specs.Subsets.{perfect_matchings_of}
use Rattle.plain_graph.proofs.Tries.{is_tight-list}
use Rattle.plain_graph.proofs.cuts.is_tight.Goals.{then-has_odd_sides, else-has_odd_sides}
use Rattle.plain_graph.proofs.cuts.is_tight.Goals as goal

pub returns : goal.returns
returns c =
    let g = c.args.graph.now in let x = mem c.args.shore in
    elim c.if-has_odd_sides.branch [
      | then-has_odd_sides w ↦ w.result-is ∙ w.each_has_one.ensures
          ∙ ap (list_all (λ m. edges_in_cut g (mem m) x == 1)) (w.as_slice.ensures ∙ c.in_ok-matchings.ensures.list ∙ ap (λ (xs : List ℕ). perfect_matchings_of g (mem xs)) c.empty.ensures)
          ∙ sym (ap (λ b. b && list_all (λ m. edges_in_cut g (mem m) x == 1) (perfect_matchings_of g none)) (sym c.has_odd_sides.ensures ∙ w.if-has_odd_sides.true)) ∙ is_tight-list g x
      | else-has_odd_sides w ↦ grind arith
    ]
