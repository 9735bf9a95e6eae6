use Rattle.allowed_edges.proofs.from_counting.Common.{sym, ◌∙◌, arith, subst, IsRisingIn, mem}
use Rattle.graph_core.proofs.Common.{size}
use Rattle.plain_graph.proofs.Tries.{greatest-longer, greatest-same, matching_of-none}
use Rattle.plain_graph.proofs.matchings.greatest_among.Goals as goal
use Rattle.plain_graph.proofs.matchings.greatest_among.Goals.{then-is_matching, else-is_matching}

pub loop-edges-init : goal.loop-edges-init
loop-edges-init c = record { reached = matching_of-none c.args.graph.now (mem c.args.removed); greatest = λ k d l. absurd (omega arith) }

pub loop-edges-preserved : goal.loop-edges-preserved
loop-edges-preserved c =
    let g = c.args.graph.now in let r = mem c.args.removed in
    let sets = c.args.sets.now in let i = c.loop-edges.edges-index in let edges = c.edges-item.result in
    elim c.if-is_matching.branch [
      | then-is_matching w ↦
          let rises = subst (IsRisingIn (size g)) (sym c.edges-item.is) (c.requires.edges i edges c.loop-edges-test.true) in
          grind (arith, greatest-longer g r sets i c.loop-edges.most edges c.loop-edges-test.true c.edges-item.is rises (sym c.is_matching.ensures ∙ w.if-is_matching.true) c.loop-edges.invariant)
      | else-is_matching w ↦ grind (arith, greatest-same)
    ]
