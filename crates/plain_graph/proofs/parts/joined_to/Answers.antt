use Rattle.allowed_edges.proofs.from_counting.Common.{arith, mem}
use Rattle.plain_graph.proofs.Reaching.{reaches-all, reaches-step}
use Rattle.plain_graph.proofs.parts.joined_to.Goals as goal

pub loop-step-preserved : goal.loop-step-preserved
loop-step-preserved c = grind (arith, reaches-step c.args.graph.now (mem c.args.removed) (mem c.loop-step.reached) c.args.u c.loop-step.step c.loop-step.invariant.joined)

pub returns-clause-joined : goal.returns-clause-joined
returns-clause-joined c v w = grind (arith, reaches-all)
