use Rattle.vset_core.proofs.from_counting.Common.{arith, sym, false≢true, cases_eq}
use Rattle.graph_core.proofs.Simplicity.{simple_from_no_repeat, no_repeat_from_simple}
use Rattle.graph_core.proofs.graph.MultiGraph.simple.Goals as goal

pub returns-then-repeats : goal.returns-then-repeats
returns-then-repeats c = (λ t. absurd (false≢true t), λ s. absurd (no_repeat_from_simple c.args.self.now c.loop-e.e s (omega arith) (sym c.if-repeats.ensures)))

pub returns-else-repeats : goal.returns-else-repeats
returns-else-repeats c = grind (arith, simple_from_no_repeat c.args.self.now, cases_eq)
