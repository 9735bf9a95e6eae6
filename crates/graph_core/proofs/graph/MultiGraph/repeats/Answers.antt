use Rattle.vset_core.proofs.from_counting.Common.{◌-◌, arith, sym, true_some}
use Rattle.graph_core.proofs.Simplicity.{repeats}
use Rattle.graph_core.proofs.graph.MultiGraph.repeats.Goals as goal

pub returns-then-joins_same : goal.returns-then-joins_same
returns-then-joins_same c = sym (true_some (c.args.e - 1) (repeats c.args.self.now c.args.e) c.loop-f.f (omega arith) (sym c.if-joins_same.ensures))
