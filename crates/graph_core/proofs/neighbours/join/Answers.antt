use Rattle.std.proofs.Common.{◌∙◌}
use Rattle.graph_core.proofs.OneMoreEdge.{rows-with_edge}
use Rattle.graph_core.proofs.neighbours.join.Goals as goal

pub returns : goal.returns
returns c = λ g are.
    rows-with_edge g c.args.rows.now c.add_arc.new.rows c.add_arc-2.new.rows c.args.a c.args.b are
    c.add_arc.auto.rows (c.add_arc-2.auto.rows ∙ c.add_arc.auto.rows) c.add_arc.ensures c.add_arc-2.ensures
