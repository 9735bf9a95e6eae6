use Rattle.allowed_edges.proofs.from_counting.Common.{mem}
use Rattle.plain_graph.proofs.OddSides.{odd_sides-none, odd_sides-rest}
use Rattle.plain_graph.proofs.cuts.has_odd_sides.Goals as goal

pub returns-then-inside-eq1 : goal.returns-then-inside-eq1
returns-then-inside-eq1 c = odd_sides-rest c.args.graph.now.order c.vertices_in-inside.result c.order.result (mem c.args.shore) c.vertices_in-inside.ensures.is c.order.ensures.is c.if-inside-eq1.true

pub returns-else-inside-eq1 : goal.returns-else-inside-eq1
returns-else-inside-eq1 c = odd_sides-none c.args.graph.now.order c.vertices_in-inside.result (mem c.args.shore) c.vertices_in-inside.ensures.is c.if-inside-eq1.false
