use Rattle.allowed_edges.proofs.ListedBases.{edge_held}
use Rattle.allowed_edges.proofs.bases.holds.Goals as goal

pub returns-then-row-e : goal.returns-then-row-e
returns-then-row-e c = λ _. edge_held c.args.m.now.rows c.loop-i.i c.row.result c.args.e c.row.ensures c.if-row-e.true
