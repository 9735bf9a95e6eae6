use Rattle.std.proofs.Common.{ap, arith}
use Rattle.tree_core.proofs.Common.{shape_of}
use Rattle.uncross.proofs.ExposedShores.{brought_no_leaf}
use Rattle.uncross.proofs.comparing.bring.Goals as goal

pub unreachable-requires : goal.unreachable-requires
unreachable-requires c = brought_no_leaf c.args.p.now.graph c.args.p.now.blocks (shape_of c.args.tree) c.args.shore (shape_of c.in_ok-tree.field-0.tree) c.in_ok-tree.field-0.moves c.in_ok-tree.ensures (ap shape_of c.in-Leaf.is)

pub returns-clause-brought : goal.returns-clause-brought
returns-clause-brought c = grind arith
