use Rattle.std.proofs.Common.{arith}
use Rattle.tree_text.proofs.tree_format.read_node.Goals as goal

pub returns-in-Err : goal.returns-in-Err
returns-in-Err c = grind arith

pub returns : goal.returns
returns c = grind arith
