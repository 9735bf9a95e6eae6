use Rattle.tree_core.proofs.Common.{shape_of}
use Rattle.tree_text.proofs.TreeRead.{all-read}
use Rattle.tree_text.proofs.tree_format.read_tree.Goals as goal

pub returns-clause-writable : goal.returns-clause-writable
returns-clause-writable c = all-read c.args.n c.args.bytes.now shape_of c.read_text.result c.requires.order c.read_text.ensures.value
