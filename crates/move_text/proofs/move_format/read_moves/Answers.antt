use Rattle.tree_text.proofs.from_tree_core.Common.{moves_of}
use Rattle.move_text.proofs.MovesRead.{all-read}
use Rattle.move_text.proofs.move_format.read_moves.Goals as goal

pub returns-clause-writable : goal.returns-clause-writable
returns-clause-writable c = all-read c.args.n c.args.bytes.now moves_of c.read_text.result c.requires.order c.read_text.ensures.value
