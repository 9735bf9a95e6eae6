use Rattle.tree_text.proofs.TreeRead.{writable-read}
use Rattle.tree_text.proofs.laws.read_tree_law.Goals as goal

pub returns : goal.returns
returns c = writable-read
