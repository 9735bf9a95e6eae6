use Rattle.tree_text.proofs.TreeReadBack.{Stands-commented}
use Rattle.tree_text.proofs.laws.tree_comments_law.Goals as goal

pub returns : goal.returns
returns c = Stands-commented
