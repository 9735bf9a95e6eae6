use Rattle.graph_text.proofs.VersionOneReadBack.{Stands-commented}
use Rattle.graph_text.proofs.laws.graph_comments_law.Goals as goal

pub returns : goal.returns
returns c = Stands-commented
