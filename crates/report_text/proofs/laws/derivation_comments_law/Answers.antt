use Rattle.report_text.proofs.CommentLines.{derivation-commented}
use Rattle.report_text.proofs.laws.derivation_comments_law.Goals as goal

pub returns : goal.returns
returns c = derivation-commented
