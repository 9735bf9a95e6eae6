use Rattle.report_text.proofs.CommentLines.{names-commented}
use Rattle.report_text.proofs.laws.names_comments_law.Goals as goal

pub returns : goal.returns
returns c = names-commented
