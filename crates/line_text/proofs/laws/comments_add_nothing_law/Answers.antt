use Rattle.line_text.proofs.ReadBack.{significant_lines_of-comments}
use Rattle.line_text.proofs.laws.comments_add_nothing_law.Goals as goal

pub returns : goal.returns
returns c = significant_lines_of-comments
