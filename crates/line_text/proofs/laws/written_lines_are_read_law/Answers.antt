use Rattle.line_text.proofs.ReadBack.{significant_lines_of-written}
use Rattle.line_text.proofs.laws.written_lines_are_read_law.Goals as goal

pub returns : goal.returns
returns c = significant_lines_of-written
