use Rattle.std.proofs.Common.{rules}
use Rattle.line_text.proofs.LineCuts.{position_or_len-from_position}
use Rattle.line_text.proofs.lines.line_len.Goals as goal

pub returns-clause-len : goal.returns-clause-len
returns-clause-len c = search (rules, position_or_len-from_position)
