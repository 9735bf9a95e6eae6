use Rattle.std.proofs.Common.{arith}
use Rattle.move_text.proofs.writing.push_step.Goals as goal

pub returns-in-Kept : goal.returns-in-Kept
returns-in-Kept c = grind arith
