use Rattle.std.proofs.Common.{arith}
use Rattle.ear_text.proofs.ear_format.read_ear.Goals as goal

pub returns-in-Err : goal.returns-in-Err
returns-in-Err c = grind arith

pub returns : goal.returns
returns c = grind arith
