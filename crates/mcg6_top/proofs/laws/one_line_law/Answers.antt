use Rattle.mcg6_top.proofs.OneOutput.{alike_each, one_output_each}
use Rattle.mcg6_top.proofs.laws.one_line_law.Goals as goal

pub returns-clause-output : goal.returns-clause-output
returns-clause-output c query fixed = one_output_each query fixed

pub returns-clause-alike : goal.returns-clause-alike
returns-clause-alike c = alike_each
