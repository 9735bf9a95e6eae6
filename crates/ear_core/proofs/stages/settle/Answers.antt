use Rattle.std.proofs.Common.{rules, arith}
use Rattle.ear_core.proofs.Settling.{settled-known, settled-allowed}
use Rattle.ear_core.proofs.stages.settle.Goals as goal

pub returns-then-is_up_to-clause-settled : goal.returns-then-is_up_to-clause-settled
returns-then-is_up_to-clause-settled c = λ f done is on known. settled-known c.args.g.now f done c.args.known c.args.e (c.is_up_to.ensures.yes (search rules)) known

pub returns-then-branch-clause-settled : goal.returns-then-branch-clause-settled
returns-then-branch-clause-settled c = λ f done is on known. settled-allowed c.args.g.now f done c.args.known c.args.e (c.in_ok-is_allowed_by.ensures.yes f is on (search rules)) known

pub returns-else-branch-clause-settled : goal.returns-else-branch-clause-settled
returns-else-branch-clause-settled c = grind arith
