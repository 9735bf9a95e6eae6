use Rattle.tree_core.proofs.moves.apply.Goals as goal

pub returns-in-Switch-clause-stuck : goal.returns-in-Switch-clause-stuck
returns-in-Switch-clause-stuck c = rw c.in-Switch.is c.switch.ensures.stuck
