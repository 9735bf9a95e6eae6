use Rattle.std.proofs.Common.{arith, ◌-◌}
use Rattle.vset_core.proofs.SingleBits.{powers, power_at}
use Rattle.vset_core.proofs.bits.bit.Goals as goal

pub returns : goal.returns
unfolding powers
returns c = power_at (c.args.v - 1) (omega arith)
