use Rattle.std.proofs.Common.{arith}
use Rattle.vset_core.proofs.Ends.{all_bits, mem-all_bits, no_bits, mem-no_bits}
use Rattle.vset_core.proofs.vertex_set.VSet.full.Goals as goal

pub returns-then-n-eq0-clause-list : goal.returns-then-n-eq0-clause-list
returns-then-n-eq0-clause-list c = no_bits c.args.n (omega arith)

pub returns-then-n-eq0-clause-members : goal.returns-then-n-eq0-clause-members
returns-then-n-eq0-clause-members c = mem-no_bits c.args.n (omega arith)

pub returns-clause-list : goal.returns-clause-list
returns-clause-list c = all_bits c.args.n c.requires

pub returns-clause-members : goal.returns-clause-members
returns-clause-members c = mem-all_bits c.args.n c.requires
