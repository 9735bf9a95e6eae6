use Rattle.graph_core.proofs.from_counting.Common.{sym, is_odd_remainder}
use Rattle.ear_core.proofs.faults.is_odd.Goals as goal

pub returns : goal.returns
returns c = sym (is_odd_remainder c.args.n)
