use Rattle.std.proofs.Common.{◌∙◌, ◌==◌, ap}
use Rattle.ear_core.proofs.FirstFaults.{free-length}
use Rattle.ear_core.proofs.faults.is_free.Goals as goal

pub returns : goal.returns
returns c = ap (λ n. n == 0) c.len.ensures ∙ free-length c.args.inner c.args.taken c.meet.result c.meet.ensures
