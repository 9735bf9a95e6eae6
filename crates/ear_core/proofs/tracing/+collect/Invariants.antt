use Rattle.graph_core.proofs.from_counting.Common.{count, mem, complement}
use Rattle.ear_core.proofs.tracing.+collect.Given as goal

-- fewer vertices are not used
abbrev pub decreases-collect : goal.decreases-collect
decreases-collect l = count l.g.now.order (complement (mem l.used))
