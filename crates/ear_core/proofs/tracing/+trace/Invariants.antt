use Rattle.graph_core.proofs.from_counting.Common.{count, mem, complement}
use Rattle.ear_core.proofs.tracing.+trace.Given as goal

-- fewer vertices are not used
abbrev pub decreases-trace : goal.decreases-trace
decreases-trace l = count l.g.now.order (complement (mem l.used))
