use Rattle.flow_core.specs.Common.{ListsArcs}
use Rattle.flow_core.proofs.incidence.Incidence.new.Given as goal

abbrev pub invariant-loop-i : goal.invariant-loop-i
invariant-loop-i l = ListsArcs l.net l.i l.incidence
