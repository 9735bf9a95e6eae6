use Rattle.std.proofs.Common.{rules, ◌≡◌, [], Option, Some, None, arith}
use Rattle.two_ears.specs.from_match_search.Common.{marks}
use Rattle.ear_core.specs.Common.{PlainWhy, ear_fault, step_fault, ear_of, step_of, why_of}
use Rattle.ear_core.proofs.Marking.{pair-fault}
use Rattle.ear_core.proofs.steps.fault_of.Goals as goal
use Rattle.ear_core.proofs.steps.fault_of.Goals.{After-as_slice-used}

-- the fault of the second ear is that of the step
second_fault : (c : After-as_slice-used) (fault : Option PlainWhy) → ear_fault c.args.g.now (marks c.args.marked.now.mark.items) c.in-Ok.path.inner c.as_slice-used.result.now c.in-Some.second.«from» c.in-Some.second.edges ≡ fault →
    step_fault c.args.g.now (marks c.args.marked.now.mark.items) (step_of c.args.step.now) ≡ fault
second_fault c fault is =
    let g = c.args.g.now in
    let f = marks c.args.marked.now.mark.items in
    let first = c.args.step.now.first in
    let passes : ear_fault g f [] [] first.«from» first.edges ≡ None = search rules in
    grind (arith, pair-fault g f (ear_of first) (ear_of c.in-Some.second) c.in-Ok.path.inner c.as_slice-used.result.now fault passes c.in-Ok.ensures.inner c.as_slice-used.ensures is)

pub returns-in-Err-tested-clause-some : goal.returns-in-Err-tested-clause-some
returns-in-Err-tested-clause-some c = second_fault (goal.at.returns-in-Err-tested-clause-some c).After-as_slice-used (Some (why_of c.in-Err-tested.why)) c.in-Err-tested.ensures.fault

pub returns-in-Ok-tested-clause-none : goal.returns-in-Ok-tested-clause-none
returns-in-Ok-tested-clause-none c = second_fault (goal.at.returns-in-Ok-tested-clause-none c).After-as_slice-used None c.in-Ok-tested.ensures.passes
