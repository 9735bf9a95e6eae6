use Rattle.graph_core.proofs.from_counting.Common.{rules, ◌≡◌, ◌∷◌, ap, arith, subst, map, None, count_le}
use Rattle.graph_core.proofs.Common.{size}
use Rattle.two_ears.specs.from_match_search.Common.{marks}
use Rattle.ear_core.specs.Common.{IsAskedBefore, IsTaken, step_of}
use Rattle.ear_core.proofs.FirstStage.{stage-counts}
use Rattle.ear_core.proofs.Searching.{at-none}
use Rattle.ear_core.proofs.Judging.{taken-stage, taken-adds, judged-behind}
use Rattle.ear_core.proofs.checking.check_steps.Goals as goal

pub steps-init : goal.steps-init
steps-init c = grind (arith, stage-counts c.args.g.now (marks c.args.marked.now.mark.items) c.requires.stage)

pub overflow_add-number : goal.overflow_add-number
overflow_add-number c = grind (arith, count_le (size c.args.g.now) (marks c.steps.marked.mark.items))

pub steps-preserved : goal.steps-preserved
steps-preserved c =
    let g = c.args.g.now in
    let f = marks c.steps.marked.mark.items in
    let s = step_of c.in-Some.step.now in
    let begins : map step_of c.steps.rest.now ≡ s ∷ map step_of c.in-Some.others.now = ap (map step_of) c.in-Some.ensures.cases.0 in
    let none : c.in_ok-why.field-0 ≡ None = search rules in
    let taken = subst (IsTaken g f s (marks c.take_step.new.marked.mark.items)) none c.in_ok-why.ensures.taken in
    let passes = taken.0 in
    let stage = taken.1 in
    let same = taken.2 in
    let new = marks c.take_step.new.marked.mark.items in
    let more = taken-adds g f new s passes stage same in
    let few = c.steps.invariant.few in
    let asked = at-none c.in_ok-why.field-0 (IsAskedBefore g new c.take_step.new.stage) none c.in_ok-why.ensures.asked in
    grind (arith, taken-stage g f new s passes stage same, judged-behind g f new s passes stage same c.steps.number (map step_of c.steps.rest.now) (map step_of c.in-Some.others.now) begins)

pub returns-in-Some-2 : goal.returns-in-Some-2
returns-in-Some-2 c = grind arith
