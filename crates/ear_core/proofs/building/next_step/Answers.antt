use Rattle.graph_core.proofs.from_counting.Common.{IfOk-weaker, mem, Set}
use Rattle.two_ears.specs.from_match_core.Common.{edges_of}
use Rattle.two_ears.specs.from_match_search.Common.{marks}
use Rattle.ear_core.specs.Common.{IsPerfectRows, IsForced, IsSingle, LeadsAtTwo, step_of}
use Rattle.ear_core.proofs.LoneLeads.{lone-leads}
use Rattle.ear_core.proofs.LoneMatchings.{none-forced, single-forced}
use Rattle.ear_core.proofs.Searching.{at-none, at-some}
use Rattle.ear_core.proofs.Stepping.{led-out}
use Rattle.ear_core.proofs.building.next_step.Goals as goal
use Rattle.ear_core.proofs.building.next_step.Goals.{In-Some-2}

pub step_by-requires-clause-leads : goal.step_by-requires-clause-leads
step_by-requires-clause-leads c =
    let m = c.in-Some.leading in
    let same = c.graph-g.ensures.same in
    led-out c.graph-g.result.now (rw (← same) at c.keeps_covered.ensures.limits.multigraph.ends) (marks c.args.mark.now) m (record { of = c.in_ok-leading.ensures.of m c.in-Some.is; perfect = c.in_ok-leading.ensures.perfect m c.in-Some.is })
    c.args.edge (rw (← same) at c.requires.edge) (c.in_ok-leading.ensures.holds m c.in-Some.is) c.requires.off (rw (← same) at c.requires.leads)

-- where the lone matching leads out
two : (c : In-Some-2) → LeadsAtTwo c.graph-g.result.now (marks c.args.mark.now) (mem (edges_of c.in-Some-2.lone))
two c = at-some c.in_ok-lone.field-0 c.in-Some-2.lone (λ m. LeadsAtTwo c.graph-g.result.now (marks c.args.mark.now) (mem (edges_of m))) c.in-Some-2.is c.in_ok-lone.ensures.two

pub step_by-requires-in-Some-2-clause-leads : goal.step_by-requires-in-Some-2-clause-leads
step_by-requires-in-Some-2-clause-leads c =
    let there = (goal.at.step_by-requires-in-Some-2-clause-leads c).In-Some-2 in
    let g = c.graph-g.result.now in
    lone-leads g (rw (← c.graph-g.ensures.same) at c.keeps_covered.ensures.limits.multigraph.ends) (marks c.args.mark.now) c.in-Some-2.lone
    (at-some c.in_ok-lone.field-0 c.in-Some-2.lone (IsPerfectRows g) c.in-Some-2.is c.in_ok-lone.ensures.rows) (two there)

pub returns-in-Some-2-clause-forced : goal.returns-in-Some-2-clause-forced
returns-in-Some-2-clause-forced c =
    let there = (goal.at.returns-in-Some-2-clause-forced c).In-Some-2 in
    let f = marks c.args.mark.now in
    IfOk-weaker c.step_by-in-Some-2.result (λ step. IsSingle (step_of step)) (λ step. IsForced c.args.c.now f (step_of step)) (λ step single. single-forced c.args.c.now f (step_of step) single)
    (c.step_by-in-Some-2.ensures.lone (two there))

pub returns-clause-forced : goal.returns-clause-forced
returns-clause-forced c =
    let g = c.args.c.now in
    let f = marks c.args.mark.now in
    none-forced g c.keeps_covered.ensures.limits.multigraph c.keeps_covered.ensures.covered f c.requires.stage
    (at-none c.in_ok-lone.field-0 ((m : Set) → LeadsAtTwo g f m → ⊥) c.in-None.is (rw c.graph-g.ensures.same at c.in_ok-lone.ensures.none)) (step_of c.in_ok-step.step)

pub returns-clause-mates : goal.returns-clause-mates
returns-clause-mates c = rw (← c.graph-g.ensures.same) c.in_ok-step.ensures.mates

pub returns-clause-single : goal.returns-clause-single
returns-clause-single c = rw (← c.graph-g.ensures.same) c.in_ok-step.ensures.single

pub returns-in-Some-2-clause-mates : goal.returns-in-Some-2-clause-mates
returns-in-Some-2-clause-mates c = rw (← c.graph-g.ensures.same) c.step_by-in-Some-2.ensures.mates

pub returns-in-Some-2-clause-single : goal.returns-in-Some-2-clause-single
returns-in-Some-2-clause-single c = rw (← c.graph-g.ensures.same) c.step_by-in-Some-2.ensures.single

pub returns-then-is_single-clause-mates : goal.returns-then-is_single-clause-mates
returns-then-is_single-clause-mates c = rw (← c.graph-g.ensures.same) c.in_ok-step.ensures.mates
