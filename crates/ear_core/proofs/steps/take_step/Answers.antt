use Rattle.graph_core.proofs.from_counting.Common.{◌≡◌, ◌∙◌, ap, inr, refl, subst, sym, Bool, List, None, ℕ, fun_ext, none}
use Rattle.graph_core.proofs.Common.{size}
use Rattle.two_ears.specs.from_match_search.Common.{marks}
use Rattle.ear_core.specs.Common.{IsAskedBefore, Settled, ear_of, next_stage, step_fault, step_of}
use Rattle.ear_core.proofs.MatchedStages.{asked-on, first-ear-fits}
use Rattle.ear_core.proofs.Refusing.{step-none}
use Rattle.ear_core.proofs.Searching.{at-none}
use Rattle.ear_core.proofs.Taking.{first_marked, second_marked, step-taken, step-refused}
use Rattle.ear_core.proofs.steps.take_step.Goals as goal
use Rattle.ear_core.proofs.steps.take_step.Goals.{In_default}

-- the step passes its tests
passed : (c : In_default) → step_fault c.args.g.now (marks c.args.marked.now.mark.items) (step_of c.args.step.now) ≡ None
passed c = at-none c.fault_of.result (step_fault c.args.g.now (marks c.args.marked.now.mark.items) (step_of c.args.step.now) ≡ None) c.in_default.is c.fault_of.ensures.none

pub returns-then-known-clause-taken : goal.returns-then-known-clause-taken
returns-then-known-clause-taken c =
    let f = marks c.args.marked.now.mark.items in
    let s = step_of c.args.step.now in
    let passes = passed (goal.at.returns-then-known-clause-taken c).In_default in
    (passes, c.in_ok-known.ensures.known c.if-known.true f c.requires.asked c.requires.stage (step-none c.args.g.now f s passes) c.add.ensures.each, c.add.ensures.each)

pub returns-then-known-clause-asked : goal.returns-then-known-clause-asked
returns-then-known-clause-asked c =
    let g = c.args.g.now in
    let f = marks c.args.marked.now.mark.items in
    let s = step_of c.args.step.now in
    let new = marks c.add.new.self.mark.items in
    subst (IsAskedBefore g new) (sym c.in_ok-known.ensures.same)
    (asked-on g f new c.args.stage.now s c.requires.asked (step-none g f s (passed (goal.at.returns-then-known-clause-asked c).In_default)) (fun_ext c.add.ensures.each))

pub refused_edge-requires-clause-first : goal.refused_edge-requires-clause-first
refused_edge-requires-clause-first c =
    let g = c.args.g.now in
    let step = c.args.step.now in
    (first-ear-fits g.order (size g) (ear_of step.first) step.second c.requires.fits).1

pub refused_edge-requires-clause-marked_first : goal.refused_edge-requires-clause-marked_first
refused_edge-requires-clause-marked_first c =
    let step = c.args.step.now in
    first_marked (marks c.args.marked.now.mark.items) (marks c.deref-2.result.now) step.first step.second (λ i. ap (λ (items : List Bool). marks items i) c.deref-2.ensures.value ∙ c.add.ensures.each i)

pub refused_edge-requires-clause-marked_second : goal.refused_edge-requires-clause-marked_second
refused_edge-requires-clause-marked_second c =
    let step = c.args.step.now in
    second_marked (marks c.args.marked.now.mark.items) (marks c.deref-2.result.now) step.first step.second (λ i. ap (λ (items : List Bool). marks items i) c.deref-2.ensures.value ∙ c.add.ensures.each i)

pub returns-in-Some-2-clause-taken : goal.returns-in-Some-2-clause-taken
returns-in-Some-2-clause-taken c =
    let f = marks c.args.marked.now.mark.items in
    let s = step_of c.args.step.now in
    let passes = passed (goal.at.returns-in-Some-2-clause-taken c).In_default in
    let new = marks c.deref-2.result.now in
    let same : (i : ℕ) → new i ≡ next_stage f s i = λ i. ap (λ (items : List Bool). marks items i) c.deref-2.ensures.value ∙ c.add.ensures.each i in
    inr (passes, (c.in-Some-2.edge, step-refused c.args.g.now c.keeps_limits.ensures.multigraph.ends f s new same c.requires.stage passes c.in-Some-2.edge (subst (Settled c.args.g.now new (next_stage none s)) c.in-Some-2.is c.in_ok-edge.ensures.settled), refl))

pub returns-in-None-clause-taken : goal.returns-in-None-clause-taken
returns-in-None-clause-taken c =
    let f = marks c.args.marked.now.mark.items in
    let s = step_of c.args.step.now in
    let passes = passed (goal.at.returns-in-None-clause-taken c).In_default in
    let new = marks c.deref-2.result.now in
    let same : (i : ℕ) → new i ≡ next_stage f s i = λ i. ap (λ (items : List Bool). marks items i) c.deref-2.ensures.value ∙ c.add.ensures.each i in
    (passes, step-taken c.args.g.now c.keeps_limits.ensures.multigraph.ends f s new same c.requires.stage passes (subst (Settled c.args.g.now new (next_stage none s)) c.in-None.is c.in_ok-edge.ensures.settled), c.add.ensures.each)
