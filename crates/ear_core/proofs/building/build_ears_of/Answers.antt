use Rattle.graph_core.proofs.from_counting.Common.{map, refl, subst, sym, fun_ext, Set}
use Rattle.ear_core.specs.Common.{row_edge, KeepsMates, AreForced, AreNeeded, AreSteps, IsEarList, PlainEars, is_met, ears_of, step_of}
use Rattle.ear_core.proofs.FirstStage.{first-stage}
use Rattle.ear_core.proofs.Judging.{one-stage}
use Rattle.ear_core.proofs.Stepping.{first-keeps, list-fits, list-filled}
use Rattle.ear_core.proofs.building.build_ears_of.Goals as goal

pub steps_from-requires-clause-stage : goal.steps_from-requires-clause-stage
steps_from-requires-clause-stage c =
    one-stage c.args.c.now c.keeps_covered.ensures.limits.multigraph _ 1 c.in_ok-kept.ensures.edge c.in_ok-marked.ensures.each

pub steps_from-requires-clause-mates : goal.steps_from-requires-clause-mates
steps_from-requires-clause-mates c =
    let g = c.args.c.now in
    subst (λ (f : Set). KeepsMates g (row_edge c.in_ok-kept.kept.rows) (is_met g f)) (sym (fun_ext c.in_ok-marked.ensures.each))
    (first-keeps g c.keeps_covered.ensures.limits.multigraph c.in_ok-kept.kept c.in_ok-kept.ensures.perfect 1 c.in_ok-kept.ensures.edge c.in_ok-kept.ensures.holds)

pub returns : goal.returns
returns c =
    let g = c.args.c.now in
    let steps = c.in_ok-steps.steps in
    let same = fun_ext c.in_ok-marked.ensures.each in
    let list : PlainEars = ears_of (record { start = 1; steps = steps }) in
    let ears : IsEarList g list = record {
      start = c.in_ok-kept.ensures.edge;
      first_stage = first-stage g c.keeps_covered.ensures.limits.multigraph 1 c.in_ok-kept.ensures.edge;
      steps = subst (λ (f : Set). AreSteps g f (map step_of steps)) same c.in_ok-steps.ensures.steps;
    } in
    record {
      list = ears;
      start = refl;
      fits = list-fits g c.keeps_covered.ensures.limits.multigraph.ends list ears;
      filled = list-filled g list ears;
      unrefinable = subst (λ (f : Set). AreNeeded g f (map step_of steps)) same c.in_ok-steps.ensures.needed;
      singles = subst (λ (f : Set). AreForced g f (map step_of steps)) same c.in_ok-steps.ensures.forced;
      single = c.in_ok-steps.ensures.single;
    }
