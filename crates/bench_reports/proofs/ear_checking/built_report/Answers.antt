use Rattle.move_text.proofs.from_counting.Common.{ℕ, arith, subst₂, sym, length-map}
use Rattle.ear_text.proofs.from_ear_core.Stepping.{list-fits, list-filled}
use Rattle.ear_text.specs.from_ear_core.Common.{FitsEars, ears_of, step_of}
use Rattle.bench_outcomes.proofs.EarSteps.{few-steps}
use Rattle.bench_reports.proofs.ear_checking.built_report.Goals as goal

pub counts_of-steps-requires : goal.counts_of-steps-requires
counts_of-steps-requires c = grind (arith, few-steps c.args.c.now (ears_of c.in_ok-list.list) c.in_ok-list.ensures.list, length-map c.in_ok-list.list.steps step_of)

pub write_ears-requires-clause-fits : goal.write_ears-requires-clause-fits
write_ears-requires-clause-fits c =
    subst₂ (λ (n m : ℕ). FitsEars n m (ears_of c.in_ok-list.list)) (sym c.order-n.ensures.is) (sym c.size-m.ensures.is)
    (list-fits c.args.c.now c.keeps_covered.ensures.limits.multigraph.ends (ears_of c.in_ok-list.list) c.in_ok-list.ensures.list)

pub write_ears-requires-clause-filled : goal.write_ears-requires-clause-filled
write_ears-requires-clause-filled c = list-filled c.args.c.now (ears_of c.in_ok-list.list) c.in_ok-list.ensures.list
