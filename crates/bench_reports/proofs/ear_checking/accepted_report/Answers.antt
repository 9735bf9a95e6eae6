use Rattle.move_text.proofs.from_counting.Common.{arith, length-map}
use Rattle.ear_text.specs.from_ear_core.Common.{ears_of, step_of}
use Rattle.bench_outcomes.proofs.EarSteps.{few-steps}
use Rattle.bench_reports.proofs.ear_checking.accepted_report.Goals as goal

pub counts_of-steps-requires : goal.counts_of-steps-requires
counts_of-steps-requires c = grind (arith, few-steps c.args.c.now (ears_of c.args.list.now) c.requires, length-map c.args.list.now.steps step_of)
