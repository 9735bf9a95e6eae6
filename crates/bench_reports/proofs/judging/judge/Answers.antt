use Rattle.bench_outcomes.specs.from_bench_tasks.Common.{task_of}
use Rattle.bench_reports.proofs.Reported.{all-good, all-may, all-reported}
use Rattle.bench_reports.proofs.judging.judge.Goals as goal

pub returns-clause-reported : goal.returns-clause-reported
returns-clause-reported c = all-reported (task_of c.args.task) c.report_of.result c.report_of.ensures.gives

pub returns-clause-refuses : goal.returns-clause-refuses
returns-clause-refuses c = all-may (task_of c.args.task) c.report_of.result c.report_of.ensures.gives

pub returns-clause-never_bad : goal.returns-clause-never_bad
returns-clause-never_bad c = all-good (task_of c.args.task) c.report_of.result c.report_of.ensures.gives
