use Rattle.std.proofs.Common.{Option, None, subst}
use Rattle.bench_reports.specs.from_bench_tasks.Common.{Command}
use Rattle.bench_reports.specs.from_bench_outcomes.declared.status.Status.TheVariants.{Usage}
use Rattle.bench_top.specs.Runs.{RunsTo}
use Rattle.bench_top.proofs.RunsMade.{usage-runs}
use Rattle.bench_top.proofs.running.run_by.Goals as goal

pub returns-in-Some : goal.returns-in-Some
returns-in-Some g c =
    let ended = c.perform.result in
    subst (λ (row : Option Command). RunsTo g.S.Shelf.files g.S.Shelf.steady g.S.Shelf.faults g.S.Shelf.reads g.R.Reasons.reason g.K.Sink.written g.K.Sink.writes g.K.Sink.faults row ended.status ended.stop ended.refusal
    c.args.shelf.now c.perform.new.shelf c.args.sink.now c.perform.new.sink) c.in-Some.ensures c.perform.ensures

pub returns-in-None : goal.returns-in-None
returns-in-None g c =
    subst (λ (row : Option Command). RunsTo g.S.Shelf.files g.S.Shelf.steady g.S.Shelf.faults g.S.Shelf.reads g.R.Reasons.reason g.K.Sink.written g.K.Sink.writes g.K.Sink.faults row Usage None None
    c.args.shelf.now c.args.shelf.now c.args.sink.now c.args.sink.now) c.in-None.ensures
    (usage-runs g.S.Shelf.files g.S.Shelf.steady g.S.Shelf.faults g.S.Shelf.reads g.R.Reasons.reason g.K.Sink.written g.K.Sink.writes g.K.Sink.faults c.args.shelf.now c.args.sink.now)
