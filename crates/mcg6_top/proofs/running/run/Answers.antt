use Rattle.std.proofs.Common.{subst, sym, Some, None}
use Rattle.mcg6_top.specs.Common.{ListRuns}
use Rattle.mcg6_top.specs.declared.status.ListStatus.{ListStatus}
use Rattle.mcg6_top.proofs.Ended.{runs_by_status}
use Rattle.mcg6_top.proofs.running.run.Goals as goal

pub returns-in-Some : goal.returns-in-Some
returns-in-Some g c =
    subst (λ (s : ListStatus). ListRuns g.S.Source.left g.S.Source.faults g.S.Source.reads g.K.Sink.written g.K.Sink.writes g.K.Sink.faults c.args.line.now s
    c.args.source.now c.run_to_ending.new.source c.args.sink.now c.run_to_ending.new.sink)
    (sym c.status_of.ensures)
    (runs_by_status g.S.Source.left g.S.Source.faults g.S.Source.reads g.K.Sink.written g.K.Sink.writes g.K.Sink.faults c.args.line.now (Some c.in-Some.end) _ _ _ _ c.in-Some.ensures)

pub returns-in-None : goal.returns-in-None
returns-in-None g c =
    runs_by_status g.S.Source.left g.S.Source.faults g.S.Source.reads g.K.Sink.written g.K.Sink.writes g.K.Sink.faults c.args.line.now None _ _ _ _ c.in-None.ensures
