use Rattle.outside.specs.declared.sink.SinkFailed.{SinkFailed}
use Rattle.front_words.proofs.OtherShores.{known-shore}
use Rattle.front_words.proofs.Sayings.{says_break, says_step}
use Rattle.front_words.proofs.shores.say_other_shore.Goals as goal

pub returns-in-Ok : goal.returns-in-Ok
returns-in-Ok g c =
    says_step {F = SinkFailed} g.K.Sink.written g.K.Sink.writes g.K.Sink.faults _ _ _ _ _ _ _
    (known-shore c.args.line.now c.args.order c.is_cut.result c.leaves_some.result c.is_cut.ensures c.leaves_some.ensures c.if-not-is_cut.false c.if-not-leaves_some.false)
    c.in-Ok.ensures c.say_shore.ensures

pub returns-in-Err : goal.returns-in-Err
returns-in-Err g c =
    says_break {F = SinkFailed} g.K.Sink.written g.K.Sink.writes g.K.Sink.faults _ _ _ _ _ _
    (known-shore c.args.line.now c.args.order c.is_cut.result c.leaves_some.result c.is_cut.ensures c.leaves_some.ensures c.if-not-is_cut.false c.if-not-leaves_some.false)
    c.in-Err.ensures
