use Rattle.std.proofs.Common.{refl}
use Rattle.outside.specs.declared.sink.SinkFailed.{SinkFailed}
use Rattle.front_words.proofs.Sayings.{says_break, says_step}
use Rattle.front_words.proofs.messages.say_fault.Goals as goal

pub returns-in-Ok : goal.returns-in-Ok
returns-in-Ok g c =
    let noted = rw c.some_line.ensures at c.say_noted.ensures in
    says_step {F = SinkFailed} g.K.Sink.written g.K.Sink.writes g.K.Sink.faults _ _ _ _ _ _ _ refl c.in-Ok.ensures noted

pub returns-in-Err : goal.returns-in-Err
returns-in-Err g c = says_break {F = SinkFailed} g.K.Sink.written g.K.Sink.writes g.K.Sink.faults _ _ _ _ _ _ refl c.in-Err.ensures
