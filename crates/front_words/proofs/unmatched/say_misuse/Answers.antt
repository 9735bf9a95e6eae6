use Rattle.std.proofs.Common.{refl}
use Rattle.outside.specs.declared.sink.SinkFailed.{SinkFailed}
use Rattle.front_words.proofs.Sayings.{says_break, says_step}
use Rattle.front_words.proofs.unmatched.say_misuse.Goals as goal

pub returns-in-Ok : goal.returns-in-Ok
returns-in-Ok g c =
    let said = rw (c.why_unmatched-reason.ensures, c.as_bytes.ensures.value, c.rows-rows.ensures, c.name.ensures) at c.in-Ok.ensures in
    let behind = rw (c.why_unmatched-reason.ensures, c.rows-rows.ensures) at c.say_behind.ensures in
    says_step {F = SinkFailed} g.K.Sink.written g.K.Sink.writes g.K.Sink.faults _ _ _ _ _ _ _ refl said behind

pub returns-in-Err : goal.returns-in-Err
returns-in-Err g c =
    let said = rw (c.why_unmatched-reason.ensures, c.as_bytes.ensures.value, c.rows-rows.ensures, c.name.ensures) at c.in-Err.ensures in
    says_break {F = SinkFailed} g.K.Sink.written g.K.Sink.writes g.K.Sink.faults _ _ _ _ _ _ refl said
