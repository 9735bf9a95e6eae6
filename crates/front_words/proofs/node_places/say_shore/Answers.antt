use Rattle.std.proofs.Common.{refl}
use Rattle.outside.specs.declared.sink.SinkFailed.{SinkFailed}
use Rattle.front_words.proofs.Sayings.{says_passed, says_step}
use Rattle.front_words.proofs.node_places.say_shore.Goals as goal

pub returns : goal.returns
returns g c = rw c.in-Some.is (says_step {F = SinkFailed} g.K.Sink.written g.K.Sink.writes g.K.Sink.faults _ _ _ _ _ _ _ refl c.in_ok-say.ensures c.say_numbers.ensures)

pub returns-in_err-say : goal.returns-in_err-say
returns-in_err-say g c =
    rw c.in-Some.is (says_passed {F = SinkFailed} g.K.Sink.written g.K.Sink.writes g.K.Sink.faults _ _ _ _ _ _ _ refl c.from_residual.ensures.1 c.in_err-say.ensures)
