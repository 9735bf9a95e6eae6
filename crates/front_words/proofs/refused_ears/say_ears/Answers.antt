use Rattle.std.proofs.Common.{refl}
use Rattle.outside.specs.declared.sink.SinkFailed.{SinkFailed}
use Rattle.front_words.proofs.Sayings.{says_passed, says_step}
use Rattle.front_words.proofs.refused_ears.say_ears.Goals as goal

pub returns : goal.returns
returns g c = says_step {F = SinkFailed} g.K.Sink.written g.K.Sink.writes g.K.Sink.faults _ _ _ _ _ _ _ refl c.in_ok-say_ears_place.ensures c.say_step_fault.ensures

pub returns-in_err-say_ears_place : goal.returns-in_err-say_ears_place
returns-in_err-say_ears_place g c = says_passed {F = SinkFailed} g.K.Sink.written g.K.Sink.writes g.K.Sink.faults _ _ _ _ _ _ _ refl c.from_residual.ensures.1 c.in_err-say_ears_place.ensures
