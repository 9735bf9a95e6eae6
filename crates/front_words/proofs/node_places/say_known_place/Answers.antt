use Rattle.std.proofs.Common.{refl}
use Rattle.outside.specs.declared.sink.SinkFailed.{SinkFailed}
use Rattle.front_words.proofs.Sayings.{says-then, says_passed, says_passed_second, says_step}
use Rattle.front_words.proofs.node_places.say_known_place.Goals as goal

pub returns : goal.returns
returns g c =
    says_step {F = SinkFailed} g.K.Sink.written g.K.Sink.writes g.K.Sink.faults _ _ _ _ _ _ _ refl c.in_ok-say.ensures
    (says-then {F = SinkFailed} g.K.Sink.written g.K.Sink.writes g.K.Sink.faults _ _ _ _ _ _ c.in_ok-say_path.ensures c.say_shore.ensures)

pub returns-in_err-say : goal.returns-in_err-say
returns-in_err-say g c = says_passed {F = SinkFailed} g.K.Sink.written g.K.Sink.writes g.K.Sink.faults _ _ _ _ _ _ _ refl c.from_residual.ensures.1 c.in_err-say.ensures

pub returns-in_err-say_path : goal.returns-in_err-say_path
returns-in_err-say_path g c =
    says_passed_second {F = SinkFailed} g.K.Sink.written g.K.Sink.writes g.K.Sink.faults _ _ _ _ _ _ _ _ _ refl c.from_residual-in_err-say_path.ensures.1 c.in_ok-say.ensures c.in_err-say_path.ensures
