use Rattle.mcg6_encoder.specs.from_outside.declared.sink.SinkFailed.{SinkFailed}
use Rattle.front_words.proofs.Sayings.{says-none}
use Rattle.mcg6_front_top.proofs.speaking.say_nothing.Goals as goal

pub returns : goal.returns
returns g c = says-none {F = SinkFailed} g.E.Sink.written g.E.Sink.writes g.E.Sink.faults c.args._errors.now
