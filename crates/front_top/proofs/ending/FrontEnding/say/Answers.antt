use Rattle.std.proofs.Common.{Ok}
use Rattle.bench_top.specs.from_outside.declared.sink.SinkFailed.{SinkFailed}
use Rattle.front_words.proofs.Sayings.{says-none}
use Rattle.front_top.proofs.ending.FrontEnding.say.Goals as goal

pub returns-in-Nothing-clause-says : goal.returns-in-Nothing-clause-says
returns-in-Nothing-clause-says g c =
    rw c.in-Nothing.is (record { answer = Ok tt; says = says-none {F = SinkFailed} g.E.Sink.written g.E.Sink.writes g.E.Sink.faults c.args.errors.now })

pub returns-in-Lost-clause-says : goal.returns-in-Lost-clause-says
returns-in-Lost-clause-says g c = rw c.in-Lost.is (record { answer = c.say_lost.result; says = c.say_lost.ensures })

pub returns-in-Ending-clause-says : goal.returns-in-Ending-clause-says
returns-in-Ending-clause-says g c =
    rw c.in-Ending.is (record { answer = c.say_ending.result; says = c.say_ending.ensures })
