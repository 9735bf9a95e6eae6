use Rattle.std.proofs.Common.{refl}
use Rattle.outside.specs.declared.sink.SinkFailed.{SinkFailed}
use Rattle.front_words.proofs.Sayings.{says_passed, says_step}
use Rattle.front_words.proofs.refused_trees.say_node.Goals as goal

pub returns : goal.returns
returns g c = let said = rw c.node_words.ensures at c.say.ensures in
    says_step {F = SinkFailed} g.K.Sink.written g.K.Sink.writes g.K.Sink.faults _ _ _ _ _ _ _ refl c.in_ok-say_place.ensures said

pub returns-in_err-say_place : goal.returns-in_err-say_place
returns-in_err-say_place g c = says_passed {F = SinkFailed} g.K.Sink.written g.K.Sink.writes g.K.Sink.faults _ _ _ _ _ _ _ refl c.from_residual.ensures.1 c.in_err-say_place.ensures
