use Rattle.std.proofs.Common.{◌+◌, ◌-◌}
use Rattle.outside.specs.declared.sink.SinkFailed.{SinkFailed}
use Rattle.front_words.specs.NodePlaces.{letters_text}
use Rattle.front_words.proofs.Sayings.{IsSaying}
use Rattle.front_words.proofs.node_places.say_letters.Given as goal

abbrev pub invariant-saying : goal.invariant-saying
invariant-saying g l =
    IsSaying g.K.Sink.written g.K.Sink.writes g.K.Sink.faults SinkFailed (letters_text l.fn.merged 1 l.fn.depth) (letters_text l.fn.merged (l.before + 1) (l.fn.depth - l.before)) l.fn.sink l.sink
