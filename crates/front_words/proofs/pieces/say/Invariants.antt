use Rattle.std.proofs.Common.{drop}
use Rattle.outside.specs.declared.sink.SinkFailed.{SinkFailed}
use Rattle.front_words.specs.Pieces.{pieces_text}
use Rattle.front_words.proofs.Sayings.{IsSaying}
use Rattle.front_words.proofs.pieces.say.Given as goal

abbrev pub invariant-saying : goal.invariant-saying
invariant-saying g l =
    IsSaying g.K.Sink.written g.K.Sink.writes g.K.Sink.faults SinkFailed (pieces_text l.pieces) (pieces_text (drop l.piece-index l.pieces)) l.fn.sink l.sink
