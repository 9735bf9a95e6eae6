use Rattle.std.proofs.Common.{length}
use Rattle.outside.specs.declared.sink.SinkFailed.{SinkFailed}
use Rattle.front_words.specs.Showing.{begin_shown}
use Rattle.front_words.proofs.Sayings.{IsSaying}
use Rattle.front_words.proofs.showing.say_begin.Given as goal

abbrev pub invariant-showing : goal.invariant-showing
invariant-showing g l =
    IsSaying g.K.Sink.written g.K.Sink.writes g.K.Sink.faults SinkFailed (begin_shown l.most l.text) (begin_shown l.left l.rest) l.fn.sink l.sink

abbrev pub decreases-showing : goal.decreases-showing
decreases-showing g l = length l.rest
