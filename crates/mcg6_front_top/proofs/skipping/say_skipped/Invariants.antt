use Rattle.std.proofs.Common.{drop}
use Rattle.mcg6_encoder.specs.from_outside.declared.sink.SinkFailed.{SinkFailed}
use Rattle.front_words.proofs.Sayings.{IsSaying}
use Rattle.mcg6_front_top.specs.Words.{skipped_words}
use Rattle.mcg6_front_top.proofs.skipping.say_skipped.Given as goal

abbrev pub invariant-saying : goal.invariant-saying
invariant-saying g l =
    IsSaying g.E.Sink.written g.E.Sink.writes g.E.Sink.faults SinkFailed (skipped_words l.skipped) (skipped_words (drop l.found-index l.skipped)) l.fn.errors l.errors
