use Rattle.std.proofs.Common.{rules}
use Rattle.outside.proofs.Pieces.{appended_more}
use Rattle.outside.proofs.Writes.{writes_none, writes_more}
use Rattle.outside.proofs.emitting.emit.Goals as goal

pub writing-init : goal.writing-init
writing-init g c = record {
  within = search rules;
  later = search rules;
  written = search rules;
  turns = writes_none g.K.Sink.writes c.args.bytes.now c.args.sink.now;
}

pub writing-preserved : goal.writing-preserved
writing-preserved g c = record {
  within = search rules;
  later = search rules;
  written = appended_more _ _ _ _ _ _ c.writing.invariant.written c.in-Ok.ensures.written;
  turns =
      writes_more g.K.Sink.writes c.args.bytes.now c.writing.done c.in-Ok.count c.args.sink.now c.writing.sink c.write.new.self
      c.writing.invariant.turns c.if-count-gt0.true c.in-Ok.ensures.writes;
}
