use Rattle.std.proofs.Common.{ℕ, List, ◌++◌, Err, ap, subst}
use Rattle.mcg6_encoder.specs.Reads.{WritesUpTo}
use Rattle.mcg6_encoder.proofs.Encodings.{after_read, file_encoded, long_file, told_file}
use Rattle.mcg6_encoder.proofs.encoding.encode.Goals as goal

pub returns-in-Ok-clause-reads_first : goal.returns-in-Ok-clause-reads_first
returns-in-Ok-clause-reads_first g c =
    let wrote =
    subst (λ (t : List ℕ). WritesUpTo g.K.Sink.written g.K.Sink.writes t c.write_encoded.result c.args.sink.now c.write_encoded.new.sink)
    c.deref.ensures.value c.write_encoded.ensures.wrote in
    after_read g.S.Source.reads g.K.Sink.written g.K.Sink.writes c.in-Ok.file.items c.write_encoded.result c.args.source.now c.args.sink.now
    c.read_file.new.source c.write_encoded.new.sink c.in-Ok.ensures.whole wrote

pub returns-in-Ok-clause-tells : goal.returns-in-Ok-clause-tells
returns-in-Ok-clause-tells g c =
    let wrote =
    subst (λ (t : List ℕ). WritesUpTo g.K.Sink.written g.K.Sink.writes t c.write_encoded.result c.args.sink.now c.write_encoded.new.sink)
    c.deref.ensures.value c.write_encoded.ensures.wrote in
    file_encoded g.K.Sink.written g.K.Sink.writes c.in-Ok.file.items c.write_encoded.result (g.S.Source.left c.args.source.now)
    c.args.sink.now c.write_encoded.new.sink c.in-Ok.ensures.left c.in-Ok.ensures.whole.short wrote

pub returns-in-Ok-clause-encodes : goal.returns-in-Ok-clause-encodes
returns-in-Ok-clause-encodes g c file is =
    told_file c.write_encoded.result (g.S.Source.left c.args.source.now) (g.K.Sink.written c.args.sink.now)
    (g.K.Sink.written c.write_encoded.new.sink) file (returns-in-Ok-clause-tells g c) is

pub returns-in-Err-TooLong-clause-tells : goal.returns-in-Err-TooLong-clause-tells
returns-in-Err-TooLong-clause-tells g c =
    let past = c.in-Err-TooLong.ensures.past (ap Err c.in-Err-TooLong.field-0-is) in
    long_file c.too_long.result (g.S.Source.left c.args.source.now) (g.K.Sink.written c.args.sink.now) (past.held ++ past.piece)
    (c.in-Err-TooLong.ensures.more (ap Err c.in-Err-TooLong.field-0-is)) past.longer c.too_long.ensures
