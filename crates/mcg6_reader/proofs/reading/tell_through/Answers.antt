use Rattle.std.proofs.Common.{◌≡◌, [], inr, refl, take, rules, arith, Some, None}
use Rattle.outside.specs.Common.{prepended, IsAtEnd}
use Rattle.mcg6_reader.specs.declared.ending.InputEnding.TheVariants.{ReadFault, Memory}
use Rattle.mcg6_reader.proofs.Readings.{so_far_none, so_far_piece, so_far_stops, so_far_end, so_far_begun, so_far_torn}
use Rattle.mcg6_reader.proofs.ReadBytes.{read_end, read_memory, read_stops, read_torn}
use Rattle.mcg6_reader.proofs.Streaming.{stream_stops, stream_end, stream_begun}
use Rattle.mcg6_reader.proofs.reading.tell_through.Goals as goal

pub reading-init : goal.reading-init
reading-init g c = grind (arith, so_far_none)

pub reading-preserved : goal.reading-preserved
reading-preserved g c = grind (arith, so_far_piece)

pub returns-in-Err-clause-tells : goal.returns-in-Err-clause-tells
returns-in-Err-clause-tells g c = grind (arith, so_far_begun c.reading.invariant.so_far (g.T.LineTeller.bad c.args.teller.now) (g.T.LineTeller.lacks c.args.teller.now) ReadFault)

pub returns-in-Err-clause-streams : goal.returns-in-Err-clause-streams
returns-in-Err-clause-streams g c =
    let reading : g.S.Source.reads c.reading.source None c.read.new.self = search rules in
    grind (arith, stream_begun c.reading.invariant.so_far (g.T.LineTeller.bad c.args.teller.now) (g.T.LineTeller.lacks c.args.teller.now) ReadFault c.read.new.self c.reading.sink)

pub returns-in-Err-clause-torn : goal.returns-in-Err-clause-torn
returns-in-Err-clause-torn g c is = so_far_torn c.reading.invariant.so_far c.read.new.self (search rules)

pub returns-in-Ok-eq0-clause-tells : goal.returns-in-Ok-eq0-clause-tells
returns-in-Ok-eq0-clause-tells g c =
    let taken : g.S.Source.left c.reading.source ≡ prepended [] (g.S.Source.left c.read.new.self) = search rules in
    let end : IsAtEnd (g.S.Source.left c.read.new.self) = search rules in
    so_far_end c.reading.invariant.so_far (g.T.LineTeller.bad c.args.teller.now) (g.T.LineTeller.lacks c.args.teller.now)
    c.take_end.result c.read.new.self c.take_end.new.sink c.take_end.new.skipped.items taken end c.take_end.ensures.gives c.take_end.ensures.reported

pub returns-in-Ok-eq0-clause-streams : goal.returns-in-Ok-eq0-clause-streams
returns-in-Ok-eq0-clause-streams g c =
    let reading : g.S.Source.reads c.reading.source (Some []) c.read.new.self = search rules in
    stream_end c.reading.invariant.so_far (g.T.LineTeller.bad c.args.teller.now) (g.T.LineTeller.lacks c.args.teller.now)
    c.take_end.result c.read.new.self c.take_end.new.sink reading c.take_end.ensures.gives

pub returns-in-Err-take_piece-clause-tells : goal.returns-in-Err-take_piece-clause-tells
returns-in-Err-take_piece-clause-tells g c =
    so_far_stops c.reading.invariant.so_far (g.T.LineTeller.bad c.args.teller.now) (g.T.LineTeller.lacks c.args.teller.now)
    c.in-Err-take_piece.ending (take c.in-Ok.count c.read.new.piece) c.read.new.self c.take_piece.new.sink
    c.take_piece.new.skipped.items c.in-Ok.ensures.taken c.in-Err-take_piece.ensures.stops c.in-Err-take_piece.ensures.stopped

pub returns-in-Err-take_piece-clause-streams : goal.returns-in-Err-take_piece-clause-streams
returns-in-Err-take_piece-clause-streams g c =
    stream_stops c.reading.invariant.so_far (g.T.LineTeller.bad c.args.teller.now) (g.T.LineTeller.lacks c.args.teller.now)
    c.in-Err-take_piece.ending c.read.new.self c.take_piece.new.sink (take c.in-Ok.count c.read.new.piece) c.in-Ok.ensures.reads
    c.in-Err-take_piece.ensures.stops

pub returns-clause-tells : goal.returns-clause-tells
returns-clause-tells g c = grind (arith, so_far_begun c.reading.invariant.so_far (g.T.LineTeller.bad c.args.teller.now) (g.T.LineTeller.lacks c.args.teller.now) Memory)

pub returns-clause-streams : goal.returns-clause-streams
returns-clause-streams g c =
    stream_begun c.reading.invariant.so_far (g.T.LineTeller.bad c.args.teller.now) (g.T.LineTeller.lacks c.args.teller.now)
    Memory c.reading.source c.reading.sink (inr (inr (record { memory = refl; same_source = refl; same_sink = refl })))

pub returns-in-Err-clause-reads : goal.returns-in-Err-clause-reads
returns-in-Err-clause-reads g c =
    let reading : g.S.Source.reads c.reading.source None c.read.new.self = search rules in
    read_torn c.reading.invariant.so_far (g.T.LineTeller.bad c.args.teller.now) (g.T.LineTeller.lacks c.args.teller.now) c.read.new.self reading

pub returns-in-Ok-eq0-clause-reads : goal.returns-in-Ok-eq0-clause-reads
returns-in-Ok-eq0-clause-reads g c =
    let reading : g.S.Source.reads c.reading.source (Some []) c.read.new.self = search rules in
    read_end c.reading.invariant.so_far (g.T.LineTeller.bad c.args.teller.now) (g.T.LineTeller.lacks c.args.teller.now)
    c.take_end.result c.read.new.self c.take_end.new.sink c.take_end.new.skipped.items reading c.take_end.ensures.gives c.take_end.ensures.reported

pub returns-in-Err-take_piece-clause-reads : goal.returns-in-Err-take_piece-clause-reads
returns-in-Err-take_piece-clause-reads g c =
    read_stops c.reading.invariant.so_far (g.T.LineTeller.bad c.args.teller.now) (g.T.LineTeller.lacks c.args.teller.now)
    c.in-Err-take_piece.ending (take c.in-Ok.count c.read.new.piece) c.read.new.self c.take_piece.new.sink
    c.take_piece.new.skipped.items c.in-Ok.ensures.reads c.in-Err-take_piece.ensures.stops c.in-Err-take_piece.ensures.stopped

pub returns-clause-reads : goal.returns-clause-reads
returns-clause-reads g c = read_memory c.reading.invariant.so_far (g.T.LineTeller.bad c.args.teller.now) (g.T.LineTeller.lacks c.args.teller.now)
