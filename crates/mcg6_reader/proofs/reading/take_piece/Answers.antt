use Rattle.std.proofs.Common.{◌++◌}
use Rattle.mcg6_reader.specs.declared.ending.InputEnding.TheVariants.{WriteFault}
use Rattle.mcg6_reader.specs.Common.{Reports, ToldThrough, StopsWith, ending_of, lines_of}
use Rattle.mcg6_reader.proofs.Pieces.{through_begins}
use Rattle.mcg6_reader.proofs.Skips.{with_stop_fault, with_through_fault}
use Rattle.mcg6_reader.proofs.Writings.{wrote_cut, begun_cut}
use Rattle.mcg6_reader.proofs.reading.take_piece.Goals as goal

pub returns-in-Ok-clause-stops : goal.returns-in-Ok-clause-stops
returns-in-Ok-clause-stops g c =
    let text = c.args.listing.now.held.items ++ c.args.piece.now in
    let tells = g.T.LineTeller.tells c.args.teller.now in
    wrote_cut g.K.Sink.written g.K.Sink.writes
    (ToldThrough tells c.args.listing.now.place text c.add_piece.new.listing.held.items c.add_piece.new.listing.place)
    (StopsWith tells (g.T.LineTeller.bad c.args.teller.now) (g.T.LineTeller.lacks c.args.teller.now) c.args.listing.now.place text WriteFault)
    c.new-output.result.items c.add_piece.new.output.items c.deref.result.now c.args.sink.now c.emit.new.sink c.in-Ok.ensures.told
    c.new-output.ensures.items c.deref.ensures.value
    (λ bytes count told less rest.
    begun_cut tells c.args.listing.now.place (lines_of (text ++ rest)) bytes count
    (through_begins tells c.args.listing.now.place c.add_piece.new.listing.place text c.add_piece.new.listing.held.items rest bytes told) less)
    c.in-Err.ensures.err

pub returns-in-Ok-clause-stopped : goal.returns-in-Ok-clause-stopped
returns-in-Ok-clause-stopped g c =
    with_through_fault (Reports (g.T.LineTeller.skips c.args.teller.now)) (g.T.LineTeller.bad c.args.teller.now) (g.T.LineTeller.lacks c.args.teller.now)
    c.args.listing.now.place c.add_piece.new.listing.place (c.args.listing.now.held.items ++ c.args.piece.now) c.add_piece.new.listing.held.items
    c.args.skipped.now.items c.add_piece.new.skipped.items c.in-Ok.ensures.reported

pub returns-in-Err-Bad-clause-stopped : goal.returns-in-Err-Bad-clause-stopped
returns-in-Err-Bad-clause-stopped g c =
    with_stop_fault (Reports (g.T.LineTeller.skips c.args.teller.now)) (g.T.LineTeller.bad c.args.teller.now) (g.T.LineTeller.lacks c.args.teller.now)
    c.args.listing.now.place (c.args.listing.now.held.items ++ c.args.piece.now) (ending_of c.in-Err-Bad.field-0)
    c.args.skipped.now.items c.add_piece.new.skipped.items c.in-Err-Bad.ensures.stopped
