use Rattle.std.proofs.Common.{◌+◌, drop, ap, arith}
use Rattle.std.proofs.lemmas.Result.{err_from_is_err_and}
use Rattle.std.proofs.lemmas.List.{drop_all}
use Rattle.outside.specs.declared.sink.SinkFailed.{SinkFailed}
use Rattle.front_words.specs.Pieces.{pieces_text}
use Rattle.front_words.proofs.Sayings.{saying-next, saying-broken, saying-done}
use Rattle.front_words.proofs.SaidPieces.{piece-first}
use Rattle.front_words.proofs.pieces.say.Goals as goal

pub saying-preserved : goal.saying-preserved
saying-preserved g c =
    saying-next {F = SinkFailed} g.K.Sink.written g.K.Sink.writes g.K.Sink.faults (pieces_text c.args.pieces.now) (pieces_text (drop c.saying.piece-index c.args.pieces.now))
    _ (pieces_text (drop (c.saying.piece-index + 1) c.args.pieces.now)) c.args.sink.now c.saying.sink c.say_piece.new.sink
    (piece-first c.args.pieces.now c.saying.piece-index _ c.saying-test.true) c.saying.invariant c.in_ok-say_piece.ensures

pub returns-in_err-say_piece : goal.returns-in_err-say_piece
returns-in_err-say_piece g c =
    let p = err_from_is_err_and c.from_residual.result c.from_residual.ensures.1 in
    rw (p.1, p.2)
    (saying-broken {F = SinkFailed} g.K.Sink.written g.K.Sink.writes g.K.Sink.faults (pieces_text c.args.pieces.now) (pieces_text (drop c.saying.piece-index c.args.pieces.now))
    _ (pieces_text (drop (c.saying.piece-index + 1) c.args.pieces.now)) c.in_err-say_piece.field-0.0 c.args.sink.now c.saying.sink c.say_piece.new.sink
    (piece-first c.args.pieces.now c.saying.piece-index _ c.saying-test.true) c.saying.invariant c.in_err-say_piece.ensures)

pub returns : goal.returns
returns g c =
    saying-done {F = SinkFailed} g.K.Sink.written g.K.Sink.writes g.K.Sink.faults (pieces_text c.args.pieces.now) (pieces_text (drop c.saying.piece-index c.args.pieces.now))
    c.args.sink.now c.saying.sink (ap pieces_text (drop_all c.saying.piece-index c.args.pieces.now (omega arith))) c.saying.invariant
