use Rattle.std.proofs.Common.{◌+◌, drop, ap, arith}
use Rattle.std.proofs.lemmas.Result.{err_from_is_err_and}
use Rattle.std.proofs.lemmas.List.{drop_all}
use Rattle.mcg6_encoder.specs.from_outside.declared.sink.SinkFailed.{SinkFailed}
use Rattle.front_words.proofs.Sayings.{saying-first, saying-next, saying-broken, saying-done}
use Rattle.mcg6_front_top.specs.Words.{skipped_words}
use Rattle.mcg6_front_top.proofs.SkippedLines.{skipped-item}
use Rattle.mcg6_front_top.proofs.skipping.say_skipped.Goals as goal

pub saying-init : goal.saying-init
saying-init g c = saying-first {F = SinkFailed} g.E.Sink.written g.E.Sink.writes g.E.Sink.faults (skipped_words c.args.skipped.now) c.args.errors.now

pub saying-preserved : goal.saying-preserved
saying-preserved g c =
    saying-next {F = SinkFailed} g.E.Sink.written g.E.Sink.writes g.E.Sink.faults (skipped_words c.args.skipped.now) (skipped_words (drop c.saying.found-index c.args.skipped.now))
    _ (skipped_words (drop (c.saying.found-index + 1) c.args.skipped.now)) c.args.errors.now c.saying.errors c.say_one.new.errors
    (skipped-item c.args.skipped.now c.saying.found-index c.found-item.result c.saying-test.true c.found-item.is) c.saying.invariant c.in_ok-say_one.ensures

pub returns-in_err-say_one : goal.returns-in_err-say_one
returns-in_err-say_one g c =
    let p = err_from_is_err_and c.from_residual.result c.from_residual.ensures.1 in
    rw (p.1, p.2)
    (saying-broken {F = SinkFailed} g.E.Sink.written g.E.Sink.writes g.E.Sink.faults (skipped_words c.args.skipped.now) (skipped_words (drop c.saying.found-index c.args.skipped.now))
    _ (skipped_words (drop (c.saying.found-index + 1) c.args.skipped.now)) c.in_err-say_one.field-0.0 c.args.errors.now c.saying.errors c.say_one.new.errors
    (skipped-item c.args.skipped.now c.saying.found-index c.found-item.result c.saying-test.true c.found-item.is) c.saying.invariant c.in_err-say_one.ensures)

pub returns : goal.returns
returns g c =
    saying-done {F = SinkFailed} g.E.Sink.written g.E.Sink.writes g.E.Sink.faults (skipped_words c.args.skipped.now) (skipped_words (drop c.saying.found-index c.args.skipped.now))
    c.args.errors.now c.saying.errors (ap skipped_words (drop_all c.saying.found-index c.args.skipped.now (omega arith))) c.saying.invariant
