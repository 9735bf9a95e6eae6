use Rattle.std.proofs.Common.{◌∙◌, sym}
use Rattle.outside.specs.declared.sink.SinkFailed.{SinkFailed}
use Rattle.front_words.proofs.OtherShores.{none-zero, others-cut, others-named, others-none, others-said, some-suc}
use Rattle.front_words.proofs.Sayings.{says_break, says_step}
use Rattle.front_words.proofs.shores.+say_others.Goals as goal

pub returns-in_default : goal.returns-in_default
returns-in_default g t c = rw (others-none c.args.line.now c.args.count c.args.next c.args.left (none-zero _ _ c.checked_sub.ensures c.in_default.is)) c.say_bytes.ensures

pub returns-then-names : goal.returns-then-names
returns-then-names g t c =
    rw (others-named c.args.line.now c.args.count c.in-Some.fewer c.args.next c.args.left (some-suc _ _ _ c.checked_sub.ensures c.in-Some.is) (sym c.names.ensures ∙ c.if-names.true))
    c.say_others.ensures

pub returns-then-left-width : goal.returns-then-left-width
returns-then-left-width g t c =
    rw (others-cut c.args.line.now c.args.count c.in-Some.fewer c.args.next c.args.left c.width.result (some-suc _ _ _ c.checked_sub.ensures c.in-Some.is)
    (sym c.names.ensures ∙ c.if-names.false) c.width.ensures c.if-left-width.true)
    c.say_bytes-then-left-width.ensures

pub returns-in-Ok : goal.returns-in-Ok
returns-in-Ok g t c =
    let rest = rw (c.width-in-Ok.ensures, ← c.width.ensures) at c.say_others-in-Ok.ensures in
    says_step {F = SinkFailed} g.K.Sink.written g.K.Sink.writes g.K.Sink.faults _ _ _ _ _ _ _
    (others-said c.args.line.now c.args.count c.in-Some.fewer c.args.next c.args.left c.width.result (some-suc _ _ _ c.checked_sub.ensures c.in-Some.is)
    (sym c.names.ensures ∙ c.if-names.false) c.width.ensures c.if-left-width.false)
    c.in-Ok.ensures rest

pub returns-in-Err : goal.returns-in-Err
returns-in-Err g t c =
    says_break {F = SinkFailed} g.K.Sink.written g.K.Sink.writes g.K.Sink.faults _ _ _ _ _ _
    (others-said c.args.line.now c.args.count c.in-Some.fewer c.args.next c.args.left c.width.result (some-suc _ _ _ c.checked_sub.ensures c.in-Some.is)
    (sym c.names.ensures ∙ c.if-names.false) c.width.ensures c.if-left-width.false)
    c.in-Err.ensures
