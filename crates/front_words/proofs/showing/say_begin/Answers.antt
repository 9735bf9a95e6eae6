use Rattle.std.proofs.Common.{◌≡◌, ◌≤◌, ◌<◌, ◌-◌, ◌++◌, ◌==◌, ℕ, List, Bool, true, false, length, take, drop, subst, arith}
use Rattle.std.proofs.lemmas.Bool.Decides.{nat_tests}
use Rattle.std.proofs.lemmas.Result.{err_from_is_err_and}
use Rattle.outside.specs.declared.sink.SinkFailed.{SinkFailed}
use Rattle.front_words.specs.Showing.{begin_shown, unit_size}
use Rattle.front_words.specs.UnitsSeen.{unit_shown}
use Rattle.front_words.proofs.Sayings.{saying-next, saying-last, saying-broken, saying-done}
use Rattle.front_words.proofs.ShownBytes.{shown-cut, shown-empty, shown-first, unit-within}
use Rattle.front_words.proofs.showing.say_begin.Goals as goal

-- what is left is not empty
filled : (text : List ℕ) (empty : Bool) → empty ≡ (length text == 0) → empty ≡ false → length text ≡ 0 → ⊥
filled text empty is false_is none = grind (arith, nat_tests, is, false_is, none)

emptied : (text : List ℕ) (empty : Bool) → empty ≡ (length text == 0) → empty ≡ true → length text ≡ 0
emptied text empty is true_is = grind (arith, nat_tests, is, true_is)

-- the next unit of a text, and the others
parts : (most size : ℕ) (text unit others : List ℕ) → (length text ≡ 0 → ⊥) → size ≡ unit_size text → 0 < size → size ≤ most → unit ≡ take size text → others ≡ drop size text →
    begin_shown most text ≡ unit_shown unit ++ begin_shown (most - size) others
parts most size text unit others some is positive enough front back = grind (arith, shown-first)

pub split_at-requires : goal.split_at-requires
split_at-requires g c =
    let within = unit-within c.showing.rest.now (filled c.showing.rest.now c.is_empty.result c.is_empty.ensures c.showing-test.true) in
    omega (arith, within)

pub showing-preserved : goal.showing-preserved
showing-preserved g c = grind (arith, saying-next, parts, filled)

pub returns-in_err-say_unit : goal.returns-in_err-say_unit
returns-in_err-say_unit g c =
    let p = err_from_is_err_and c.from_residual.result c.from_residual.ensures.1 in
    rw (p.1, p.2)
    (saying-broken {F = SinkFailed} g.K.Sink.written g.K.Sink.writes g.K.Sink.faults (begin_shown c.args.most c.args.text.now) (begin_shown c.showing.left c.showing.rest.now)
    (unit_shown c.split_at.result.0.now) (begin_shown (c.showing.left - c.unit_size-size.result) c.split_at.result.1.now) c.in_err-say_unit.field-0.0 c.args.sink.now c.showing.sink c.say_unit.new.sink
    (parts c.showing.left c.unit_size-size.result c.showing.rest.now c.split_at.result.0.now c.split_at.result.1.now
    (filled c.showing.rest.now c.is_empty.result c.is_empty.ensures c.showing-test.true)
    c.unit_size-size.ensures.size c.unit_size-size.ensures.some c.if-left-size.false c.split_at.ensures.front c.split_at.ensures.back)
    c.showing.invariant c.in_err-say_unit.ensures)

pub returns : goal.returns
returns g c =
    saying-done {F = SinkFailed} g.K.Sink.written g.K.Sink.writes g.K.Sink.faults (begin_shown c.args.most c.args.text.now) (begin_shown c.showing.left c.showing.rest.now)
    c.args.sink.now c.showing.sink
    (shown-empty c.showing.left c.showing.rest.now (emptied c.showing.rest.now c.is_empty.result c.is_empty.ensures c.showing-test.false)) c.showing.invariant

pub returns-then-left-size : goal.returns-then-left-size
returns-then-left-size g c =
    saying-last {F = SinkFailed} g.K.Sink.written g.K.Sink.writes g.K.Sink.faults (begin_shown c.args.most c.args.text.now) (begin_shown c.showing.left c.showing.rest.now)
    c.say_bytes.result c.args.sink.now c.showing.sink c.say_bytes.new.sink c.showing.invariant
    (rw (shown-cut c.showing.left c.showing.rest.now (filled c.showing.rest.now c.is_empty.result c.is_empty.ensures c.showing-test.true)
    (subst (λ (n : ℕ). c.showing.left < n) c.unit_size-size.ensures.size c.if-left-size.true)) c.say_bytes.ensures)
