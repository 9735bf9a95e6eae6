use Rattle.std.proofs.Common.{◌≡◌, ℕ, ◌+◌, ◌-◌, suc, List, [], ◌++◌, arith, refl}
use Rattle.outside.specs.declared.sink.SinkFailed.{SinkFailed}
use Rattle.front_words.specs.NodePlaces.{letters_text, step_letter}
use Rattle.front_words.proofs.Sayings.{saying-done, saying-next, saying-passed}
use Rattle.front_words.proofs.node_places.say_letters.Goals as goal

-- the letter of the first step, and those of the others
letters-first : (merged : List ℕ) (step count fewer : ℕ) → count ≡ suc fewer → letters_text merged step count ≡ step_letter merged step ++ letters_text merged (step + 1) fewer
unfolding letters_text
letters-first merged step count fewer is = rw is refl

letters-none : (merged : List ℕ) (step count : ℕ) → count ≡ 0 → letters_text merged step count ≡ []
unfolding letters_text
letters-none merged step count is = rw is refl

pub saying-preserved : goal.saying-preserved
saying-preserved g c =
    let said = rw (c.as_bytes.ensures.value, c.step_letter.ensures) at c.in_ok-say_bytes.ensures in
    saying-next {F = SinkFailed} g.K.Sink.written g.K.Sink.writes g.K.Sink.faults _ _ _ _ _ _ _
    (letters-first c.args.merged (c.saying.before + 1) (c.args.depth - c.saying.before) (c.args.depth - (c.saying.before + 1)) (omega (arith, c.saying-test.true))) c.saying.invariant said

pub returns-in_err-say_bytes : goal.returns-in_err-say_bytes
returns-in_err-say_bytes g c =
    let said = rw (c.as_bytes.ensures.value, c.step_letter.ensures) at c.in_err-say_bytes.ensures in
    saying-passed {F = SinkFailed} g.K.Sink.written g.K.Sink.writes g.K.Sink.faults _ _ _ _ _ _ _ _ _
    (letters-first c.args.merged (c.saying.before + 1) (c.args.depth - c.saying.before) (c.args.depth - (c.saying.before + 1)) (omega (arith, c.saying-test.true)))
    c.from_residual.ensures.1 c.saying.invariant said

pub returns : goal.returns
returns g c =
    saying-done {F = SinkFailed} g.K.Sink.written g.K.Sink.writes g.K.Sink.faults _ _ _ _
    (letters-none c.args.merged (c.saying.before + 1) (c.args.depth - c.saying.before) (omega (arith, c.saying-test.false))) c.saying.invariant
