use Rattle.std.proofs.Common.{◌≡◌, ◌++◌, ℕ, List, [], Contains, take, Result, Ok, Err, IfOk, refl, arith}
use Rattle.std.proofs.lemmas.Result.{IfOk-weaker, on_err_weaker}
use Rattle.outside.specs.Common.{HasBegun, HasSaid, LineState, MayCount, taken_by}
use Rattle.outside.proofs.line_sink.LineSinkSink.TheImpl.Goals as goal

has_said : {E : Type 0} (before now : LineState) (piece : List ℕ) (result : Result ℕ E) →
    IfOk result (λ count. now.printed ++ now.held ≡ (before.printed ++ before.held) ++ take count piece) →
    IfOk result (λ count. Contains (take count piece) 10 → now.held ≡ []) →
    HasBegun before.printed now.printed (before.held ++ piece) →
    MayCount before.faults now.faults → HasSaid before piece (taken_by result) now
has_said before now piece (Ok count) passed line begun counts = record { passed = λ some. passed; line = λ some. line; begun = begun; faults = counts }
has_said before now piece (Err error) passed line begun counts = record { passed = λ some. absurd (omega (arith, some)); line = λ some. absurd (omega (arith, some)); begun = begun; faults = counts }

pub write-tells : goal.write-tells
write-tells g c = record {
  writes = has_said c.args.self.now c.new.self.now c.args.bytes.now c.result c.ensures.passed c.ensures.line c.ensures.begun c.ensures.counts;
  within = c.ensures.within;
  written = IfOk-weaker c.result _ _ (λ _ _. refl) c.ensures.within;
  unwritten = on_err_weaker c.result (λ _. refl) c.ensures.rose;
  later = c.ensures.later;
  failed = c.ensures.rose;
  stuck = c.ensures.stuck;
}
