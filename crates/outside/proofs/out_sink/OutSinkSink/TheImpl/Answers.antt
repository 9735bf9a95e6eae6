-- Of a write that failed no byte was taken.
use Rattle.std.proofs.Common.{◌≡◌, ◌∙◌, ℕ, List, ◌++◌, take, Result, Ok, Err, IfOk, OnErr, Some, ap, sym, append-nil}
use Rattle.std.proofs.lemmas.Result.{IfOk-weaker, on_err_weaker}
use Rattle.outside.specs.Common.{HasPrinted, MayCount, PrintState, taken_by}
use Rattle.outside.proofs.FaultCounts.{Rose-next_fault, Rose-faults_after}
use Rattle.outside.proofs.out_sink.OutSinkSink.TheImpl.Goals as goal

has_printed : {E : Type 0} (before now : PrintState) (piece : List ℕ) (result : Result ℕ E) → IfOk result (λ count. now.printed ≡ before.printed ++ take count piece) →
    OnErr result (now.printed ≡ before.printed) → MayCount before.faults now.faults → HasPrinted before piece (taken_by result) now
has_printed before now piece (Ok count) some none counts = record { printed = some; faults = counts }
has_printed before now piece (Err error) some none counts = record { printed = none ∙ sym (append-nil before.printed); faults = counts }

pub write-tells : goal.write-tells
write-tells g c = record {
  writes = has_printed c.args.self.now c.new.self.now c.args.bytes.now c.result c.ensures.printed c.ensures.lost c.ensures.counts;
  within = c.ensures.within;
  written = IfOk-weaker c.result _ _ (λ count is. ap Some is) c.ensures.printed;
  unwritten = on_err_weaker c.result (λ is. ap Some is) c.ensures.lost;
  later = c.ensures.later;
  failed = on_err_weaker c.result (Rose-next_fault c.args.self.now.faults c.new.self.now.faults) c.ensures.err;
  stuck = IfOk-weaker c.result _ _ (λ count. Rose-faults_after c.args.self.now.faults c.new.self.now.faults count _) c.ensures.ok;
}
