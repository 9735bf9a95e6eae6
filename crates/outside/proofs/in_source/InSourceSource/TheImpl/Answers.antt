-- What was read is noted, one case for a read that returned bytes and one for a read that failed.
use Rattle.std.proofs.Common.{◌≡◌, ◌++◌, ℕ, List, take, Result, Ok, Err, IfOk, OnOk, OnErr, inl, inr, refl}
use Rattle.std.proofs.lemmas.Result.{IfOk-weaker, on_err_weaker}
use Rattle.outside.specs.Common.{HasTaken, ReadState, given_by, next_fault}
use Rattle.outside.proofs.FaultCounts.{Rose-next_fault}
use Rattle.outside.proofs.in_source.InSourceSource.TheImpl.Goals as goal

has_taken : {E : Type 0} (before now : ReadState) (result : Result ℕ E) (piece : List ℕ) → now.name ≡ before.name →
    IfOk result (λ count. now.read ≡ before.read ++ take count piece) → OnErr result (now.read ≡ before.read) →
    OnOk result (now.faults ≡ before.faults) → OnErr result (now.faults ≡ next_fault before.faults) → HasTaken before (given_by result piece) now
has_taken before now (Ok count) piece name some none ok err = record { name = name; read = some; faults = inl ok }
has_taken before now (Err error) piece name some none ok err = record { name = name; read = none; faults = inr err }

pub read-tells : goal.read-tells
read-tells g c = record {
  reads = has_taken c.args.self.now c.new.self.now c.result c.new.piece.now c.ensures.name c.ensures.read c.ensures.unread c.ensures.ok c.ensures.err;
  within = c.ensures.within;
  taken = IfOk-weaker c.result _ _ (λ _ _. refl) c.ensures.within;
  end = IfOk-weaker c.result _ _ (λ _ _ _ _. tt) c.ensures.within;
  untaken = on_err_weaker c.result (λ _. refl) c.ensures.err;
  later = c.ensures.later;
  failed = on_err_weaker c.result (Rose-next_fault c.args.self.now.faults c.new.self.now.faults) c.ensures.err;
}
