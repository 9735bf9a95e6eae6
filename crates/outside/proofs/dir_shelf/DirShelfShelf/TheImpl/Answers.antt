-- A read of a real file counts an error if it failed, and only then: one case for each result.
use Rattle.std.proofs.Common.{◌≡◌, ◌⊎◌, ◌++◌, ◌∷◌, [], ℕ, List, Result, Ok, Err, IfOk, OnErr, IsErrOf, length, inl, inr, refl, arith}
use Rattle.std.specs.Global.{Vec}
use Rattle.outside.specs.Common.{IsOpened, OpenState, next_fault, answer_seen, given_after}
use Rattle.outside.specs.DirShelf.{CountsFault}
use Rattle.outside.specs.declared.shelf.ShelfFault.{ShelfFault}
use Rattle.outside.specs.declared.shelf.ShelfFault.TheVariants.{Failed, TooLong, Memory}
use Rattle.outside.proofs.dir_shelf.DirShelfShelf.TheImpl.Goals as goal

counted : (before now : OpenState) (result : Result (Vec ℕ) ShelfFault) → IfOk result (λ bytes. length bytes.items ≡ now.taken) →
    (IsErrOf result Failed → now.faults ≡ next_fault before.faults) → IsErrOf result Failed ⊎ (now.faults ≡ before.faults) → CountsFault before (answer_seen result) now
counted before now (Ok bytes) taken rises (inl failed) = cc failed
counted before now (Ok bytes) taken rises (inr same) = (same, taken)
counted before now (Err Failed) taken rises stays = rises refl
counted before now (Err TooLong) taken rises (inl failed) = cc failed
counted before now (Err TooLong) taken rises (inr same) = same
counted before now (Err Memory) taken rises (inl failed) = cc failed
counted before now (Err Memory) taken rises (inr same) = same

given : (before now : OpenState) (name : List ℕ) (result : Result (Vec ℕ) ShelfFault) → IfOk result (λ bytes. now.given ≡ before.given ++ (name, bytes.items) ∷ []) →
    OnErr result (now.given ≡ before.given) → now.given ≡ given_after before.given name (answer_seen result)
given before now name (Ok bytes) some none = some
given before now name (Err fault) some none = none

opened : (before now : OpenState) (name : List ℕ) (result : Result (Vec ℕ) ShelfFault) → IfOk result (λ bytes. length bytes.items ≡ now.taken) →
    (IsErrOf result Failed → now.faults ≡ next_fault before.faults) → IsErrOf result Failed ⊎ (now.faults ≡ before.faults) →
    IfOk result (λ bytes. now.given ≡ before.given ++ (name, bytes.items) ∷ []) → OnErr result (now.given ≡ before.given) → IsOpened before name (answer_seen result) now
opened before now name result taken rises stays some none = record { given = given before now name result some none; counted = counted before now result taken rises stays }

pub read-tells : goal.read-tells
read-tells g c = grind (arith, opened)
