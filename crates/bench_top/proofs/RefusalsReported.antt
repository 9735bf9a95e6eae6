-- What is known of the refusal of a report is known of it where the report was written.
-- Idea: one case for each status, and for whether there is a refusal; what is known then is the
-- claim, or it contradicts the status.
use Rattle.std.proofs.Common.{◌≡◌, ◌⊎◌, ◌∙◌, inl, inr, ℕ, List, Bool, true, false, Option, Some, None, is_some, refl, sym, ap, subst, arith}
use Rattle.outside.specs.Common.{appended}
use Rattle.refusals.specs.declared.refusal.Refusal.{Refusal}
use Rattle.bench_reports.specs.from_bench_tasks.Common.{Task}
use Rattle.bench_reports.specs.from_bench_tasks.Tasks as task
use Rattle.bench_reports.specs.from_bench_outcomes.Common.{IsPlaced, IsSettled, is_negative, told_by}
use Rattle.bench_reports.specs.from_bench_outcomes.declared.status.Status.{Status}
use Rattle.bench_reports.specs.from_bench_outcomes.declared.status.Status.TheVariants.{Negative, Usage, ReadFault, BadInput, WriteFault, Memory}
use Rattle.bench_top.specs.Calm.{HasRead}
use Rattle.bench_top.specs.Endings.{ReportedRefusal}

-- a report that is refused has a refusal, and was written
pub reported-refusal : (status : Status) (refused : Option Refusal) (bytes : List ℕ) (before now : Option (List ℕ)) → is_some refused ≡ is_negative status →
    bytes ≡ told_by refused bytes → now ≡ appended before bytes → status ≡ Negative → ReportedRefusal refused before now
reported-refusal status None bytes before now is told written negative =
    let wrong : false ≡ true = is ∙ ap is_negative negative in
    absurd (cc wrong)
reported-refusal status (Some refusal) bytes before now is told written negative =
    record { refusal = refusal; is = refl; output = bytes; tells = told; written = written }

-- a run without a report has none, and no status of a report or of a fault of writing
pub record IsUnreported (status : Status) : Type 0 where
  pub usage : status ≡ Usage → ⊥
  pub settled : IsSettled status → ⊥
  pub read : (steady : Bool) → HasRead steady status → status ≡ ReadFault
  pub write_fault : status ≡ WriteFault → ⊥
  pub bad : status ≡ BadInput → ⊥
  pub negative : status ≡ Negative → ⊥
  pub is_refused : false ≡ is_negative status

not-settled : (status : Status) → (status ≡ ReadFault) ⊎ (status ≡ Memory) → IsSettled status → ⊥
not-settled status stops settled = grind arith

unread : IsUnreported ReadFault
unread = record { usage = λ e. cc e; settled = not-settled ReadFault (inl refl); read = λ steady has. refl; write_fault = λ e. cc e; bad = λ e. cc e; negative = λ e. cc e; is_refused = refl }

without-memory : IsUnreported Memory
without-memory =
    record { usage = λ e. cc e; settled = not-settled Memory (inr refl); read = λ steady has. absurd has; write_fault = λ e. cc e; bad = λ e. cc e; negative = λ e. cc e; is_refused = refl }

pub no-report : (status : Status) → (status ≡ ReadFault) ⊎ (status ≡ Memory) → IsUnreported status
no-report status (inl is) = subst IsUnreported (sym is) unread
no-report status (inr is) = subst IsUnreported (sym is) without-memory

-- where nothing is refused, no place is named
pub not-placed : (t : Task) → IsPlaced t None
not-placed (task.OnGraph verb named) = tt
not-placed (task.OnSimpleGraph verb g) = tt
not-placed (task.OnTree verb named tree) = tt
not-placed (task.OnPicks verb named picks) = tt
not-placed (task.OnEars verb named list) = tt
not-placed (task.OnMoves verb named tree moves) = tt
not-placed (task.OnTrees verb named first second) = tt
not-placed (task.OnNumbers verb seed pieces) = tt
