-- What decides the status of a run: one lemma for what the files hold, by the cases of the status.
-- A status that does not fit has an output that the files do not give, or a fault that did not
-- come.
use Rattle.std.proofs.Common.{◌≡◌, ◌⊎◌, inl, inr, ℕ, List, [], Bool, IsTrue, Option, Some, None, refl, arith}
use Rattle.std.proofs.lemmas.Option.{none-some}
use Rattle.outside.specs.Common.{Answer, NamedFile, Rose}
use Rattle.outside.specs.declared.explain.FailureReason.{FailureReason}
use Rattle.bench_reports.specs.from_bench_tasks.Common.{Command, Loaded, All, Bad, Absent, Task}
use Rattle.bench_reports.specs.from_bench_outcomes.Common.{Appended, CutShort, IsReported, IsSettled, LoadedGives}
use Rattle.bench_reports.specs.from_bench_outcomes.declared.status.Status.{Status}
use Rattle.bench_reports.specs.from_bench_outcomes.declared.status.Status.TheVariants.{Done, Negative, Usage, ReadFault, BadInput, WriteFault, Memory}
use Rattle.bench_top.specs.Calm.{IsCalm}
use Rattle.bench_top.specs.Runs.{RunsTo}
use Rattle.bench_reports.specs.from_bench_tasks.declared.stop.LoadStop.{LoadStop}
use Rattle.bench_top.specs.Endings.{IsStopOf, ReportedBad}

-- nothing is an outcome of a file that is not held
pub ends-absent : (file : ℕ) (status : Status) (before now : Option (List ℕ)) → (status ≡ Usage → ⊥) →
    (IsReported status → Appended (LoadedGives (Absent file)) status before now) → (status ≡ WriteFault → CutShort (LoadedGives (Absent file)) before now) →
    (status ≡ ReadFault) ⊎ (status ≡ Memory)
ends-absent file Done before now usage reported cut = absurd (reported (inl refl)).outcome
ends-absent file Negative before now usage reported cut = absurd (reported (inr (inl refl))).outcome
ends-absent file Usage before now usage reported cut = absurd (usage refl)
ends-absent file ReadFault before now usage reported cut = inl refl
ends-absent file BadInput before now usage reported cut = absurd (reported (inr (inr refl))).outcome
ends-absent file WriteFault before now usage reported cut = absurd (cut refl).outcome
ends-absent file Memory before now usage reported cut = inr refl

-- over a calm outside no read fails of files that are held, and no write
pub calm-reads : (steady : Bool) (shelf_before shelf_now sink_before sink_now : ℕ) (status : Status) (held : Loaded Task) → IsCalm steady shelf_before shelf_now sink_before sink_now →
    (status ≡ ReadFault → Rose shelf_before shelf_now) → (status ≡ ReadFault → IsTrue steady → (file : ℕ) × (held ≡ Absent file)) →
    ((file : ℕ) → held ≡ Absent file → ⊥) → status ≡ ReadFault → ⊥
calm-reads steady shelf_before shelf_now sink_before sink_now status held calm rose missing held_is fault = go calm.shelf
  where
    go : IsTrue steady ⊎ (Rose shelf_before shelf_now → ⊥) → ⊥
    go (inl is) = held_is (missing fault is).0 (missing fault is).1
    go (inr not_rose) = not_rose (rose fault)

-- a bad file is reported
pub ends-bad : (file line kind : ℕ) (status : Status) (before now : Option (List ℕ)) → (status ≡ Usage → ⊥) → (status ≡ ReadFault → ⊥) → (status ≡ WriteFault → ⊥) →
    (IsReported status → Appended (LoadedGives (Bad file line kind)) status before now) → (status ≡ BadInput) ⊎ (status ≡ Memory)
ends-bad file line kind Done before now usage read write reported = absurd (cc ((reported (inl refl)).outcome.0))
ends-bad file line kind Negative before now usage read write reported = absurd (cc ((reported (inr (inl refl))).outcome.0))
ends-bad file line kind Usage before now usage read write reported = absurd (usage refl)
ends-bad file line kind ReadFault before now usage read write reported = absurd (read refl)
ends-bad file line kind BadInput before now usage read write reported = inl refl
ends-bad file line kind WriteFault before now usage read write reported = absurd (write refl)
ends-bad file line kind Memory before now usage read write reported = inr refl

-- good files are reported on: a stop at a bad file is not what they hold
not-bad : (steady : Bool) (task : Task) (stopped : Option LoadStop) (before now : Option (List ℕ)) → IsStopOf steady stopped (All task) → ReportedBad stopped before now → ⊥
not-bad steady task stopped before now stops reported = grind arith

pub ends-good : (steady : Bool) (task : Task) (status : Status) (stopped : Option LoadStop) (before now : Option (List ℕ)) → (status ≡ Usage → ⊥) → (status ≡ ReadFault → ⊥) → (status ≡ WriteFault → ⊥) →
    IsStopOf steady stopped (All task) → (status ≡ BadInput → ReportedBad stopped before now) → IsSettled status ⊎ (status ≡ Memory)
ends-good steady task Done stopped before now usage read write stops bad = inl (inl refl)
ends-good steady task Negative stopped before now usage read write stops bad = inl (inr refl)
ends-good steady task Usage stopped before now usage read write stops bad = absurd (usage refl)
ends-good steady task ReadFault stopped before now usage read write stops bad = absurd (read refl)
ends-good steady task BadInput stopped before now usage read write stops bad = absurd (not-bad steady task stopped before now stops (bad refl))
ends-good steady task WriteFault stopped before now usage read write stops bad = absurd (write refl)
ends-good steady task Memory stopped before now usage read write stops bad = inr refl

-- words that match no row: nothing was read and nothing written
none-row : (command : Command) → None ≡ Some command → ⊥
none-row command is = none-some command is

pub usage-runs : {S K : Type 0} (holds : S → Option (List NamedFile)) (is_steady : S → Bool) (faults : S → ℕ) (reads : S → List ℕ → Answer → S → Type 0) (reason : S → Option FailureReason)
    (written : K → Option (List ℕ)) (writes : K → List ℕ → ℕ → K → Type 0) (sink_faults : K → ℕ) (shelf : S) (sink : K) →
    RunsTo holds is_steady faults reads reason written writes sink_faults None Usage None None shelf shelf sink sink
usage-runs holds is_steady faults reads reason written writes sink_faults shelf sink = record {
  runs = record {
    usage = (λ e. refl, λ e. refl);
    unread = λ e. refl;
    negative = λ e. cc e;
    read_fault = λ e. cc e;
    write_fault = λ e. cc e;
    nothing = λ e. refl;
    asks = (0, (omega arith, refl));
    asks_all = λ settled. refl;
    asks_until = λ files command told row read. absurd (none-row command row);
    same_files = refl;
    as_steady = refl;
    outcome = λ files told reported. absurd (not-reported reported);
    cut = λ files told fault. cc fault;
    writes_made = refl;
    answered = record { answers = []; in_turn = refl; failed = refl; files = []; given = refl; wrote = refl };
    missing = λ files command told row fault is. absurd (none-row command row);
    absent = λ files command file told row held. absurd (none-row command row);
    bad = λ files command file line kind told row held calm. absurd (none-row command row);
    good = λ files command task told row held calm. absurd (none-row command row);
    succeeds = λ files command task told row held succeeds calm. absurd (none-row command row);
  };
  stops = λ files command told row. absurd (none-row command row);
  stops_after = tt;
  carries = tt;
  carries_bytes = tt;
  carries_graph = tt;
  reported = λ e. cc e;
  unread_file = λ e. cc e;
  is_refused = refl;
  reported_refusal = λ e. cc e;
  placed = λ files command task told row held. absurd (none-row command row);
}
  where
    not-reported : IsReported Usage → ⊥
    not-reported reported = grind arith
