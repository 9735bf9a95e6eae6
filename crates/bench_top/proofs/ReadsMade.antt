-- What was read by the time that loading ends is the first few names; and where a read failed
-- over a steady shelf, its file is not held.
use Rattle.move_text.proofs.from_counting.Common.{◌≡◌, ℕ, List, Bool, IsTrue, Result, length, arith, take_all}
use Rattle.outside.specs.Common.{Answer, ReadsFirst}
use Rattle.bench_reports.specs.from_bench_tasks.Common.{Loaded, Absent, FailsAs, IsReadFault, ReadsAs}
use Rattle.bench_reports.specs.from_bench_tasks.declared.stop.LoadStop.{LoadStop}

module _ {S X : Type 0} (reads : S → List ℕ → Answer → S → Type 0) (names : List (List ℕ)) (first last : S) where
  -- they are the first few
  pub first-reads : (result : Result X LoadStop) → ReadsAs reads names result first last → ReadsFirst reads names first last
  first-reads result made = grind (arith, take_all (length names) names)

-- the file that is not held
pub absent-fault : {X A : Type 0} (steady : Bool) (result : Result X LoadStop) (held : Loaded A) → IsReadFault result → IsTrue steady → FailsAs steady result held → (file : ℕ) × (held ≡ Absent file)
absent-fault steady result held fault is fails = grind arith
