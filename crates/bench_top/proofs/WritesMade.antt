-- The writes of a run are those of its report: one case for each status.
-- Idea: at each status the fact on what was written has the parts of the claim, or the status is
-- ruled out.
use Rattle.std.proofs.Common.{◌≡◌, ◌⊎◌, inl, inr, ℕ, List, refl, sym, subst, arith, Option}
use Rattle.outside.specs.Common.{IsWritten, appended}
use Rattle.bench_reports.specs.from_bench_outcomes.Common.{Appended, CutShort, IsReported}
use Rattle.bench_reports.specs.from_bench_outcomes.declared.status.Status.{Status}
use Rattle.bench_reports.specs.from_bench_outcomes.declared.status.Status.TheVariants.{Done, Negative, Usage, ReadFault, BadInput, WriteFault, Memory}
use Rattle.bench_top.specs.Writes.{WritesAs}

-- any other status is not that of a report
none-reported : (status : Status) → IsReported status → (status ≡ Done → ⊥) → (status ≡ Negative → ⊥) → (status ≡ BadInput → ⊥) → ⊥
none-reported status h a b c = grind arith

-- a report that was written whole
pub wrote-report :
    {K : Type 0} (written : K → Option (List ℕ)) (writes : K → List ℕ → ℕ → K → Type 0) (gives : Status → List ℕ → Type 0) (status : Status)
    (output : List ℕ) (first last : K) →
    IsReported status → gives status output → written last ≡ appended (written first) output → IsWritten writes output first last →
    WritesAs written writes gives status first last
wrote-report {K} written writes gives Done output first last reported right now whole = record { output = output; right = right; now = now; whole = whole }
wrote-report {K} written writes gives Negative output first last reported right now whole = record { output = output; right = right; now = now; whole = whole }
wrote-report {K} written writes gives BadInput output first last reported right now whole = record { output = output; right = right; now = now; whole = whole }
wrote-report {K} written writes gives Usage output first last reported right now whole = absurd (none-reported Usage reported (λ e. cc e) (λ e. cc e) (λ e. cc e))
wrote-report {K} written writes gives ReadFault output first last reported right now whole = absurd (none-reported ReadFault reported (λ e. cc e) (λ e. cc e) (λ e. cc e))
wrote-report {K} written writes gives WriteFault output first last reported right now whole = absurd (none-reported WriteFault reported (λ e. cc e) (λ e. cc e) (λ e. cc e))
wrote-report {K} written writes gives Memory output first last reported right now whole = absurd (none-reported Memory reported (λ e. cc e) (λ e. cc e) (λ e. cc e))

-- no report
pub wrote-nothing :
    {K : Type 0} (written : K → Option (List ℕ)) (writes : K → List ℕ → ℕ → K → Type 0) (gives : Status → List ℕ → Type 0) (status : Status) (sink : K) →
    (status ≡ ReadFault) ⊎ (status ≡ Memory) → WritesAs written writes gives status sink sink
wrote-nothing {K} written writes gives status sink (inl fault) = subst (λ (s : Status). WritesAs written writes gives s sink sink) (sym fault) refl
wrote-nothing {K} written writes gives status sink (inr memory) = subst (λ (s : Status). WritesAs written writes gives s sink sink) (sym memory) refl

module _ {K : Type 0} (written : K → Option (List ℕ)) (writes : K → List ℕ → ℕ → K → Type 0) where
  -- what is written of an output for which more holds
  pub writes-more : (gives other : Status → List ℕ → Type 0) → ((status : Status) (output : List ℕ) → gives status output → other status output) → (status : Status) (first last : K) →
      WritesAs written writes gives status first last → WritesAs written writes other status first last
  writes-more gives other more Done first last wrote = record { output = wrote.output; right = more Done wrote.output wrote.right; now = wrote.now; whole = wrote.whole }
  writes-more gives other more Negative first last wrote = record { output = wrote.output; right = more Negative wrote.output wrote.right; now = wrote.now; whole = wrote.whole }
  writes-more gives other more Usage first last wrote = wrote
  writes-more gives other more ReadFault first last wrote = wrote
  writes-more gives other more BadInput first last wrote = record { output = wrote.output; right = more BadInput wrote.output wrote.right; now = wrote.now; whole = wrote.whole }
  writes-more gives other more WriteFault first last wrote =
      record { status = wrote.status; output = wrote.output; count = wrote.count; right = more wrote.status wrote.output wrote.right; now = wrote.now; cut = wrote.cut }
  writes-more gives other more Memory first last wrote = wrote

  -- a report was appended, or a proper prefix of one, or nothing
  pub wrote-appended : (gives : Status → List ℕ → Type 0) (status : Status) (first last : K) → WritesAs written writes gives status first last → IsReported status →
      Appended gives status (written first) (written last)
  wrote-appended gives Done first last wrote reported = record { output = wrote.output; outcome = wrote.right; written = wrote.now }
  wrote-appended gives Negative first last wrote reported = record { output = wrote.output; outcome = wrote.right; written = wrote.now }
  wrote-appended gives BadInput first last wrote reported = record { output = wrote.output; outcome = wrote.right; written = wrote.now }
  wrote-appended gives Usage first last wrote reported = absurd (none-reported Usage reported (λ e. cc e) (λ e. cc e) (λ e. cc e))
  wrote-appended gives ReadFault first last wrote reported = absurd (none-reported ReadFault reported (λ e. cc e) (λ e. cc e) (λ e. cc e))
  wrote-appended gives WriteFault first last wrote reported = absurd (none-reported WriteFault reported (λ e. cc e) (λ e. cc e) (λ e. cc e))
  wrote-appended gives Memory first last wrote reported = absurd (none-reported Memory reported (λ e. cc e) (λ e. cc e) (λ e. cc e))

  pub wrote-prefix : (gives : Status → List ℕ → Type 0) (status : Status) (first last : K) → WritesAs written writes gives status first last → status ≡ WriteFault → CutShort gives (written first) (written last)
  wrote-prefix gives status first last wrote fault =
      let cut = subst (λ (s : Status). WritesAs written writes gives s first last) fault wrote in
      record { status = cut.status; output = cut.output; count = cut.count; outcome = cut.right; less = cut.cut.less; written = cut.now }

  pub wrote-none : (gives : Status → List ℕ → Type 0) (status : Status) (first last : K) → WritesAs written writes gives status first last →
      (status ≡ Usage) ⊎ ((status ≡ ReadFault) ⊎ (status ≡ Memory)) → last ≡ first
  wrote-none gives status first last wrote (inl is) = subst (λ (s : Status). WritesAs written writes gives s first last) is wrote
  wrote-none gives status first last wrote (inr (inl is)) = subst (λ (s : Status). WritesAs written writes gives s first last) is wrote
  wrote-none gives status first last wrote (inr (inr is)) = subst (λ (s : Status). WritesAs written writes gives s first last) is wrote
