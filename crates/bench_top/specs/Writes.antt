-- Which writes a run makes, and of which output.
-- Stated by no contract. Used by: bench_top, theorems.
use Rattle.std.specs.Prelude.{◌≡◌, ℕ, List, take, Option, Some}
use Rattle.outside.specs.Common.{NamedFile, IsCutOff, IsWritten, appended}
use Rattle.bench_reports.specs.from_bench_outcomes.declared.status.Status.{Status}
use Rattle.bench_reports.specs.from_bench_outcomes.declared.status.Status.TheVariants.{Done, Negative, Usage, ReadFault, BadInput, WriteFault, Memory}

-- where the files are told, this is an output that they give with this status
abbrev pub GivesTold : Option (List NamedFile) → (List NamedFile → Status → List ℕ → Type 0) → Status → List ℕ → Type 0
GivesTold told gives status output = (files : List NamedFile) → told ≡ Some files → gives files status output

-- an output of which this holds was written whole, and nothing else
pub record WroteWhole {K : Type 0} (written : K → Option (List ℕ)) (writes : K → List ℕ → ℕ → K → Type 0) (gives : List ℕ → Type 0) (first last : K) : Type 0 where
  pub output : List ℕ
  pub right : gives output
  pub now : written last ≡ appended (written first) output
  pub whole : IsWritten writes output first last

-- the first bytes of such an output were written, and then a write of the others failed: no write
-- follows it
pub record WroteCut {K : Type 0} (written : K → Option (List ℕ)) (writes : K → List ℕ → ℕ → K → Type 0) (gives : Status → List ℕ → Type 0) (first last : K) : Type 0 where
  pub status : Status
  pub output : List ℕ
  pub count : ℕ
  pub right : gives status output
  pub now : written last ≡ appended (written first) (take count output)
  pub cut : IsCutOff writes output count first last

-- the writes of a run that ended with this status: of the whole output, of the first bytes of one
-- up to a write that failed, or none
abbrev pub WritesAs :
    {K : Type 0} → (K → Option (List ℕ)) → (K → List ℕ → ℕ → K → Type 0) → (Status → List ℕ → Type 0) → Status → (first last : K) → Type 0
WritesAs written writes gives Done first last = WroteWhole written writes (gives Done) first last
WritesAs written writes gives Negative first last = WroteWhole written writes (gives Negative) first last
WritesAs written writes gives Usage first last = last ≡ first
WritesAs written writes gives ReadFault first last = last ≡ first
WritesAs written writes gives BadInput first last = WroteWhole written writes (gives BadInput) first last
WritesAs written writes gives WriteFault first last = WroteCut written writes gives first last
WritesAs written writes gives Memory first last = last ≡ first
