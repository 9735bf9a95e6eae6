-- Which status and which output a graph file stands for, where its graph6 text is asked for.
-- Stated by no contract. Used by: mcg6_top.
use Rattle.std.specs.Prelude.{◌≡◌, ℕ, ◌≤◌, List, [], length, Option}
use Rattle.mcg6_encoder.specs.from_outside.Common.{most_bytes}
use Rattle.mcg6_reader.specs.declared.ending.BadLine.{BadLine}
use Rattle.mcg6_reader.specs.Common.{Appended, IsKnownLeft}
use Rattle.mcg6_reader.specs.declared.ending.InputEnding.{InputEnding}
use Rattle.mcg6_encoder.specs.Files.{IsBadFile, IsCutShort, IsEncoded}
use Rattle.mcg6_encoder.specs.Reads.{ReadsThenWrites}
use Rattle.mcg6_top.specs.Statuses.{status_encoded}
use Rattle.mcg6_top.specs.declared.status.ListStatus.{ListStatus}
use Rattle.mcg6_top.specs.declared.status.ListStatus.TheVariants.{Done, Usage, ReadFault, BadInput, WriteFault, Memory}

-- the file is bad, and nothing is written of it
pub record StopsAtFile (file output : List ℕ) : Type 0 where
  pub found : BadLine
  pub bad : IsBadFile file found
  pub nothing : output ≡ []

-- what is written of a graph file with these bytes up to a status: the graph6 text of its graph in
-- a line, or a proper prefix of it where writing failed, and else nothing
abbrev pub EncodeOutcome : (file : List ℕ) → ListStatus → (output : List ℕ) → Type 0
EncodeOutcome file Done output = (length file ≤ most_bytes) × IsEncoded file output
EncodeOutcome file Usage output = ⊥
EncodeOutcome file ReadFault output = output ≡ []
EncodeOutcome file BadInput output = StopsAtFile file output
EncodeOutcome file WriteFault output = (length file ≤ most_bytes) × IsCutShort file output
EncodeOutcome file Memory output = output ≡ []

-- what was written is an outcome of some graph file: of the bytes that were left of the source,
-- where it tells them
pub record EncodesSome (status : ListStatus) (left before now : Option (List ℕ)) : Type 0 where
  pub file : List ℕ
  pub is_left : IsKnownLeft left file
  pub outcome : Appended (EncodeOutcome file status) before now

-- the graph file was read first and then encoded, up to an ending with this status
pub record ReadsFirstTo {S K : Type 0} (reads : S → Option (List ℕ) → S → Type 0) (written : K → Option (List ℕ)) (writes : K → List ℕ → ℕ → K → Type 0) (status : ListStatus) (source : S) (sink : K) (last_source : S) (last_sink : K) : Type 0 where
  pub ending : InputEnding
  pub of_status : status ≡ status_encoded ending
  pub order : ReadsThenWrites reads written writes ending source sink last_source last_sink
