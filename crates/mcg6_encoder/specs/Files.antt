-- A graph file and its graph6 text.
-- Stated by: mcg6_encoder. Used by: mcg6_top.
use Rattle.std.specs.Prelude.{◌≡◌, ◌⊎◌, ℕ, ◌-◌, ◌<◌, ◌≤◌, List, [], ◌∷◌, ◌++◌, length, take, slice_index_or}
use Rattle.outside.specs.Common.{most_bytes}
use Rattle.graph_core.specs.from_line_text.Common.{Stands, FirstFault, lines_of}
use Rattle.graph_text.specs.Common.{NamedGraph, either_version}
use Rattle.graph6_text.specs.Common.{graph6_of, ReadsBack}
use Rattle.graph_core.specs.from_line_text.declared.faults.FaultKind.TheVariants.{Limit}
use Rattle.mcg6_reader.specs.declared.ending.BadLine.{BadLine}
use Rattle.mcg6_reader.specs.declared.ending.InputEnding.{InputEnding}
use Rattle.mcg6_reader.specs.declared.ending.InputEnding.TheVariants.{Done, Bad, ReadFault, WriteFault, Memory}

-- the file stands for a graph in one of the two versions, and the output is the graph6 text of that
-- graph, with a line feed: for any two vertices one bit that says whether an edge joins them. So it
-- stands for a simple graph with the same adjacent pairs, whose vertex i is that of the file
pub record IsEncoded (file output : List ℕ) : Type 0 where
  pub named : NamedGraph
  pub stands : Stands either_version file named
  pub line : output ≡ graph6_of named.graph ++ 10 ∷ []
  pub reads_back : ReadsBack (graph6_of named.graph) named.graph

-- the line of that number, counted from 1, without its line feed; empty if the file has fewer lines
abbrev pub kept_line : List ℕ → ℕ → List ℕ
kept_line file number = slice_index_or (lines_of file) (number - 1) []

-- the file stands for no graph, and this is the report on its first error: the line, the kind, and
-- the text of the line
pub record IsOutside (file : List ℕ) (found : BadLine) : Type 0 where
  pub fault : FirstFault either_version file found.number found.kind
  pub text : found.text.items ≡ kept_line file found.number

-- the report on a file that has more bytes than it may have: no line, and the limit
pub record NamesTooLong (found : BadLine) : Type 0 where
  pub number : found.number ≡ 0
  pub kind : found.kind ≡ Limit
  pub nothing : found.text.items ≡ []

-- the file is too long, or it is not and stands for no graph
abbrev pub IsBadFile : List ℕ → BadLine → Type 0
IsBadFile file found = ((most_bytes < length file) × NamesTooLong found) ⊎ ((length file ≤ most_bytes) × IsOutside file found)

-- a proper prefix of the graph6 text of the file
pub record IsCutShort (file output : List ℕ) : Type 0 where
  pub whole : List ℕ
  pub encoded : IsEncoded file whole
  pub count : ℕ
  pub less : count < length whole
  pub part : output ≡ take count whole

-- what is written for a file with these bytes up to an ending: everything, or after any error
-- before the write, nothing
abbrev pub Encodes : (file : List ℕ) → InputEnding → (output : List ℕ) → Type 0
Encodes file Done output = (length file ≤ most_bytes) × IsEncoded file output
Encodes file (Bad found) output = IsBadFile file found × (output ≡ [])
Encodes file ReadFault output = output ≡ []
Encodes file WriteFault output = (length file ≤ most_bytes) × IsCutShort file output
Encodes file Memory output = output ≡ []
