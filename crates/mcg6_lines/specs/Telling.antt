-- The answer to a line of a list of graphs.
-- Stated by: mcg6_lines. Used by: mcg6_top, theorems.
use Rattle.std.specs.Prelude.{◌≡◌, ℕ, ◌||◌, nat_lt, if◌then◌else◌, List, Ok, Err}
use Rattle.graph_core.specs.Common.{Graph, size}
use Rattle.graph_core.specs.from_line_text.declared.faults.FaultKind.{FaultKind}
use Rattle.graph6_text.specs.Common.{outcome_of}
use Rattle.graph_text.specs.Common.{most_vertices, most_edges, plain_names, graph_text, named_text}
use Rattle.mcg6_lines.specs.KindLines.{IsKindLine}
use Rattle.mcg6_lines.specs.LeafLines.{AreLeafLines}
use Rattle.mcg6_lines.specs.Elementary.{elementary_lines}
use Rattle.mcg6_lines.specs.MatchingLines.{IsMatchingLine}
use Rattle.mcg6_lines.specs.CutLines.{AreCutLines}
use Rattle.mcg6_lines.specs.EarLines.{AreEarLines}
use Rattle.mcg6_lines.specs.Selecting.{IsSelected}
use Rattle.mcg6_lines.specs.declared.query.Query.{Query}
use Rattle.mcg6_lines.specs.declared.query.Query.TheVariants.{Kinds, Leaves, Elementary, Matching, Cuts, Ears, Graph as GraphFile, Select}

-- the canonical text of the graph's file: of version 1 within its limits of 64 vertices and 512
-- edges, and else of version 2 with plain names
unfoldable pub file_text : Graph → List ℕ
file_text g =
    if nat_lt most_vertices g.order || nat_lt most_edges (size g) then named_text g (plain_names g.order) else graph_text g

-- the answer on the graph g that stands in a line with this number: the bytes that are written
-- for it
abbrev pub IsTold : Query → ℕ → (line : List ℕ) → Graph → (bytes : List ℕ) → Type 0
IsTold Kinds number line g bytes = IsKindLine g bytes
IsTold (Leaves order) number line g bytes = AreLeafLines order number g bytes
IsTold Elementary number line g bytes = bytes ≡ elementary_lines number g
IsTold Matching number line g bytes = IsMatchingLine g bytes
IsTold Cuts number line g bytes = AreCutLines number g bytes
IsTold Ears number line g bytes = AreEarLines number g bytes
IsTold GraphFile number line g bytes = bytes ≡ file_text g
IsTold (Select property) number line g bytes = IsSelected property g line bytes

-- the line stands for a graph, and the bytes answer what is asked of it
pub record TellsLine (query : Query) (number : ℕ) (line bytes : List ℕ) : Type 0 where
  pub graph : Graph
  pub stands : outcome_of line ≡ Ok graph
  pub told : IsTold query number line graph bytes

-- the line stands for no graph, and this is the kind of its first fault
pub record HasFault (line : List ℕ) (kind : FaultKind) : Type 0 where
  pub at : ℕ
  pub fault : outcome_of line ≡ Err (at, kind)
