-- The answer to a line of a list.
-- Stated by: mcg6_top. Used by: theorems.
use Rattle.std.specs.Prelude.{◌≡◌, ℕ, ◌==◌, ◌⊎◌, nat_lt, Bool, false, true, if◌then◌else◌, List, [], ◌∷◌, IsTrue, IsFalse, Option, Some, None}
use Rattle.line_text.specs.declared.faults.FaultKind.{FaultKind}
use Rattle.line_text.specs.declared.faults.FaultKind.TheVariants.{Extra, Missing}
use Rattle.mcg6_lines.specs.declared.query.Query.{Query}
use Rattle.mcg6_lines.specs.declared.query.Query.TheVariants.{Kinds, Leaves, Elementary, Matching, Cuts, Ears, Graph, Select}
use Rattle.mcg6_lines.specs.Telling.{TellsLine, HasFault}
use Rattle.mcg6_top.specs.declared.command.AtBadLine.{AtBadLine}
use Rattle.mcg6_top.specs.declared.command.AtBadLine.TheVariants.{Stop, Skip}
use Rattle.mcg6_reader.specs.Common.{is_header_line}
use Rattle.mcg6_reader.specs.declared.place.LinePlace.{LinePlace}

-- the file of one graph is asked for, and a graph stands before the line at that place
abbrev pub is_past_graph : Query → LinePlace → Bool
is_past_graph Kinds place = false
is_past_graph (Leaves order) place = false
is_past_graph Elementary place = false
is_past_graph Matching place = false
is_past_graph Cuts place = false
is_past_graph Ears place = false
is_past_graph Graph place = nat_lt 0 place.graphs
is_past_graph (Select property) place = false

-- this output is what is asked of the graph in the line at that place
abbrev pub TellsLineOf : Query → LinePlace → List ℕ → List ℕ → Type 0
TellsLineOf query place line output = IsFalse (is_past_graph query place) × TellsLine query place.number line output

-- the line at that place is bad: a further line if one is asked for, or it stands for no graph
abbrev pub IsBadLine : Query → LinePlace → List ℕ → FaultKind → Type 0
IsBadLine query place line kind =
    (IsTrue (is_past_graph query place) × (kind ≡ Extra)) ⊎ (IsFalse (is_past_graph query place) × HasFault line kind)

-- what a list lacks that ends after so many graphs: the one whose file is asked for
abbrev pub lacks_of : Query → ℕ → Option FaultKind
lacks_of Kinds graphs = None
lacks_of (Leaves order) graphs = None
lacks_of Elementary graphs = None
lacks_of Matching graphs = None
lacks_of Cuts graphs = None
lacks_of Ears graphs = None
lacks_of Graph graphs = if graphs == 0 then Some Missing else None
lacks_of (Select property) graphs = None

-- the output of the line at that place: what is asked of its graph; of a bad line nothing, if the
-- list goes on after it
abbrev pub TellsOrSkips : Query → AtBadLine → LinePlace → List ℕ → List ℕ → Type 0
TellsOrSkips query Stop place line output = TellsLineOf query place line output
TellsOrSkips query Skip place line output =
    TellsLineOf query place line output ⊎ (((kind : FaultKind) × IsBadLine query place line kind) × (output ≡ []))

-- the list ends at the line at that place, which is bad with a first error of this kind: none does
-- if the list goes on after bad lines
abbrev pub ListStopsAt : Query → AtBadLine → LinePlace → List ℕ → FaultKind → Type 0
ListStopsAt query Stop place line kind = IsBadLine query place line kind
ListStopsAt query Skip place line kind = ⊥

-- the line at that place is skipped, as it is bad with a first error of this kind; or, with none,
-- it is not bad. No line is skipped if the list ends at a bad line
abbrev pub SkipsLine : Query → AtBadLine → LinePlace → List ℕ → Option FaultKind → Type 0
SkipsLine query Stop place line None = Unit {0}
SkipsLine query Stop place line (Some kind) = ⊥
SkipsLine query Skip place line None = (kind : FaultKind) → IsBadLine query place line kind → ⊥
SkipsLine query Skip place line (Some kind) = IsBadLine query place line kind

-- what may be written for a line that is not a header depends on the line alone, and not on its
-- number
abbrev pub is_by_line : Query → Bool
is_by_line Kinds = true
is_by_line (Leaves order) = false
is_by_line Elementary = false
is_by_line Matching = true
is_by_line Cuts = false
is_by_line Ears = false
is_by_line Graph = false
is_by_line (Select property) = true

-- the first of the lines is just the header
abbrev pub opens_with_header : List (List ℕ) → Bool
opens_with_header [] = false
opens_with_header (line ∷ lines) = is_header_line line
