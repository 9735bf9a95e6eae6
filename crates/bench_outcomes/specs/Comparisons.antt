-- The report on two trees of cuts that are meant to be derivations of one graph: how their leaves
-- are paired, and a script of moves that turns the first into the second (Lovász 1987: any two
-- decompositions have the same leaves, up to multiplicities of edges); or why one of them is
-- refused.
-- Stated by: bench_reports. Used by: bench_outcomes, bench_top, theorems.
use Rattle.std.specs.Prelude.{◌≡◌, ◌≤◌, ◌*◌, ◌⊎◌, ℕ, suc, List, [], ◌∷◌, length, Option, Some, None}
use Rattle.graph_core.specs.Common.{Graph, names_of}
use Rattle.graph_core.specs.from_line_text.Common.{Stands}
use Rattle.tree_core.specs.Common.{IsDerivation, PlainLeafMap, script_maps, leaves, PlainMove, TurnsThrough, Shape, cut_count, leaf_count}
use Rattle.bench_tasks.specs.from_move_text.Common.{move_format, moves_text}
use Rattle.tree_check.specs.from_move_laws.Common.{IsPairing}
use Rattle.report_text.specs.Common.{pairing_text, script_report_text}
use Rattle.report_text.specs.declared.comparisons.MapLine.{MapLine}
use Rattle.bench_outcomes.specs.Checks.{RefusedTree}
use Rattle.bench_outcomes.specs.Uncovered.{Uncovered}
use Rattle.bench_outcomes.specs.declared.report.Report.{Report}
use Rattle.bench_outcomes.specs.declared.status.Status.{Status}
use Rattle.bench_outcomes.specs.declared.status.Status.TheVariants.{Done}

-- the script turns the first derivation through derivations into the second, by few moves: at
-- most 5 c * c for a tree of c cuts
pub record IsScript (g : Graph) (s t : Shape) (moves : List PlainMove) : Type 0 where
  pub first : IsDerivation g s
  pub second : IsDerivation g t
  pub turns : TurnsThrough g s moves t
  pub few : length moves ≤ 5 * (cut_count s * cut_count s)

-- the line of a leaf of this number, with the names of its blocks and of their images
abbrev pub line_of : (number : ℕ) → List (List ℕ) → PlainLeafMap → MapLine
line_of number p m = record { leaf = number; partner = m.to; names = names_of p; images = m.images }

-- the lines of leaves, each with its map, after so many others
abbrev pub map_lines_of : (before : ℕ) → List (List (List ℕ)) → List PlainLeafMap → List MapLine
map_lines_of before [] maps = []
map_lines_of before (p ∷ ps) [] = []
map_lines_of before (p ∷ ps) (m ∷ maps) = line_of (suc before) p m ∷ map_lines_of (suc before) ps maps

-- both trees are derivations: the output is a script from the first to the second, and the maps
-- of this script, which pair the leaves
pub record Compared (g : Graph) (s t : Shape) (status : Status) (output : List ℕ) : Type 0 where
  pub moves : List PlainMove
  pub script : IsScript g s t moves
  pub maps : List PlainLeafMap
  pub of_moves : maps ≡ script_maps g.order s moves
  pub paired : IsPairing g (leaves g.order s) (leaves g.order t) maps
  pub done : status ≡ Done
  pub text : output ≡ pairing_text moves (map_lines_of 0 (leaves g.order s) maps)

-- both trees are derivations: the output is the text of a script from the first to the second,
-- and then the numbers of leaves and of moves as a comment; as a text of moves it stands for this
-- script
pub record Scripted (g : Graph) (s t : Shape) (status : Status) (output : List ℕ) : Type 0 where
  pub moves : List PlainMove
  pub script : IsScript g s t moves
  pub done : status ≡ Done
  pub text : output ≡ script_report_text (moves_text g.order moves) (leaf_count s) (length moves)
  pub stands : Stands (move_format g.order) output moves

-- the graph is not covered, or the first tree is refused, or the first is a derivation and the
-- second is refused
abbrev pub RefusesPair : Graph → Shape → Shape → Status → List ℕ → Type 0
RefusesPair g s t status output = RefusedTree g s 1 status output ⊎ ((IsDerivation g s × RefusedTree g t 2 status output) ⊎ Uncovered g status output)

-- there is a report that refuses one of the trees, or none, and both are derivations
abbrev pub RefusesPairIfAny : Graph → Shape → Shape → Option Report → Type 0
RefusesPairIfAny g s t None = IsDerivation g s × IsDerivation g t
RefusesPairIfAny g s t (Some report) = RefusesPair g s t report.status report.bytes.items

-- the result of `compare`
abbrev pub CompareGives : Graph → Shape → Shape → Status → List ℕ → Type 0
CompareGives g s t status output = Compared g s t status output ⊎ RefusesPair g s t status output

-- the result of `script`
abbrev pub ScriptGives : Graph → Shape → Shape → Status → List ℕ → Type 0
ScriptGives g s t status output = Scripted g s t status output ⊎ RefusesPair g s t status output
