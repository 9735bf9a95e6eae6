-- What the words ask for: a verb, with the names of the files that it reads; one line of
-- `command_of` for each row of the table of words.
-- Stated by: bench_tasks, bench_top, front_top, theorems. Used by: bench_outcomes.
use Rattle.std.specs.Prelude.{List, [], ◌∷◌, ℕ, ◌&&◌, nat_le, if◌then◌else◌, codes, Option, Some, None, option_map, bytes_eq}
use Rattle.graph_core.specs.from_line_text.Common.{is_number, value_of}
use Rattle.decomposer.specs.Common.{order_named}
use Rattle.decomposer.specs.declared.orders.NamedOrder.{NamedOrder}
use Rattle.bench_tasks.specs.declared.verbs.GraphVerb.{GraphVerb}
use Rattle.bench_tasks.specs.declared.verbs.GraphVerb.TheVariants.{Analyse, Convert, Decompose, Ears}
use Rattle.bench_tasks.specs.declared.verbs.SimpleGraphVerb.{SimpleGraphVerb}
use Rattle.bench_tasks.specs.declared.verbs.SimpleGraphVerb.TheVariants.{Analyse6}
use Rattle.bench_tasks.specs.declared.verbs.TreeVerb.{TreeVerb}
use Rattle.bench_tasks.specs.declared.verbs.TreeVerb.TheVariants.{Check}
use Rattle.bench_tasks.specs.declared.verbs.PicksVerb.{PicksVerb}
use Rattle.bench_tasks.specs.declared.verbs.PicksVerb.TheVariants.{DecomposeBy}
use Rattle.bench_tasks.specs.declared.verbs.EarsVerb.{EarsVerb}
use Rattle.bench_tasks.specs.declared.verbs.EarsVerb.TheVariants.{CheckEars}
use Rattle.bench_tasks.specs.declared.verbs.MovesVerb.{MovesVerb}
use Rattle.bench_tasks.specs.declared.verbs.MovesVerb.TheVariants.{Replay}
use Rattle.bench_tasks.specs.declared.verbs.TreesVerb.{TreesVerb}
use Rattle.bench_tasks.specs.declared.verbs.TreesVerb.TheVariants.{Compare, Script}
use Rattle.bench_tasks.specs.declared.verbs.NumbersVerb.{NumbersVerb}
use Rattle.bench_tasks.specs.declared.verbs.NumbersVerb.TheVariants.{Grow}

-- a command: its verb with the names of its files, or its numbers
pub data Command : Type 0 where
  OnGraph : (verb : GraphVerb) (graph_file : List ℕ) → Command
  OnSimpleGraph : (verb : SimpleGraphVerb) (graph_file : List ℕ) → Command
  OnTree : (verb : TreeVerb) (graph_file tree_file : List ℕ) → Command
  OnPicks : (verb : PicksVerb) (graph_file picks_file : List ℕ) → Command
  OnEars : (verb : EarsVerb) (graph_file ears_file : List ℕ) → Command
  OnMoves : (verb : MovesVerb) (graph_file tree_file moves_file : List ℕ) → Command
  OnTrees : (verb : TreesVerb) (graph_file first_file second_file : List ℕ) → Command
  OnNumbers : (verb : NumbersVerb) (seed pieces : ℕ) → Command

-- the command that a word and the name of a file ask for
abbrev pub graph_command : List ℕ → List ℕ → Option Command
graph_command word graph =
    if bytes_eq word (codes "analyse") then Some (OnGraph Analyse graph) else
    if bytes_eq word (codes "convert") then Some (OnGraph Convert graph) else
    if bytes_eq word (codes "analyse6") then Some (OnSimpleGraph Analyse6 graph) else
    if bytes_eq word (codes "ears") then Some (OnGraph Ears graph) else None

-- the command to decompose the graph of that file in an order
abbrev pub decompose_in : List ℕ → NamedOrder → Command
decompose_in graph order = OnGraph (Decompose order) graph

-- the command that a word, the name of a file and the word of an order ask for
abbrev pub order_command : List ℕ → List ℕ → List ℕ → Option Command
order_command word graph order = if bytes_eq word (codes "decompose") then option_map (decompose_in graph) (order_named order) else None

-- the most pieces of a graph that grows
abbrev pub most_pieces : ℕ
most_pieces = 16

-- the command to grow a graph that two words ask for: the number of a seed, and that of 1 to 16
-- pieces
abbrev pub grow_command : List ℕ → List ℕ → Option Command
grow_command seed pieces =
    if is_number seed && (is_number pieces && (nat_le 1 (value_of pieces) && nat_le (value_of pieces) most_pieces))
    then Some (OnNumbers Grow (value_of seed) (value_of pieces)) else None

-- the command that a word, the name of a file, and a second name or the word of an order ask for;
-- or a word and two numbers
abbrev pub pair_command : List ℕ → List ℕ → List ℕ → Option Command
pair_command word graph second =
    if bytes_eq word (codes "check") then Some (OnTree Check graph second) else
    if bytes_eq word (codes "checkears") then Some (OnEars CheckEars graph second) else
    if bytes_eq word (codes "grow") then grow_command graph second else order_command word graph second

-- the command that a word, the name of a file, the word `script` and the name of a further file
-- ask for
abbrev pub script_command : List ℕ → List ℕ → List ℕ → List ℕ → Option Command
script_command word graph script picks =
    if bytes_eq word (codes "decompose") then (if bytes_eq script (codes "script") then Some (OnPicks DecomposeBy graph picks) else None) else None

-- the command that a word and the names of three files, or of one, the word `script` and a
-- further one ask for
abbrev pub triple_command : List ℕ → List ℕ → List ℕ → List ℕ → Option Command
triple_command word graph second third =
    if bytes_eq word (codes "replay") then Some (OnMoves Replay graph second third) else
    if bytes_eq word (codes "compare") then Some (OnTrees Compare graph second third) else
    if bytes_eq word (codes "script") then Some (OnTrees Script graph second third) else script_command word graph second third

-- the command that the words ask for; none if they match no row
abbrev pub command_of : List (List ℕ) → Option Command
command_of [] = None
command_of (word ∷ []) = None
command_of (word ∷ first ∷ []) = graph_command word first
command_of (word ∷ first ∷ second ∷ []) = pair_command word first second
command_of (word ∷ first ∷ second ∷ third ∷ []) = triple_command word first second third
command_of (word ∷ first ∷ second ∷ third ∷ fourth ∷ words) = None
