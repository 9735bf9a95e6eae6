-- What the outputs of the program say, in the words of a textbook: the Gallai-Edmonds sets, a
-- tight cut decomposition, a pairing of the leaves of two decompositions, the kind of a graph, an
-- ear decomposition, a script of moves; and what a run read and wrote.
-- Stated by: theorems.
use Rattle.std.specs.Prelude.{◌≡◌, ◌↔◌, ◌++◌, ℕ, List, [], ◌∷◌, All, Some, None, false, length, decimal, drop, flat_map, map, if◌then◌else◌, codes, Option, Ok}
use Rattle.std.specs.List.{AllByRecursion}
use Rattle.std.specs.Option.{ForSome}
use Rattle.bench_top.specs.from_outside.Common.{Answer, AnswersInTurn, OpenState, PrintState, named_texts}
use Rattle.tree_check.specs.from_counting.Common.{Lists, mem}
use Rattle.graph_core.specs.Common.{InA, InC, InD, Graph, IsBipartite, size, singles, IsBicritical, IsCutPair, HasOnlyTrivialTightCuts, IsNontrivial, IsTight, IsWithinLimits}
use Rattle.graph_core.specs.declared.verdict.Kind.{Kind}
use Rattle.graph_core.specs.declared.verdict.Kind.TheVariants.{Brace, Brick, Composite}
use Rattle.graph_text.specs.Common.{NamedGraph, AreNames, either_version}
use Rattle.tree_core.specs.Common.{IsDerivation, IsTightShore, PlainLeafMap, leaf_at, map_at, leaves, PlainMove, TurnsThrough, Shape, shores}
use Rattle.move_text.specs.from_tree_text.Common.{tree_format}
use Rattle.graph_core.specs.from_line_text.Common.{Stands, begin_with, lines_of as text_lines, numbers_of, words_of}
use Rattle.tree_check.specs.from_move_laws.Common.{image}
use Rattle.move_text.specs.Common.{move_format, move_words}
use Rattle.ear_text.specs.from_ear_core.Common.{IsEarList, IsSingle, IsUnrefinable, PlainEars, TakesSingles}
use Rattle.ear_text.specs.EarFormat.{ear_format}
use Rattle.report_text.specs.Common.{analysis_text, kind_word, pairing_text, shore_of}
use Rattle.report_text.specs.declared.analyses.AnalysisLines.{AnalysisLines}
use Rattle.report_text.specs.declared.comparisons.MapLine.{MapLine}
use Rattle.report_text.specs.declared.structures.Structure.{Structure}
use Rattle.bench_tasks.specs.Common.{pick_file}
use Rattle.bench_tasks.specs.Common as loading
use Rattle.bench_top.specs.from_bench_outcomes.Common.{map_lines_of, with_given_names}
use Rattle.bench_top.specs.Writes.{WroteWhole}
use Rattle.theorems.specs.CutWords.{EndsInBrickOrBrace}
use Rattle.theorems.specs.Ears.{IsDisjoint}
use Rattle.theorems.specs.TightCuts.{IsTightCutTreeAt, PairsLeaves}

-- the words behind that word in the first of these lines that begins with it, if one does
abbrev pub words_behind : List ℕ → List (List ℕ) → Option (List (List ℕ))
words_behind word [] = None
words_behind word (line ∷ lines) = if begin_with (words_of line) (word ∷ []) then Some (drop 1 (words_of line)) else words_behind word lines

-- the text lists a set of vertices of 1 to n: the first of its lines that begins with the word has
-- behind it numbers alone, which rise, and these are the vertices of which P holds
pub record ListsSet (n : ℕ) (text word : List ℕ) (P : ℕ → Type 0) : Type 0 where
  pub words : List (List ℕ)
  pub line : words_behind word (text_lines text) ≡ Some words
  pub numbers : List ℕ
  pub read : numbers_of words ≡ Some numbers
  pub lists : Lists n numbers P

-- the output of `analyse` lists the sets D, A and C, each in a line that begins with its letter:
-- the vertices that some maximum matching misses, their other neighbours, the rest
pub record TellsSets (named : NamedGraph) (output : List ℕ) : Type 0 where
  pub lines : AnalysisLines
  pub d : Lists named.graph.order lines.d (InD named.graph)
  pub a : Lists named.graph.order lines.a (InA named.graph)
  pub c : Lists named.graph.order lines.c (InC named.graph)
  pub text : output ≡ with_given_names (analysis_text lines) named.names false
  pub line_d : ListsSet named.graph.order output (codes "D") (InD named.graph)
  pub line_a : ListsSet named.graph.order output (codes "A") (InA named.graph)
  pub line_c : ListsSet named.graph.order output (codes "C") (InC named.graph)

-- the output of `decompose` gives a tight cut decomposition: a tree of nontrivial tight cuts from
-- single vertices on, with bricks and braces at its ends. It is a derivation, and each of its
-- shores is a nontrivial tight shore of the graph itself
pub record TellsDecomposition (g : Graph) (output : List ℕ) : Type 0 where
  pub tree : Shape
  pub cuts : IsTightCutTreeAt g (singles g.order) tree
  pub ends : All (EndsInBrickOrBrace g) (leaves g.order tree)
  pub derivation : IsDerivation g tree
  pub tight : All (IsTightShore g) (shores tree)
  pub stands : Stands (tree_format g.order) output tree

-- the lines of the blocks of a leaf, cut into words: each block by its name, and its image
abbrev pub image_words : List ℕ → List ℕ → List (List (List ℕ))
image_words [] images = []
image_words (name ∷ names) [] = []
image_words (name ∷ names) (image ∷ images) = (codes "map" ∷ decimal name ∷ codes "to" ∷ decimal image ∷ []) ∷ image_words names images

-- the lines of a leaf, cut into words: its partner, and the images of its blocks
abbrev pub leaf_words : MapLine → List (List (List ℕ))
leaf_words line = (codes "leaf" ∷ decimal line.leaf ∷ codes "with" ∷ decimal line.partner ∷ []) ∷ image_words line.names line.images

-- the lines of a pairing, cut into words: the counts, the moves, and the leaves
abbrev pub pairing_words : List PlainMove → List MapLine → List (List (List ℕ))
pairing_words moves maps = (codes "same" ∷ codes "leaves" ∷ decimal (length maps) ∷ codes "moves" ∷ decimal (length moves) ∷ []) ∷ (map (λ m. codes "move" ∷ move_words m) moves ++ flat_map leaf_words maps)

-- the output of `compare` gives a one-to-one pairing of the leaves of two derivations, with
-- bijections that preserve adjacency, and moves that turn the first derivation through
-- derivations into the second; its lines, cut into words, are the counts, these moves, and for
-- each leaf its partner and the images of its blocks
pub record TellsPairing (g : Graph) (s t : Shape) (output : List ℕ) : Type 0 where
  pub maps : List PlainLeafMap
  pub paired : PairsLeaves g (leaves g.order s) (leaves g.order t) (λ i. (map_at maps i).to) (λ i. image (leaf_at (leaves g.order t) (map_at maps i).to) (map_at maps i).images)
  pub moves : List PlainMove
  pub turns : TurnsThrough g s moves t
  pub reads : map words_of (text_lines output) ≡ pairing_words moves (map_lines_of 0 (leaves g.order s) maps)
  pub text : output ≡ pairing_text moves (map_lines_of 0 (leaves g.order s) maps)

-- the first line of the text that begins with the word `kind` has behind it the word of the kind, and
-- the numbers of the shore that comes with it, if one does
pub record SaysKind (text : List ℕ) (kind : Kind) : Type 0 where
  pub numbers : List (List ℕ)
  pub line : words_behind (codes "kind") (text_lines text) ≡ Some (kind_word kind ∷ numbers)
  pub read : numbers_of numbers ≡ Some (shore_of kind)

-- the output of `analyse` says the kind of a matching covered graph in its line `kind`: a brace is
-- bipartite and a brick is not, and neither has a nontrivial tight cut; a brick is a graph that is
-- not bipartite, is bicritical and has no cut pair (Edmonds, Lovász and Pulleyblank); a composite
-- graph is shown by the shore of a nontrivial tight cut
pub record TellsKind (named : NamedGraph) (output : List ℕ) : Type 0 where
  pub lines : AnalysisLines
  pub structure : Structure
  pub told : lines.structure ≡ Some structure
  pub brace : (structure.kind ≡ Brace) ↔ (IsBipartite named.graph × HasOnlyTrivialTightCuts named.graph)
  pub brick : (structure.kind ≡ Brick) ↔ ((¬ IsBipartite named.graph) × HasOnlyTrivialTightCuts named.graph)
  pub bicritical : (structure.kind ≡ Brick) ↔ ((¬ IsBipartite named.graph) × IsBicritical named.graph × ((u v : ℕ) → ¬ IsCutPair named.graph u v))
  pub composite : (x : List ℕ) → structure.kind ≡ Composite x → IsTight named.graph (mem x) × IsNontrivial named.graph.order (mem x)
  pub says : SaysKind output structure.kind
  pub text : output ≡ with_given_names (analysis_text lines) named.names false

-- the output of `ears` tells an ear decomposition, with two ears at once only where neither of them
-- serves alone and no ear decomposition goes on by a single ear, so that the two have no vertex in
-- common, and with single ears where the graph is bipartite
pub record TellsEars (g : Graph) (output : List ℕ) : Type 0 where
  pub list : PlainEars
  pub ears : IsEarList g list
  pub unrefinable : IsUnrefinable g list
  pub singles : TakesSingles g list
  pub disjoint : AllByRecursion (IsDisjoint g) list.steps
  pub single : IsBipartite g → AllByRecursion IsSingle list.steps
  pub stands : Stands (ear_format g.order (size g)) output list

-- the output of `script` gives moves that turn the first derivation through derivations into the
-- second
pub record TellsScript (g : Graph) (s t : Shape) (output : List ℕ) : Type 0 where
  pub moves : List PlainMove
  pub turns : TurnsThrough g s moves t
  pub stands : Stands (move_format g.order) output moves

-- what a graph file can hold: a multigraph of at most 128 vertices and 2048 edges, and names, if
-- there are any, that differ, one for each vertex
pub record IsFileGraph (named : NamedGraph) : Type 0 where
  pub limits : IsWithinLimits named.graph
  pub names : ForSome named.names (λ names. AreNames names × (length names ≡ named.graph.order))

-- the bytes stand for a graph, in either version of the graph format
abbrev pub StandsForGraph : List ℕ → NamedGraph → Type 0
StandsForGraph text named = Stands either_version text named

-- the bytes stand for a tree of cuts of a graph of order n
abbrev pub StandsForTree : ℕ → List ℕ → Shape → Type 0
StandsForTree n text tree = Stands (tree_format n) text tree

-- a file of these bytes holds this list of picks
abbrev pub HoldsPicks : List ℕ → List ℕ → Type 0
HoldsPicks text list = pick_file (([], text) ∷ []) [] ≡ loading.All list

-- a run that is done: its reads of these names, in turn, gave these texts, and it wrote the output
-- whole, and nothing else
pub record IsDoneRun {S K : Type 0} (reads : S → List ℕ → Answer → S → Type 0) (written : K → Option (List ℕ)) (writes : K → List ℕ → ℕ → K → Type 0) (names texts : List (List ℕ)) (output : List ℕ) (first last : S) (before now : K) : Type 0 where
  pub gave : AnswersInTurn reads names (map Ok texts) first last
  pub wrote : WroteWhole written writes (λ told. told ≡ output) before now

-- the installed program was given these texts for these names, in order, and printed this output,
-- and nothing else
pub record IsInstalledRun (names texts : List (List ℕ)) (output : List ℕ) (first last : OpenState) (before now : PrintState) : Type 0 where
  pub given : last.given ≡ first.given ++ named_texts names texts
  pub printed : now.printed ≡ before.printed ++ output
