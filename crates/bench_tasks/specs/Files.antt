-- The files of a command: the one table that says which files it reads, in which order, and as
-- what.
-- Stated by: bench_tasks, bench_top.
use Rattle.std.specs.Prelude.{ℕ, List, [], ◌∷◌, map}
use Rattle.bench_tasks.specs.Commands.{Command, OnGraph, OnSimpleGraph, OnTree, OnPicks, OnEars, OnMoves, OnTrees, OnNumbers}
use Rattle.refusals.specs.declared.file_kind.FileKind.{FileKind}
use Rattle.refusals.specs.declared.file_kind.FileKind.TheVariants as kind

-- a file of a command: its name, and what it is read as
abbrev pub File : Type 0
File = List ℕ × FileKind

-- the files of a command, in the order of the words
abbrev pub files_of : Command → List File
files_of (OnGraph verb graph) = (graph, kind.Graph) ∷ []
files_of (OnSimpleGraph verb graph) = (graph, kind.Graph6) ∷ []
files_of (OnTree verb graph tree) = (graph, kind.Graph) ∷ (tree, kind.Tree) ∷ []
files_of (OnPicks verb graph picks) = (graph, kind.Graph) ∷ (picks, kind.Picks) ∷ []
files_of (OnEars verb graph ears) = (graph, kind.Graph) ∷ (ears, kind.Ears) ∷ []
files_of (OnMoves verb graph tree moves) = (graph, kind.Graph) ∷ (tree, kind.Tree) ∷ (moves, kind.Moves) ∷ []
files_of (OnTrees verb graph first second) = (graph, kind.Graph) ∷ (first, kind.Tree) ∷ (second, kind.Tree) ∷ []
files_of (OnNumbers verb seed pieces) = []

-- the names of the files of a command, in the order of the words
abbrev pub file_names : Command → List (List ℕ)
file_names command = map (λ (file : File). file.0) (files_of command)
