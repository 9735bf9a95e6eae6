-- The text that is written for a tree.
-- Stated by: tree_text, bench_reports. Used by: bench_outcomes, bench_top, theorems.
use Rattle.std.specs.Prelude.{ℕ, ◌≤◌, ◌<◌, ◌^◌, List, [], ◌∷◌, ◌++◌, codes, length, map, decimal}
use Rattle.std.specs.List.Sorted.{IsStrictlyIncreasing}
use Rattle.graph_core.specs.from_line_text.Common.{written}
use Rattle.tree_core.specs.Common.{Shape, leaf, cut, Fits, node_count}
use Rattle.tree_text.specs.TreeFormat.{most_nodes}

-- the words of the header
abbrev pub header_words : ℕ → List (List ℕ)
header_words n = codes "t" ∷ codes "mcg" ∷ decimal n ∷ []

-- the words of a cut
abbrev pub cut_words : List ℕ → List (List ℕ)
cut_words shore = codes "cut" ∷ map decimal shore

-- the words of the lines of the nodes, in preorder, `kept` before `merged`
abbrev pub node_words : Shape → List (List (List ℕ))
node_words leaf = (codes "leaf" ∷ []) ∷ []
node_words (cut x k m) = cut_words x ∷ node_words k ++ node_words m

-- the text of a tree over 1 to n: one space between words, a line feed after each line, numbers
-- in decimal
unfoldable pub tree_text : ℕ → Shape → List ℕ
tree_text n t = written (header_words n ∷ node_words t)

-- no shore is empty
abbrev pub HasVertices : Shape → Type 0
HasVertices leaf = Unit {0}
HasVertices (cut x k m) = (0 < length x) × HasVertices k × HasVertices m

-- each shore is increasing
abbrev pub ShoresRise : Shape → Type 0
ShoresRise leaf = Unit {0}
ShoresRise (cut x k m) = IsStrictlyIncreasing x × ShoresRise k × ShoresRise m

-- a tree that can be written: it fits n, each shore is a nonempty increasing list, and there are
-- not too many nodes
pub record IsWritable (n : ℕ) (t : Shape) : Type 0 where
  pub order : n < 10 ^ 9
  pub fits : Fits n t
  pub vertices : HasVertices t
  pub rising : ShoresRise t
  pub few : node_count t ≤ most_nodes
