-- The report of `decompose` on a matching covered graph, as a function of the values in it: a text,
-- which is that of the tree, and after it comments: for each leaf its kind, its blocks, and for
-- each pair of adjacent blocks the edges of the graph between them; and last how many leaves there
-- are.
-- Stated by: report_text. Used by: bench_outcomes, theorems.
use Rattle.std.specs.Prelude.{ℕ, zero, suc, List, [], ◌++◌, length, slice_index_or, codes, decimal}
use Rattle.move_text.specs.from_counting.Common.{last_of}
use Rattle.graph_core.specs.Common.{Graph, size, first_end, second_end, block, quotient, remembered}
use Rattle.report_text.specs.Reports.{list_line, numbers_text}
use Rattle.report_text.specs.Words.{leaf_kind_word, tally_end}
use Rattle.move_text.specs.from_tree_core.Common.{leaf_at, kind_at, tally_of}
use Rattle.move_text.specs.from_tree_core.declared.tallies.LeafKind.{LeafKind}
use Rattle.move_text.specs.from_tree_core.declared.tallies.Tally.{Tally}

-- the line of a leaf with its number
abbrev pub numbered_leaf_line : ℕ → LeafKind → List ℕ
numbered_leaf_line number kind = codes "c leaf " ++ decimal number ++ codes " " ++ leaf_kind_word kind ++ codes "\n"

-- the lines of the first blocks, so many
abbrev pub block_lines : List (List ℕ) → ℕ → List ℕ
block_lines p zero = []
block_lines p (suc k) = block_lines p k ++ list_line (codes "c block") (slice_index_or p k [])

-- the line of two adjacent blocks, by their names, and of the edges between them
abbrev pub adjacent_line : (a b : ℕ) → List ℕ → List ℕ
adjacent_line a b edges = codes "c edge " ++ decimal a ++ codes " " ++ decimal b ++ codes " by" ++ numbers_text edges ++ codes "\n"

-- the name of the block at a place, counted from 1: its highest-numbered vertex
abbrev pub name_at : List (List ℕ) → ℕ → ℕ
name_at p i = last_of (block p i)

-- the lines of the first pairs of adjacent blocks, so many, in lexicographic order of their
-- places: the edges of the quotient
abbrev pub adjacent_lines : Graph → List (List ℕ) → ℕ → List ℕ
adjacent_lines g p zero = []
adjacent_lines g p (suc k) =
    adjacent_lines g p k
    ++ adjacent_line (name_at p (first_end (quotient g p) (suc k))) (name_at p (second_end (quotient g p) (suc k))) (remembered g p (suc k))

-- all lines of the leaf at a partition
unfoldable pub leaf_text : Graph → ℕ → List (List ℕ) → LeafKind → List ℕ
leaf_text g number p kind = (numbered_leaf_line number kind ++ block_lines p (length p)) ++ adjacent_lines g p (size (quotient g p))

-- the lines of the first leaves, so many, in order
abbrev pub numbered_leaf_lines : Graph → List (List (List ℕ)) → List LeafKind → ℕ → List ℕ
numbered_leaf_lines g ps kinds zero = []
numbered_leaf_lines g ps kinds (suc k) = numbered_leaf_lines g ps kinds k ++ leaf_text g (suc k) (leaf_at ps (suc k)) (kind_at kinds (suc k))

-- the line of the counts
abbrev pub tally_line : Tally → List ℕ
tally_line tally = codes "c" ++ tally_end tally

-- a text, and after it the lines of the leaves and of their counts
unfoldable pub derivation_text : List ℕ → Graph → List (List (List ℕ)) → List LeafKind → List ℕ
derivation_text text g ps kinds = (text ++ numbered_leaf_lines g ps kinds (length ps)) ++ tally_line (tally_of kinds)
