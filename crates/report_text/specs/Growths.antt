-- The report of `grow`, as a function of the values in it: a text, which is that of the graph, and
-- after it as comments the numbers of leaves of two of its decompositions, and how many leaves
-- their comparison pairs.
-- Stated by: report_text. Used by: bench_outcomes, bench_top, theorems.
use Rattle.std.specs.Prelude.{ℕ, List, ◌++◌, codes, decimal}
use Rattle.report_text.specs.Words.{tally_end}
use Rattle.move_text.specs.from_tree_core.declared.tallies.Tally.{Tally}

-- the line of the leaves of the decomposition by the order of this name
abbrev pub order_line : (order : List ℕ) → Tally → List ℕ
order_line order tally = codes "c " ++ order ++ tally_end tally

-- the line of the number of pairs
abbrev pub pairs_line : ℕ → List ℕ
pairs_line pairs = codes "c pairs " ++ decimal pairs ++ codes "\n"

-- the comments
abbrev pub growth_lines : (first last : Tally) → (pairs : ℕ) → List ℕ
growth_lines first last pairs = (order_line (codes "first") first ++ order_line (codes "last") last) ++ pairs_line pairs

-- a text, and after it the comments
unfoldable pub grown_text : List ℕ → (first last : Tally) → (pairs : ℕ) → List ℕ
grown_text text first last pairs = text ++ growth_lines first last pairs
