-- Plain trees of cuts: what a tree says, whatever boxes hold its nodes.
-- Stated by: tree_core, decomposer, move_laws, tree_check, uncross, tree_text and 4 more.
-- Used by: mcg6_lines, bench_outcomes, bench_top.
use Rattle.std.specs.Prelude.{ℕ, ◌+◌, ◌-◌, List, [], ◌∷◌, ◌++◌, max, All}
use Rattle.graph_core.specs.from_counting.Common.{Within}

-- a tree of cuts: a leaf, or a cut by its shore with two trees, one where the shore is kept and
-- one where it is merged
pub data Shape : Type 0 where
  leaf : Shape
  cut : (shore : List ℕ) (kept merged : Shape) → Shape

-- each shore lies in 1 to n - 1
abbrev pub Fits : ℕ → Shape → Type 0
Fits n leaf = Unit {0}
Fits n (cut x k m) = All (Within (n - 1)) x × Fits n k × Fits n m

-- how many nodes, the leaves among them
abbrev pub node_count : Shape → ℕ
node_count leaf = 1
node_count (cut x k m) = 1 + node_count k + node_count m

-- how many cuts
abbrev pub cut_count : Shape → ℕ
cut_count leaf = 0
cut_count (cut x k m) = 1 + cut_count k + cut_count m

-- how many leaves
abbrev pub leaf_count : Shape → ℕ
leaf_count leaf = 1
leaf_count (cut x k m) = leaf_count k + leaf_count m

-- the most nodes on a path from the root to a leaf
abbrev pub depth : Shape → ℕ
depth leaf = 1
depth (cut x k m) = 1 + max (depth k) (depth m)

-- the shores of the cuts, in preorder with `kept` before `merged`
abbrev pub shores : Shape → List (List ℕ)
shores leaf = []
shores (cut x k m) = x ∷ (shores k ++ shores m)
