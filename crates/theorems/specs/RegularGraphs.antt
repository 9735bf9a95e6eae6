-- Cuts by their number of edges, graphs without a bridge, regular graphs and r-graphs. Any
-- textbook; r-graphs: Seymour 1979.
-- Stated by: theorems.
use Rattle.std.specs.Prelude.{◌≡◌, ℕ, ◌≤◌, true, false}
use Rattle.tree_check.specs.from_counting.Common.{Within, count, is_odd, Set, everything}
use Rattle.graph_core.specs.Common.{Graph, degree, edges_in_cut}

-- |∂(x)|
abbrev pub cut_size : Graph → Set → ℕ
cut_size g x = edges_in_cut g everything x

-- 2-edge-connected: |∂(x)| ≥ 2 for each vertex set x with x ≠ ∅ and x ≠ V
abbrev pub IsTwoEdgeConnected : Graph → Type 0
IsTwoEdgeConnected g = (x : Set) (u v : ℕ) → Within g.order u → Within g.order v → x u ≡ true → x v ≡ false → 2 ≤ cut_size g x

-- r edges are at each vertex
abbrev pub IsRegular : ℕ → Graph → Type 0
IsRegular r g = (v : ℕ) → Within g.order v → degree g everything v ≡ r

-- |∂(x)| ≥ r for each vertex set x with |x| odd; an r-regular graph of this kind is an r-graph
abbrev pub HasWideOddCuts : ℕ → Graph → Type 0
HasWideOddCuts r g = (x : Set) → is_odd (count g.order x) ≡ true → r ≤ cut_size g x
