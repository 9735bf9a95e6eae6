-- How often the matchings of a list hold an edge, and how often they meet a cut.
-- Stated by: tight_cuts.
use Rattle.std.specs.Prelude.{◌≡◌, ◌≢◌, ℕ, true, List, sum_by}
use Rattle.graph_core.specs.from_counting.Common.{bit, Within, Set, mem}
use Rattle.graph_core.specs.Common.{Graph, size, in_cut, edges_in_cut, Together}

-- the weight of an edge: how many of the matchings hold it
abbrev pub weight : List (List ℕ) → ℕ → ℕ
weight ms e = sum_by (λ m. bit (mem m e)) ms

-- the edges in the cut of x, counted in each of the matchings
unfoldable pub cut_sum : Graph → List (List ℕ) → Set → ℕ
cut_sum g ms x = sum_by (λ m. edges_in_cut g (mem m) x) ms

-- no two different edges of the cut of x lie together in a perfect matching
abbrev pub NoTwoTogether : Graph → Set → Type 0
NoTwoTogether g x = (e f : ℕ) → Within (size g) e → Within (size g) f → e ≢ f → in_cut g x e ≡ true → in_cut g x f ≡ true → Together g e f → ⊥
