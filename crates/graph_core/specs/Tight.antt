-- Tight cuts of a graph, and the contraction of one vertex set (Lovász 1987).
-- Stated by: graph_core, barrier_kit, matching_digraph, separation_kit, brick_kit and 8 more.
-- Used by: tree_core, tree_check, mcg6_lines.
use Rattle.std.specs.Prelude.{◌≡◌, ◌≢◌, ℕ, ◌≤◌, Bool, true, false, ◌==◌, ◌&&◌, ◌||◌, not, nat_le, if◌then◌else◌}
use Rattle.vset_core.specs.from_counting.Common.{count, is_odd, Within, Set, none, complement, each_set}
use Rattle.graph_core.specs.Graph.{Graph, size, first_end, second_end, edges_in_cut}
use Rattle.graph_core.specs.Matchings.{IsPerfect, is_perfect}

-- |m ∩ ∂(x)| = 1 for each perfect matching m
abbrev pub CutIsTight : Graph → Set → Type 0
CutIsTight g x = (m : Set) → IsPerfect g none m → edges_in_cut g m x ≡ 1

-- x is a tight shore: |x| and |V - x| are odd, and |m ∩ ∂(x)| = 1 for each perfect matching m
pub record IsTight (g : Graph) (x : Set) : Type 0 where
  pub odd : is_odd (count g.order x) ≡ true
  pub odd_complement : is_odd (count g.order (complement x)) ≡ true
  pub cut : CutIsTight g x

-- x is a tight shore, as a test
abbrev pub is_tight : Graph → Set → Bool
is_tight g x = is_odd (count g.order x) && is_odd (count g.order (complement x)) && each_set (size g) (λ m. not (is_perfect g none m) || (edges_in_cut g m x == 1))

-- nontrivial: |x| and |{1, .., n} - x| are at least 3
pub record IsNontrivial (n : ℕ) (x : Set) : Type 0 where
  pub inside : 3 ≤ count n x
  pub outside : 3 ≤ count n (complement x)

-- the same as a test
abbrev pub is_nontrivial : ℕ → Set → Bool
is_nontrivial n x = nat_le 3 (count n x) && nat_le 3 (count n (complement x))

-- no tight shore of g is nontrivial; a covered graph with this property is a brick or a brace
abbrev pub HasOnlyTrivialTightCuts : Graph → Type 0
HasOnlyTrivialTightCuts g = (x : Set) → IsTight g x → IsNontrivial g.order x → ⊥

-- the shore of ∂(x) that does not contain n
abbrev pub canonical_shore : ℕ → Set → Set
canonical_shore n x v = if x n then not (x v) else x v

-- h is g with x contracted to the vertex c; f says which vertex of h each vertex becomes
pub record Merges (g : Graph) (x : Set) (h : Graph) (f : ℕ → ℕ) (c : ℕ) : Type 0 where
  pub edges : size h ≡ size g
  pub first_ends : (e : ℕ) → Within (size g) e → first_end h e ≡ f (first_end g e)
  pub second_ends : (e : ℕ) → Within (size g) e → second_end h e ≡ f (second_end g e)
  pub inside : (v : ℕ) → Within g.order v → x v ≡ true → f v ≡ c
  pub outside : (v : ℕ) → Within g.order v → x v ≡ false → Within h.order (f v) × (f v ≢ c)
  pub apart : (u v : ℕ) → Within g.order u → Within g.order v → x u ≡ false → x v ≡ false → f u ≡ f v → u ≡ v
  pub onto : (w : ℕ) → Within h.order w → w ≢ c → (v : ℕ) × Within g.order v × (x v ≡ false) × (f v ≡ w)
  pub new : Within h.order c
