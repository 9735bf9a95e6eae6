-- A blossom given by its set of vertices and its base only, and the outer vertices of a matching
-- that misses one vertex.
-- Stated by: match_search.
use Rattle.std.specs.Prelude.{◌≡◌, ◌≢◌, ◌↔◌, ℕ, suc, ◌+◌, ◌≤◌, ◌<◌, true, false, length, List}
use Rattle.graph_core.specs.from_counting.Common.{Within, count, Set, mem}
use Rattle.graph_core.specs.Common.{Graph, first_end, second_end, size, missed_count}
use Rattle.match_search.specs.AlternatingForests.{HoldsAlternating, HoldsMatching}
use Rattle.match_search.specs.Frames.{Frame}
use Rattle.match_search.specs.Mates.{HasMates}
use Rattle.match_search.specs.OddCycles.{IsOddCycle, every_other, listed, picked}
use Rattle.match_search.specs.Rows.{numbers}
use Rattle.match_search.specs.declared.alternating.AlternatingForest.{AlternatingForest}
use Rattle.match_search.specs.declared.flower.Flower.{Flower}
use Rattle.match_search.specs.declared.instance.Instance.{Instance}

-- the vertices of c, with the base z, are what a forest for f can shrink: the path to the base
-- comes to c there, and goes on in the path of each outer vertex of c; all mates of c but that of
-- the base are in c; and e1 contains the edges of f in c
pub record IsContractible (g : Graph) (r f : Set) (outer : Set) (k : ℕ → ℕ) (v : ℕ → ℕ → ℕ) (mate : ℕ → ℕ) (c : Set) (z : ℕ) (e1 : Set) : Type 0 where
  pub base : c z ≡ true
  pub base_outer : outer z ≡ true
  pub left : (u : ℕ) → c u ≡ true → r u ≡ false
  pub over : (u : ℕ) → c u ≡ true → outer u ≡ true → (k z ≤ k u) × ((j : ℕ) → j ≤ k z + k z → v u j ≡ v z j)
  pub stem : (j : ℕ) → j < k z + k z → c (v z j) ≡ false
  pub pairs : (u : ℕ) → c u ≡ true → u ≢ z → c (mate u) ≡ true
  pub chosen : (d : ℕ) → Within (size g) d → e1 d ≡ true → (f d ≡ true) × (c (first_end g d) ≡ true) × (c (second_end g d) ≡ true)
  pub taken : (d : ℕ) → Within (size g) d → f d ≡ true → c (first_end g d) ≡ true → c (second_end g d) ≡ true → e1 d ≡ true

-- c is the set of vertices of an odd cycle that begins at the base z, and can be shrunk to it
pub record IsFlower (g : Graph) (r f : Set) (outer : Set) (k : ℕ → ℕ) (v : ℕ → ℕ → ℕ) (mate : ℕ → ℕ) (c : Set) (z : ℕ) : Type 0 where
  pub length_of : ℕ
  pub vertex : ℕ → ℕ
  pub edge : ℕ → ℕ
  pub cycle : IsOddCycle g r length_of vertex edge
  pub first : vertex 1 ≡ z
  pub members : (u : ℕ) → c u ≡ listed length_of vertex u
  pub fits : IsContractible g r f outer k v mate c z (picked length_of (every_other 1) edge)

-- the blossom is one of the forest h for f, which has these mates
abbrev pub HoldsFlower : (g : Graph) (r f : Set) (mate : List ℕ) (t : AlternatingForest) → HoldsAlternating g r f mate t → Flower → Type 0
HoldsFlower g r f mate t h b = IsFlower g r f (mem t.outer) h.k h.v (numbers mate) (mem b.members) b.base

-- v is an outer vertex of a path of k pairs of edges: it is at one of the places 0, 2, .., k + k
abbrev pub IsOuterOf : (ℕ → ℕ) → ℕ → ℕ → Type 0
IsOuterOf p k v = (s : ℕ) × (s ≤ k) × (p (s + s) ≡ v)

-- v is at one of the places from i + 1 to k + k of a path
abbrev pub IsBeyond : (ℕ → ℕ) → ℕ → ℕ → ℕ → Type 0
IsBeyond p i k v = (j : ℕ) × (i < j) × (j ≤ k + k) × (p j ≡ v)

-- the mates and the forest are those of a graph within the limits
pub record HoldsForest (mate : List ℕ) (t : AlternatingForest) : Type 0 where
  pub g : Graph
  pub r : Set
  pub f : Set
  pub holds : HoldsAlternating g r f mate t
  pub mates : HasMates g r f (numbers mate)
  pub long : length mate ≡ suc g.order
  pub few : g.order ≤ 128

-- the path to y contains the path to u
abbrev pub GoesOver : (ℕ → ℕ) → (ℕ → ℕ → ℕ) → ℕ → ℕ → Type 0
GoesOver k v u y = (j : ℕ) → j ≤ k u + k u → v u j ≡ v y j

-- an outer vertex of the path to y is in the set
pub record MeetsSet (mate : List ℕ) (t : AlternatingForest) (set : List ℕ) (y : ℕ) : Type 0 where
  pub h : HoldsForest mate t
  pub outer : mem t.outer y ≡ true
  pub place : ℕ
  pub within : place ≤ h.holds.k y
  pub member : mem set (h.holds.v y (place + place)) ≡ true

-- u is the last outer vertex of the path to y that is in the set, and the way is the set of the
-- vertices after it
pub record IsLastIn (k : ℕ → ℕ) (v : ℕ → ℕ → ℕ) (set : List ℕ) (y u : ℕ) (way : List ℕ) : Type 0 where
  pub pairs : k u ≤ k y
  pub over : GoesOver k v u y
  pub later : (s : ℕ) → k u < s → s ≤ k y → mem set (v y (s + s)) ≡ false
  pub way_is : (w : ℕ) → (mem way w ≡ true) ↔ IsBeyond (v y) (k u + k u) (k y) w

-- the instance is g - r, and the mates are those of a matching f of it that misses exactly one
-- vertex, the root
pub record HoldsRooted (g : Graph) (r f : Set) (s : Instance) (mate : List ℕ) (root : ℕ) : Type 0 where
  pub holds : HoldsMatching g r f s mate
  pub one : missed_count g r f ≡ 1
  pub left : mem s.left root ≡ true
  pub free : numbers mate root ≡ 0

-- the set is the set of outer vertices of a frame for the matching f
pub record HasOuter (g : Graph) (r f : Set) (outer : List ℕ) : Type 0 where
  pub inner : Set
  pub frame : Frame g r (count (size g) f) (mem outer) inner
  pub within : (v : ℕ) → mem outer v ≡ true → Within g.order v
