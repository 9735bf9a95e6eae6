-- What an edge between two outer vertices closes: an augmenting path, or a blossom, an odd cycle
-- with as many edges of the matching as possible.
-- Stated by: match_search.
use Rattle.std.specs.Prelude.{◌≡◌, ◌≢◌, ℕ, suc, ◌+◌, ◌-◌, ◌≤◌, ◌⊎◌, true, false, length, List, Option, Some, None}
use Rattle.graph_core.specs.from_counting.Common.{Within, count, is_odd, Set, mem}
use Rattle.graph_core.specs.Common.{Graph, HasEnds, IsGraph, size, with_ends}
use Rattle.match_search.specs.AlternatingForests.{HoldsAlternating}
use Rattle.match_search.specs.Forests.{IsAlternating}
use Rattle.match_search.specs.Frames.{shrunk_ends, shrunk_removed}
use Rattle.match_search.specs.Instances.{IsInstance}
use Rattle.match_search.specs.Mates.{HasMates}
use Rattle.match_search.specs.OddCycles.{listed}
use Rattle.match_search.specs.Rows.{numbers, part}
use Rattle.match_search.specs.Steps.{IsOpenedCycle, StepAnswer}
use Rattle.match_search.specs.declared.answer.Answer.{Answer}
use Rattle.match_search.specs.declared.alternating.AlternatingForest.{AlternatingForest}
use Rattle.match_search.specs.declared.growing.Adjacent.{Adjacent}
use Rattle.match_search.specs.declared.instance.Instance.{Instance}
use Rattle.match_search.specs.declared.paths.Paths.{Paths}
use Rattle.match_search.specs.declared.blossom.Blossom.{Blossom}

-- an edge of g joins two outer vertices of a forest for the matching f, which has these mates
pub record ClosesForest (g : Graph) (r f : Set) (mate : List ℕ) (t : AlternatingForest) (o : Adjacent) : Type 0 where
  pub graph : IsGraph g
  pub few : g.order ≤ 128
  pub long : length mate ≡ suc g.order
  pub mates : HasMates g r f (numbers mate)
  pub holds : HoldsAlternating g r f mate t
  pub v_outer : mem t.outer o.v ≡ true
  pub w_outer : mem t.outer o.w ≡ true
  pub different : o.v ≢ o.w
  pub edge : (d : ℕ) × Within (size g) d × HasEnds g d o.v o.w

-- the place at which the second path begins
abbrev pub second_start : Paths → ℕ
second_start w = suc (w.first + w.first)

-- the row contains two alternating paths for the matching f, which has these mates, with outer and
-- inner vertices in turn; an edge outside f joins their last vertices
pub record AreClosingPaths (g : Graph) (r f : Set) (mate : List ℕ) (w : Paths) : Type 0 where
  pub graph : IsGraph g
  pub few : g.order ≤ 128
  pub long : length mate ≡ suc g.order
  pub mates : HasMates g r f (numbers mate)
  pub row_long : length w.row.items ≡ second_start w + suc (w.second + w.second)
  pub inner : Set
  pub first_edges : ℕ → ℕ
  pub second_edges : ℕ → ℕ
  pub first_path : IsAlternating g r f w.first (part w.row.items 0) first_edges
  pub second_path : IsAlternating g r f w.second (part w.row.items (second_start w)) second_edges
  pub first_sides : (j : ℕ) → j ≤ w.first + w.first → inner (part w.row.items 0 j) ≡ is_odd j
  pub second_sides : (j : ℕ) → j ≤ w.second + w.second → inner (part w.row.items (second_start w) j) ≡ is_odd j
  pub different : part w.row.items 0 (w.first + w.first) ≢ part w.row.items (second_start w) (w.second + w.second)
  pub edge : ℕ
  pub real : Within (size g) edge
  pub ends : HasEnds g edge (part w.row.items 0 (w.first + w.first)) (part w.row.items (second_start w) (w.second + w.second))
  pub off : f edge ≡ false

-- the number of vertices of a blossom, which are in its row from place 1 on
abbrev pub blossom_length : Blossom → ℕ
blossom_length b = length b.cycle.items - 1

-- the blossom is an odd cycle, and the mates are those of a matching m that misses it: m is f with
-- the edges exchanged on the path to the base, the first vertex, and without its edges in the cycle
pub record HoldsBlossom (g : Graph) (r f : Set) (mate : List ℕ) (b : Blossom) : Type 0 where
  pub members : (v : ℕ) → mem b.members v ≡ listed (blossom_length b) (numbers b.cycle.items) v
  pub m : Set
  pub edge : ℕ → ℕ
  pub opened : IsOpenedCycle g r f m (blossom_length b) (numbers b.cycle.items) edge
  pub mates : HasMates g r m (numbers mate)

-- each vertex without a mate is in the blossom, or had none before
abbrev pub ExposesOnly : List ℕ → List ℕ → Blossom → Type 0
ExposesOnly before after b = (v : ℕ) → numbers after v ≡ 0 → (mem b.members v ≡ true) ⊎ (numbers before v ≡ 0)

-- the mates are those of a matching m with |m| = |f| + 1
abbrev pub IsAugmented : Graph → Set → Set → List ℕ → Type 0
IsAugmented g r f mate = (m : Set) × HasMates g r m (numbers mate) × (count (size g) m ≡ count (size g) f + 1)

-- augmented, or a blossom
abbrev pub IsClosed : Graph → Set → Set → List ℕ → Option Blossom → Type 0
IsClosed g r f mate None = IsAugmented g r f mate
IsClosed g r f mate (Some b) = HoldsBlossom g r f mate b

-- the mates are those of a matching m of g - r, which one step made from f
pub record IsMateStep (g : Graph) (r f : Set) (mate : List ℕ) (s : Answer) : Type 0 where
  pub m : Set
  pub mates : HasMates g r m (numbers mate)
  pub answer : StepAnswer g r f m s

-- g with a blossom shrunk to its base
abbrev pub without_blossom : Graph → Blossom → Graph
without_blossom g b = with_ends g (shrunk_ends g (listed (blossom_length b) (numbers b.cycle.items)) (numbers b.cycle.items 1))

-- the vertices that are removed when a blossom is shrunk: r, and the blossom except its base
abbrev pub removed_with : Set → Blossom → Set
removed_with r b = shrunk_removed r (listed (blossom_length b) (numbers b.cycle.items)) (numbers b.cycle.items 1)

-- the instance is g - r, the blossom was expanded as m, and the mates are those of a matching n of
-- g with the blossom shrunk
pub record MayOpen (g : Graph) (r f m n : Set) (s : Instance) (mate : List ℕ) (b : Blossom) : Type 0 where
  pub instance_is : IsInstance g r s
  pub long : length mate ≡ suc g.order
  pub edge : ℕ → ℕ
  pub opened : IsOpenedCycle g r f m (blossom_length b) (numbers b.cycle.items) edge
  pub mates : HasMates (without_blossom g b) (removed_with r b) n (numbers mate)

-- the mates are those of a matching `full` of g - r with |full| + |m| = |n| + |f|: it is larger
-- than f by as much as n is larger than m
abbrev pub IsCompleted : Graph → Set → Set → Set → Set → List ℕ → Type 0
IsCompleted g r f m n mate = (full : Set) × HasMates g r full (numbers mate) × (count (size g) full + count (size g) m ≡ count (size g) n + count (size g) f)
