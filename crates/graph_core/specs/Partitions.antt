-- Partitions of the vertices into blocks, and the contraction of each block to a vertex. A block's
-- name is its highest-numbered vertex, and blocks are in increasing order of their names. Lovász
-- 1987; but blocks are listed, so that a partition is one list.
-- Stated by: graph_core, contraction, tree_core, tight_cuts, move_laws, uncross and 3 more.
-- Used by: decomposer, tree_check, mcg6_lines, bench_outcomes, bench_reports, bench_top.
use Rattle.std.specs.Prelude.{◌≡◌, ℕ, zero, suc, ◌+◌, ◌-◌, true, false, List, [], ◌∷◌, ◌++◌, map, length, filter, cond, not, nat_lt, slice_index_or, All}
use Rattle.std.specs.List.Sorted.{IsStrictlyIncreasing}
use Rattle.vset_core.specs.from_counting.Common.{count, Within, Set, none, mem, last_of}
use Rattle.graph_core.specs.Graph.{Graph}
use Rattle.graph_core.specs.Matchings.{IsPerfect}

-- block i, counted from 1
abbrev pub block : List (List ℕ) → ℕ → List ℕ
block p i = slice_index_or p (i - 1) []

-- the place of the block that contains v, or one past the end if none does
abbrev pub place : List (List ℕ) → ℕ → ℕ
place [] v = 1
place (b ∷ p) v = cond (mem b v) 1 (place p v + 1)

-- the names of the blocks: their highest-numbered vertices
abbrev pub names_of : List (List ℕ) → List ℕ
names_of p = map last_of p

-- each of 1 to n is in exactly one block, no block contains another number, and no block is empty
pub record AreBlocks (n : ℕ) (p : List (List ℕ)) : Type 0 where
  pub once : (v : ℕ) → Within n v → count (length p) (λ i. mem (block p i) v) ≡ 1
  pub within : (i v : ℕ) → Within (length p) i → mem (block p i) v ≡ true → Within n v
  pub full : (i : ℕ) → Within (length p) i → (v : ℕ) × Within n v × (mem (block p i) v ≡ true)

-- a partition of 1 to n: each block is increasing, and the names are increasing
pub record IsPartition (n : ℕ) (p : List (List ℕ)) : Type 0 where
  pub partition : AreBlocks n p
  pub blocks : All IsStrictlyIncreasing p
  pub order : IsStrictlyIncreasing (names_of p)

-- the partition into single vertices
abbrev pub singles : ℕ → List (List ℕ)
singles zero = []
singles (suc n) = singles n ++ ((suc n ∷ []) ∷ [])

-- the numbers of 1 to n outside the list, in increasing order
abbrev pub complement_of : ℕ → List ℕ → List ℕ
complement_of zero x = []
complement_of (suc n) x = complement_of n x ++ cond (mem x (suc n)) [] (suc n ∷ [])

-- the block put among the blocks by its name
abbrev pub insert_block : List ℕ → List (List ℕ) → List (List ℕ)
insert_block b [] = b ∷ []
insert_block b (c ∷ p) = cond (nat_lt (last_of b) (last_of c)) (b ∷ c ∷ p) (c ∷ insert_block b p)

-- merging a union x of blocks: the block x, and the blocks outside x
abbrev pub merged : List (List ℕ) → List ℕ → List (List ℕ)
merged p x = insert_block x (filter (λ b. not (mem x (last_of b))) p)

-- q is p with the union x of blocks merged into one block
pub record IsMerge (n : ℕ) (p : List (List ℕ)) (x : Set) (q : List (List ℕ)) : Type 0 where
  pub partition : AreBlocks n q
  pub new : (c : ℕ) × Within (length q) c × ((v : ℕ) → Within n v → mem (block q c) v ≡ x v)
  pub old : (u v : ℕ) → Within n u → Within n v → x u ≡ false → x v ≡ false → (place q u ≡ place q v → place p u ≡ place p v) × (place p u ≡ place p v → place q u ≡ place q v)

-- the contraction of g at p: each block is a vertex, by place; the edges keep their numbers, and
-- those inside a block are loops
unfoldable pub contracted : Graph → List (List ℕ) → Graph
contracted g p = record { order = length p; ends = map (λ e. (place p e.0, place p e.1)) g.ends }

-- a perfect matching at p: a set of edges of g, none inside a block, such that each block contains
-- an end of exactly one
abbrev pub IsPerfectAt : Graph → List (List ℕ) → Set → Type 0
IsPerfectAt g p m = IsPerfect (contracted g p) none m
