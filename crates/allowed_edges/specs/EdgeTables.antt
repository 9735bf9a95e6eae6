-- Tables that say which matchings hold an edge: matchings by numbers, in blocks.
-- Stated by: allowed_edges.
use Rattle.std.specs.Prelude.{◌≡◌, ℕ, suc, ◌+◌, ◌<◌, ◌≤◌, Bool, true, List, [], get_or, length, All}
use Rattle.std.specs.Global.{Vec}
use Rattle.std.specs.List.{list_any}
use Rattle.graph_core.specs.from_counting.Common.{mem}

-- the number of edges, the blocks, and how many matchings are in the last block; a block has for
-- each edge the numbers of its matchings that hold it
pub record TableValue : Type 0 where
  pub size : ℕ
  pub blocks : List (Vec (List ℕ))
  pub count : ℕ

-- the numbers of a block at an edge
abbrev pub numbers_at : Vec (List ℕ) → ℕ → List ℕ
numbers_at block e = get_or block.items e []

-- two sets have a member in common
abbrev pub meets : List ℕ → List ℕ → Bool
meets xs ys = list_any (mem ys) xs

-- some matching of the block holds both e and f
abbrev pub share : (e f : ℕ) → Vec (List ℕ) → Bool
share e f block = meets (numbers_at block e) (numbers_at block f)

-- some matching of the table holds both e and f
abbrev pub are_held : TableValue → (e f : ℕ) → Bool
are_held table e f = list_any (share e f) table.blocks

-- each block has a set for each edge; the last has no number above `count`, and is there unless no
-- more matchings fit
pub record IsTable (table : TableValue) : Type 0 where
  pub long : All (λ (block : Vec (List ℕ)). length block.items ≡ table.size + 1) table.blocks
  pub below : (block : Vec (List ℕ)) (i : ℕ) → suc i ≡ length table.blocks → get_or table.blocks i block ≡ block → (e j : ℕ) → mem (numbers_at block e) j ≡ true → j ≤ table.count
  pub few : table.count ≤ 128
  pub some : table.count < 128 → 0 < length table.blocks

-- the table is for the edges 1 to n, and e and f are held if and only if the test says so
pub record MarksPairs (n : ℕ) (both : ℕ → ℕ → Bool) (table : TableValue) : Type 0 where
  pub size : table.size ≡ n
  pub each : (e f : ℕ) → are_held table e f ≡ both e f
