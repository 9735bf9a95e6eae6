-- Paths that go from level to level of a search, with the place in each node's row where they
-- continue.
-- Stated by: flow_core.
use Rattle.std.specs.Prelude.{◌≡◌, ℕ, suc, ◌+◌, ◌-◌, ◌*◌, ◌<◌, List, length, slice_index, ℤ}
use Rattle.vset_core.specs.from_counting.Common.{total, row_of}
use Rattle.flow_core.specs.Nets.{Net}
use Rattle.flow_core.specs.Search.{visited_node, IsTree}
use Rattle.flow_core.specs.declared.search.Visit.{Visit}

-- a path as a search tree: visit j is at level j, and the row of each node except the last has an
-- arc at its place
pub record IsLaid (net : Net) (rows : List (List ℕ)) (amounts : List ℤ) (levels places : List ℕ) (path : List Visit) : Type 0 where
  pub tree : IsTree net amounts path
  pub all_levels : length levels ≡ suc net.nodes
  pub all_places : length places ≡ suc net.nodes
  pub rising : (j : ℕ) → j < length path → slice_index levels (visited_node path j) ≡ j
  pub ahead : (j : ℕ) → suc j < length path → slice_index places (visited_node path j) < length (row_of rows (visited_node path j))

-- how many arcs are left in the rows
abbrev pub arcs_left : ℕ → List (List ℕ) → List ℕ → ℕ
arcs_left nodes rows places = total nodes (λ v. length (row_of rows v) - slice_index places v)

-- a measure of the remaining work: it decreases with each step of the path, forward or back, and
-- with each arc that is skipped
abbrev pub work_left : ℕ → List (List ℕ) → List ℕ → List Visit → ℕ
work_left nodes rows places path = 2 * arcs_left nodes rows places + (256 - length path)
