-- The tree of a search over residual arcs: the visits in the order in which the nodes were reached.
-- Stated by: flow_core.
use Rattle.std.specs.Prelude.{◌≡◌, ◌≢◌, ℕ, ◌-◌, ◌≤◌, ◌<◌, ◌^◌, true, false, List, length, slice_index_or, ℤ, pos, ◌≤ℤ◌}
use Rattle.vset_core.specs.from_counting.Common.{Within, count, mem}
use Rattle.flow_core.specs.Nets.{Arc, Net}
use Rattle.flow_core.specs.Residual.{arc_at, amount_at, Joins, room_from, IsScanned}
use Rattle.flow_core.specs.declared.search.Visit.{Visit}

-- visit j, counted from 0
abbrev pub visit_at : List Visit → ℕ → Visit
visit_at visits j = slice_index_or visits j (record { node = 0; parent = 0; arc = 0; room = 0 })

-- the node of visit j
abbrev pub visited_node : List Visit → ℕ → ℕ
visited_node visits j = (visit_at visits j).node

-- the visit comes from another over a residual arc; its own amount can be sent all the way from the
-- first visit
pub record IsVisitStep (arcs : List Arc) (amounts : List ℤ) (from visit : Visit) : Type 0 where
  pub is_arc : visit.arc < length arcs
  pub joins : Joins (arc_at arcs visit.arc) from.node visit.node
  pub some : 0 < visit.room
  pub within : pos visit.room ≤ℤ room_from from.node (arc_at arcs visit.arc) (amount_at amounts visit.arc)
  pub below : visit.room ≤ from.room

-- visit j comes from an earlier one
pub record IsVisit (arcs : List Arc) (amounts : List ℤ) (visits : List Visit) (j : ℕ) : Type 0 where
  pub earlier : (visit_at visits j).parent < j
  pub step : IsVisitStep arcs amounts (visit_at visits (visit_at visits j).parent) (visit_at visits j)

-- a search tree: its first visit is the root, each other comes from an earlier one, and no node
-- is visited twice
pub record IsTree (net : Net) (amounts : List ℤ) (visits : List Visit) : Type 0 where
  pub some : 0 < length visits
  pub root : (visit_at visits 0).room ≡ 2 ^ 63 - 1
  pub each : (j : ℕ) → 0 < j → j < length visits → IsVisit net.arcs amounts visits j
  pub nodes : (j : ℕ) → j < length visits → Within net.nodes (visited_node visits j)
  pub distinct : (i j : ℕ) → i < j → j < length visits → visited_node visits i ≢ visited_node visits j

-- a search tree for some amounts
pub record HasTree (net : Net) (visits : List Visit) : Type 0 where
  pub amounts : List ℤ
  pub tree : IsTree net amounts visits

-- the set of the visited nodes
pub record IsSetOfVisited (net : Net) (visits : List Visit) (seen : List ℕ) : Type 0 where
  pub all_seen : (j : ℕ) → j < length visits → mem seen (visited_node visits j) ≡ true
  pub seen_only : (v : ℕ) → mem seen v ≡ true → (j : ℕ) × (j < length visits) × (visited_node visits j ≡ v)
  pub size : length visits ≡ count net.nodes (mem seen)

-- the node of the first visit
abbrev pub first_node : List Visit → ℕ
first_node visits = visited_node visits 0

-- the node of the last visit
abbrev pub last_node : List Visit → ℕ
last_node visits = visited_node visits (length visits - 1)

-- a search that has scanned the arcs at its first visits and has not seen the sink
pub record IsSearch (net : Net) (amounts : List ℤ) (sink head : ℕ) (visits : List Visit) (seen : List ℕ) : Type 0 where
  pub tree : IsTree net amounts visits
  pub set : IsSetOfVisited net visits seen
  pub unseen : mem seen sink ≡ false
  pub scanned : (j : ℕ) → j < head → IsScanned net.arcs amounts (mem seen) (visited_node visits j)
