-- Matching covered graphs (Lovász and Plummer; Lucchesi and Murty, "Perfect Matchings"), and the
-- first reason why a graph is not matching covered.
-- Stated by: graph_core, grow_gen, graph_facts, barrier_kit, matching_digraph and 17 more.
-- Used by: uncross, mcg6_lines, bench_outcomes, bench_top.
use Rattle.std.specs.Prelude.{◌≡◌, ◌≢◌, ℕ, ◌≤◌, ◌<◌, List}
use Rattle.vset_core.specs.from_counting.Common.{Within, none, IsLeastWithout, mem, IsRisingIn}
use Rattle.graph_core.specs.Graph.{Graph, size, first_end, second_end}
use Rattle.graph_core.specs.Matchings.{Allowed, HasPerfect}
use Rattle.graph_core.specs.Walks.{Joined}
use Rattle.graph_core.specs.Components.{IsConnected}
use Rattle.graph_core.specs.BergeSets.{IsBergeSet}

-- matching covered: at least two vertices, connected, and each edge that is not a loop lies in a
-- perfect matching. Only a contraction has loops; a multigraph has none.
pub record IsCovered (g : Graph) : Type 0 where
  pub two : 2 ≤ g.order
  pub connected : IsConnected g
  pub allowed : (e : ℕ) → Within (size g) e → first_end g e ≢ second_end g e → Allowed g e

-- why a graph is not covered
pub data Reason : Type 0 where
  Small : Reason
  Parted : (a b : ℕ) → Reason
  Unmatched : (berge : List ℕ) → Reason
  Unallowed : (edge : ℕ) → Reason

-- the reason is the first that applies, in this order: fewer than two vertices; not connected,
-- where b is the least vertex outside the component of 1; no perfect matching, with any Berge set;
-- the least edge that is in no perfect matching
abbrev pub IsReason : Graph → Reason → Type 0
IsReason g Small = g.order < 2
IsReason g (Parted a b) = (2 ≤ g.order) × (a ≡ 1) × IsLeastWithout g.order (Joined g none 1) b
IsReason g (Unmatched s) = (2 ≤ g.order) × IsConnected g × (HasPerfect g none → ⊥) × IsRisingIn g.order s × IsBergeSet g none (mem s)
IsReason g (Unallowed e) = (2 ≤ g.order) × IsConnected g × HasPerfect g none × IsLeastWithout (size g) (Allowed g) e
