-- The report on a graph that is generated from a seed: its text, the numbers of leaves of its
-- decompositions by the first and by the last candidates, and how many of them are paired.
-- Stated by: bench_reports. Used by: bench_outcomes, bench_top, theorems.
use Rattle.std.specs.Prelude.{◌≡◌, ℕ, List, length}
use Rattle.graph_core.specs.Common.{Graph}
use Rattle.bench_tasks.specs.from_graph_text.Common.{graph_text}
use Rattle.bench_tasks.specs.from_grow_gen.Common.{grown}
use Rattle.tree_check.specs.from_tight_cuts.Common.{Candidate}
use Rattle.bench_tasks.specs.from_decomposer.Common.{IsPicked, NamedPicks}
use Rattle.tree_core.specs.Common.{IsDerivation, PlainLeafMap, leaves, Shape, IsTally}
use Rattle.tree_check.specs.from_move_laws.Common.{IsPairing}
use Rattle.report_text.specs.Common.{grown_text}
use Rattle.tree_core.specs.declared.tallies.Tally.{Tally}
use Rattle.bench_tasks.specs.from_decomposer.declared.orders.NamedOrder.TheVariants.{First, Last}
use Rattle.bench_outcomes.specs.declared.status.Status.{Status}
use Rattle.bench_outcomes.specs.declared.status.Status.TheVariants.{Done}

-- the tree is the derivation of the graph that an order picks, and the tally counts its leaves
pub record IsCountedTree (picks : List Candidate → ℕ → ℕ → Type 0) (g : Graph) (t : Shape) (tally : Tally) : Type 0 where
  pub derivation : IsDerivation g t
  pub picked : IsPicked picks g t
  pub counts : IsTally g (leaves g.order t) tally

-- the leaves of the two derivations are paired, and there are so many pairs
pub record ArePaired (g : Graph) (s t : Shape) (pairs : ℕ) : Type 0 where
  pub maps : List PlainLeafMap
  pub paired : IsPairing g (leaves g.order s) (leaves g.order t) maps
  pub so_many : pairs ≡ length maps

-- the result of `grow`: the text of the graph, and then as comments the leaves of two
-- decompositions, and how many are paired
pub record Grown (seed pieces : ℕ) (status : Status) (output : List ℕ) : Type 0 where
  pub s : Shape
  pub first : Tally
  pub by_first : IsCountedTree (NamedPicks First) (grown seed pieces) s first
  pub t : Shape
  pub last : Tally
  pub by_last : IsCountedTree (NamedPicks Last) (grown seed pieces) t last
  pub pairs : ℕ
  pub paired : ArePaired (grown seed pieces) s t pairs
  pub done : status ≡ Done
  pub text : output ≡ grown_text (graph_text (grown seed pieces)) first last pairs
