-- The graph that a graph6 text stands for is a multigraph, in the words of what is read.
-- Idea: where the reader gives a graph it is a multigraph; at a fault there is nothing to show.
use Rattle.std.proofs.Common.{ℕ, List, arith}
use Rattle.graph_core.proofs.Common.{IsMultigraph}
use Rattle.graph6_text.specs.Common.{outcome_of}
use Rattle.mcg6_lines.proofs.ReadMultigraphs.{read-multigraph}
use Rattle.bench_top.proofs.ReadGraphs.{GoesOn}

pub read-simple_graph : (text : List ℕ) → GoesOn IsMultigraph (outcome_of text)
read-simple_graph text = grind (arith, read-multigraph)
