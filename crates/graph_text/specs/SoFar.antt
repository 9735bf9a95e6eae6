-- How the code's body of a graph text, and what is read of one, are seen.
-- Stated by: graph_text, bench_tasks, bench_reports, example_order. Used by: mcg6_encoder.
use Rattle.graph_text.specs.GraphLines.{GraphSoFar}
use Rattle.graph_text.specs.declared.body.Body.{Body}
use Rattle.graph_text.specs.declared.body.EitherBody.{EitherBody}
use Rattle.graph_text.specs.declared.named.Named.{Named}
use Rattle.graph_text.specs.EitherVersion.{EitherSoFar, NamedGraph}

-- the graph as far as it has been read, and how many edges are expected
abbrev pub so_far : Body → GraphSoFar
so_far body = record { graph = body.graph; edges = body.edges }

-- the graph as far as it has been read, and in version 2 the names read so far
abbrev pub either_so_far : EitherBody → EitherSoFar
either_so_far either = record { so_far = so_far either.body; names = either.names }

-- the graph, and the names of its vertices if it has names
abbrev pub named_graph : Named → NamedGraph
named_graph named = record { graph = named.graph; names = named.names }
