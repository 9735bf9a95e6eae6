use Rattle.graph_core.proofs.from_counting.Common.{arith, or_parts}
use Rattle.allowed_edges.proofs.ShortPaths.{longer_matching, no_edge}
use Rattle.allowed_edges.proofs.short_paths.with_edge.Goals as goal

pub joined-requires-clause-first : goal.joined-requires-clause-first
joined-requires-clause-first c = grind (arith, or_parts, no_edge)

pub joined-requires-clause-second : goal.joined-requires-clause-second
joined-requires-clause-second c = grind (arith, or_parts, no_edge)

pub returns : goal.returns
returns c = grind (arith, or_parts, longer_matching)
