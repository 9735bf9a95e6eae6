use Rattle.std.proofs.Common.{arith, length}
use Rattle.graph_core.proofs.Common.{ends_within}
use Rattle.contraction.proofs.place_pairs.note_edges.Goals as goal

pub note_edge-requires-clause-first : goal.note_edge-requires-clause-first
note_edge-requires-clause-first c = let w = ends_within (length c.args.rows.now) c.args.ends.now c.loop-edge.edge-index (record { a = 0; b = 0 }) c.requires.graph c.loop-edge-test.true in omega arith

pub note_edge-requires-clause-second : goal.note_edge-requires-clause-second
note_edge-requires-clause-second c = let w = ends_within (length c.args.rows.now) c.args.ends.now c.loop-edge.edge-index (record { a = 0; b = 0 }) c.requires.graph c.loop-edge-test.true in omega arith
