use Rattle.std.proofs.Common.{length, ◌∙◌, arith}
use Rattle.allowed_edges.proofs.Marking.{edge-below}
use Rattle.allowed_edges.proofs.HeldNumbers.{length_written, numbers_more}
use Rattle.allowed_edges.proofs.table.put_number.Goals as goal

pub loop-i-preserved : goal.loop-i-preserved
loop-i-preserved c =
    let inside = edge-below (length c.args.block.now.items) c.args.m.now.rows c.loop-i.i c.row-edge.result c.requires.places c.row-edge.ensures in
    record {
      same = length_written c.loop-i.block.items c.row-edge.result.edge c.with.result ∙ c.loop-i.invariant.same;
      each = numbers_more c.args.block.now.items c.loop-i.block.items c.args.m.now.rows c.loop-i.i c.row-edge.result c.args.number c.index.result.now c.with.result c.row-edge.ensures (let s = c.loop-i.invariant.same in omega arith) c.index.ensures c.with.ensures c.loop-i.invariant.each;
    }
