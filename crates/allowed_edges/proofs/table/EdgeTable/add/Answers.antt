use Rattle.graph_core.proofs.from_counting.Common.{◌+◌, ◌-◌, ◌&&◌, arith, mem}
use Rattle.match_core.specs.Common.{edges_of}
use Rattle.allowed_edges.specs.EdgeTables.{numbers_at, share}
use Rattle.allowed_edges.proofs.HeldNumbers.{any_written, meets_more}
use Rattle.allowed_edges.proofs.table.EdgeTable.add.Goals as goal

pub returns-clause-held : goal.returns-clause-held
returns-clause-held c = λ e f.
    let blocks = c.self.inside.blocks.items in
    let last = c.len-last.result - 1 in
    let block = c.index_mut.result.now in
    let longer = c.put_number.new.block in
    let held = mem (edges_of c.args.m.now) in
    let new = meets_more (numbers_at block e) (numbers_at block f) (numbers_at longer e) (numbers_at longer f) (held e) (held f) (c.self.inside.count + 1)
    (λ t. let b = c.self.invariant.below block last (grind arith) (grind arith) e (c.self.inside.count + 1) t in omega arith)
    (λ t. let b = c.self.invariant.below block last (grind arith) (grind arith) f (c.self.inside.count + 1) t in omega arith)
    (c.put_number.ensures.each e) (c.put_number.ensures.each f) in
    grind (arith, any_written (share e f) blocks last block longer (held e && held f))
