use Rattle.graph_core.proofs.from_counting.Common.{[], ◌∙◌, ◌&&◌, ap₂, sym, arith, mem}
use Rattle.allowed_edges.specs.EdgeTables.{numbers_at}
use Rattle.allowed_edges.proofs.HeldNumbers.{meets_listed, read_within}
use Rattle.allowed_edges.proofs.table.has_common.Goals as goal

pub returns : goal.returns
returns c =
    let first = read_within c.args.block.now.items c.args.e c.index.result.now [] c.requires.first c.index.ensures in
    let second = read_within c.args.block.now.items c.args.f c.index-2.result.now [] c.requires.second c.index-2.ensures in
    meets_listed (numbers_at c.args.block.now c.args.e) (numbers_at c.args.block.now c.args.f) c.meet.result
    (λ v. c.meet.ensures v ∙ ap₂ (λ xs ys. mem xs v && mem ys v) (sym first) (sym second)) _ (λ q. grind arith) (λ q. grind arith)
