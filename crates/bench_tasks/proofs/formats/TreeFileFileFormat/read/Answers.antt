use Rattle.std.proofs.Common.{ℕ, subst}
use Rattle.graph_core.specs.from_line_text.Common.{ReadsText, reading_of}
use Rattle.tree_core.proofs.Common.{shape_of}
use Rattle.move_text.specs.from_tree_text.Common.{tree_format}
use Rattle.bench_tasks.proofs.TextReads.{ReadsText-reading_of}
use Rattle.bench_tasks.proofs.formats.TreeFileFileFormat.read.Goals as goal

pub returns-clause-reads : goal.returns-clause-reads
returns-clause-reads c =
    subst (λ (n : ℕ). ReadsText shape_of c.read_tree.result (reading_of (tree_format n) c.args.bytes.now)) c.order-n.ensures.is
    (ReadsText-reading_of (tree_format c.order-n.result) shape_of c.args.bytes.now c.read_tree.result c.read_tree.ensures.value c.read_tree.ensures.fault)
