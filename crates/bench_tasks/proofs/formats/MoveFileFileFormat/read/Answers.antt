use Rattle.move_text.proofs.from_counting.Common.{ℕ, subst, arith, length-map}
use Rattle.graph_core.specs.from_line_text.Common.{ReadsText, reading_of}
use Rattle.tree_core.proofs.Common.{moves_of}
use Rattle.move_text.specs.Common.{move_format}
use Rattle.bench_tasks.proofs.TextReads.{ReadsText-reading_of}
use Rattle.bench_tasks.proofs.formats.MoveFileFileFormat.read.Goals as goal

pub returns-clause-reads : goal.returns-clause-reads
returns-clause-reads c =
    subst (λ (n : ℕ). ReadsText moves_of c.read_moves.result (reading_of (move_format n) c.args.bytes.now)) c.order-n.ensures.is
    (ReadsText-reading_of (move_format c.order-n.result) moves_of c.args.bytes.now c.read_moves.result c.read_moves.ensures.value c.read_moves.ensures.fault)

pub returns-clause-keeps : goal.returns-clause-keeps
returns-clause-keeps c = grind (arith, length-map)
