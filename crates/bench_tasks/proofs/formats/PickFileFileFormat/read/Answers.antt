use Rattle.std.proofs.Common.{ℕ, List}
use Rattle.move_text.specs.from_tree_text.Common.{pick_format}
use Rattle.bench_tasks.proofs.TextReads.{ReadsText-reading_of}
use Rattle.bench_tasks.proofs.formats.PickFileFileFormat.read.Goals as goal

pub returns-clause-reads : goal.returns-clause-reads
returns-clause-reads c =
    ReadsText-reading_of pick_format (λ (picks : List ℕ). picks) c.args.bytes.now c.read_picks.result c.read_picks.ensures.value c.read_picks.ensures.fault
