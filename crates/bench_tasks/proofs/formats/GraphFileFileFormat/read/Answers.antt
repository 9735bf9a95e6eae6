use Rattle.graph_text.specs.Common.{either_version, named_graph}
use Rattle.bench_tasks.proofs.TextReads.{ReadsText-reading_of}
use Rattle.bench_tasks.proofs.formats.GraphFileFileFormat.read.Goals as goal

pub returns-clause-reads : goal.returns-clause-reads
returns-clause-reads c =
    ReadsText-reading_of either_version named_graph c.args.bytes.now c.read_any.result c.read_any.ensures.value c.read_any.ensures.fault
