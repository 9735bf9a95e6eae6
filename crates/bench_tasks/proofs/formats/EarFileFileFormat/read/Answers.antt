use Rattle.std.proofs.Common.{ℕ, subst₂, arith}
use Rattle.graph_core.specs.from_line_text.Common.{ReadsText, reading_of}
use Rattle.ear_text.specs.from_ear_core.Common.{ears_of}
use Rattle.ear_text.specs.EarFormat.{ear_format}
use Rattle.bench_tasks.proofs.TextReads.{ReadsText-reading_of}
use Rattle.bench_tasks.proofs.formats.EarFileFileFormat.read.Goals as goal

pub returns-clause-reads : goal.returns-clause-reads
returns-clause-reads c =
    subst₂ (λ (n m : ℕ). ReadsText ears_of c.read_ears.result (reading_of (ear_format n m) c.args.bytes.now)) c.order-n.ensures.is c.size-m.ensures.is
    (ReadsText-reading_of (ear_format c.order-n.result c.size-m.result) ears_of c.args.bytes.now c.read_ears.result c.read_ears.ensures.value c.read_ears.ensures.fault)

pub returns-clause-keeps : goal.returns-clause-keeps
returns-clause-keeps c = grind arith
