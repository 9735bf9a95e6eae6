use Rattle.graph6_text.proofs.ReadBack.{reads_back}
use Rattle.graph_text.specs.Common.{named_graph}
use Rattle.mcg6_encoder.proofs.text.graph6_line.Goals as goal

pub returns-in-Ok-line_of-clause-line : goal.returns-in-Ok-line_of-clause-line
returns-in-Ok-line_of-clause-line c = record {
  named = named_graph c.in-Ok.named;
  stands = c.in-Ok.ensures.value;
  line = c.in-Ok-line_of.ensures;
  reads_back = reads_back c.in-Ok.named.graph c.keeps_limits.ensures;
}
