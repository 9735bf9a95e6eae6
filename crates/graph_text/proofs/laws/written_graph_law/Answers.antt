use Rattle.graph_core.proofs.from_line_text.ExactlyOne.{StandsAlone-stands}
use Rattle.graph_text.specs.Common.{version_one, graph_text}
use Rattle.graph_text.proofs.VersionOneReadBack.{Stands-graph_text}
use Rattle.graph_text.proofs.laws.written_graph_law.Goals as goal

pub returns : goal.returns
returns c = record {
  stands = Stands-graph_text;
  alone = λ g fits. StandsAlone-stands version_one (graph_text g) g (Stands-graph_text g fits);
}
