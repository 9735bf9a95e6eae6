use Rattle.std.proofs.Common.{subst, sym, string_bytes, arith}
use Rattle.graph_core.specs.from_line_text.Common.{Stands}
use Rattle.graph_text.specs.Common.{version_one, FitsVersionOne}
use Rattle.graph_core.proofs.from_line_text.ExactlyOne.{StandsAlone-stands}
use Rattle.graph_text.proofs.TextSoFar.{graph_text-lines}
use Rattle.graph_text.proofs.VersionOneReadBack.{Stands-graph_text}
use Rattle.graph_text.proofs.writing.write_graph.Goals as goal

pub returns-clause-text : goal.returns-clause-text
returns-clause-text c = grind (arith, graph_text-lines, string_bytes)

pub returns-clause-stands : goal.returns-clause-stands
returns-clause-stands c =
    let fits : FitsVersionOne c.args.g.now = record { multigraph = c.keeps_limits.ensures.multigraph; vertices = c.requires.vertices; edges = c.requires.edges } in
    subst (λ t. Stands version_one t c.args.g.now) (sym (returns-clause-text c)) (Stands-graph_text c.args.g.now fits)

pub returns-clause-alone : goal.returns-clause-alone
returns-clause-alone c = StandsAlone-stands version_one _ c.args.g.now (returns-clause-stands c)
