use Rattle.std.proofs.Common.{subst, sym, string_bytes, Some, arith}
use Rattle.graph_core.specs.from_line_text.Common.{Stands}
use Rattle.graph_text.specs.Common.{either_version, FitsNames}
use Rattle.graph_core.proofs.from_line_text.ExactlyOne.{StandsAlone-stands}
use Rattle.graph_text.proofs.TextSoFar.{named_text-lines}
use Rattle.graph_text.proofs.NamedReadBack.{Stands-named_text}
use Rattle.graph_text.proofs.writing.write_named.Goals as goal

pub returns-clause-text : goal.returns-clause-text
returns-clause-text c = grind (arith, named_text-lines, string_bytes)

pub returns-clause-stands : goal.returns-clause-stands
returns-clause-stands c =
    let limits = c.keeps_limits.ensures in
    let fits : FitsNames c.args.g.now c.args.names.now = record { multigraph = limits.multigraph; edges = limits.edges; named = c.are_names.ensures; one_each = c.requires } in
    subst (λ t. Stands either_version t (record { graph = c.args.g.now; names = Some c.args.names.now })) (sym (returns-clause-text c)) (Stands-named_text c.args.g.now c.args.names.now fits)

pub returns-clause-alone : goal.returns-clause-alone
returns-clause-alone c = StandsAlone-stands either_version _ (record { graph = c.args.g.now; names = Some c.args.names.now }) (returns-clause-stands c)
