use Rattle.graph_core.proofs.from_counting.Common.{sym, ◌∙◌, IfOk-weaker, mem}
use Rattle.match_core.proofs.PartnerRows.{missable-partners}
use Rattle.match_core.proofs.partner_table.partners_of.Goals as goal

pub returns-clause-row : goal.returns-clause-row
returns-clause-row c = IfOk-weaker c.missable_in.result _ _
    (λ row is. missable-partners c.args.g.now c.keeps_limits.ensures.multigraph.ends (mem c.args.removed) c.args.u row (sym c.contains.ensures ∙ c.if-contains.false) (is c.args.g.now (mem c.args.removed) c.requires.held.m c.requires.held.held))
    c.missable_in.ensures.row
