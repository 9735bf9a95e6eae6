use Rattle.graph_core.proofs.from_counting.Common.{sym, ◌∙◌, IfOk-weaker, mem}
use Rattle.match_core.specs.Common.{AreEmptyRows, ArePartners}
use Rattle.match_core.proofs.PartnerRows.{empty-partners}
use Rattle.match_core.proofs.partner_table.partners.Goals as goal

pub returns-then-not-leaves_partners : goal.returns-then-not-leaves_partners
returns-then-not-leaves_partners c =
    IfOk-weaker c.empty_rows.result (AreEmptyRows c.order-then-not-leaves_partners.result) (ArePartners c.args.g.now (mem c.args.removed))
    (empty-partners c.args.g.now c.order-then-not-leaves_partners.ensures.limits.multigraph.ends (mem c.args.removed) c.in_ok-mark.field-0 c.in_ok-mark.ensures c.deref-2.result.now c.missed_by.result c.deref-2.ensures.value c.missed_by.ensures
    (sym c.leaves_partners.ensures ∙ c.if-not-leaves_partners.true) c.order-then-not-leaves_partners.result c.order-then-not-leaves_partners.ensures.is) c.empty_rows.ensures
