use Rattle.graph_core.proofs.from_counting.Common.{List, ℕ, subst, IfOk-weaker, mem, none}
use Rattle.match_core.specs.Common.{ArePartners}
use Rattle.match_core.proofs.partner_table.all_partners.Goals as goal

pub returns : goal.returns
returns c =
    IfOk-weaker c.partners.result (ArePartners c.args.g.now (mem c.empty.result)) (ArePartners c.args.g.now none)
    (λ table are. subst (λ (xs : List ℕ). ArePartners c.args.g.now (mem xs) table) c.empty.ensures are) c.partners.ensures
