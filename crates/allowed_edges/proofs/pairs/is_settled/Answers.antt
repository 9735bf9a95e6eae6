use Rattle.std.proofs.Common.{◌≢◌, sym, ◌∙◌, arith}
use Rattle.allowed_edges.proofs.PairSteps.{apart_shared, share_some}
use Rattle.allowed_edges.proofs.pairs.is_settled.Goals as goal

pub returns-clause-settled : goal.returns-clause-settled
returns-clause-settled c = λ q t.
    let v = share_some c.args.g.now c.args.e c.args.f c.keeps_limits.ensures.multigraph.ends c.requires.edge (sym c.share_end.ensures ∙ q) in
    let above = c.requires.above in
    let apart : c.args.e ≢ c.args.f = omega arith in
    absurd (apart_shared c.args.g.now c.args.e c.args.f v.0 apart c.requires.edge c.requires.other v.1 v.2 v.3 t)
