use Rattle.graph_core.proofs.from_counting.Common.{◌∙◌, sym, true≢false}
use Rattle.ear_core.proofs.MatchedStages.{partners-allowed, row-says, says-row}
use Rattle.ear_core.proofs.stages.is_allowed_by.Goals as goal

pub returns-clause-yes : goal.returns-clause-yes
returns-clause-yes c = λ f is on yes.
    let g = c.args.g.now in
    (partners-allowed g c.keeps_limits.ensures.multigraph f c.args.e c.requires.edge on).0
    (row-says g f c.args.e c.ends-ends.result.a c.ends-ends.result.b c.ends-ends.ensures.first c.ends-ends.ensures.second ((c.in_ok-row.ensures.row g f c.keeps_limits.ensures.multigraph.ends is c.ends-ends.result.b).0 (sym c.contains.ensures ∙ yes)))

pub returns-clause-no : goal.returns-clause-no
returns-clause-no c = λ f is on no allowed.
    let g = c.args.g.now in
    let p = (partners-allowed g c.keeps_limits.ensures.multigraph f c.args.e c.requires.edge on).1 allowed in
    let q = says-row g f c.args.e c.ends-ends.result.a c.ends-ends.result.b c.ends-ends.ensures.first c.ends-ends.ensures.second p in
    true≢false (sym (c.contains.ensures ∙ (c.in_ok-row.ensures.row g f c.keeps_limits.ensures.multigraph.ends is c.ends-ends.result.b).1 q) ∙ no)
