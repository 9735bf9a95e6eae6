use Rattle.allowed_edges.proofs.PairSteps.{settles_more}
use Rattle.allowed_edges.proofs.pairs.list_new.Goals as goal

pub returns-clause-begun : goal.returns-clause-begun
returns-clause-begun c =
    let n = c.requires.new in
    settles_more c.args.g.now 1 c.args.pairs.now c.add.new.self c.args.found n.one n.other c.requires.begun c.in_ok-add.ensures.size c.in_ok-add.ensures.list n.with.of c.keeps_matching.ensures n.with.perfect n.with.held n.held n.new
