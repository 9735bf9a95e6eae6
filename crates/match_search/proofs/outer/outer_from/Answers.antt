use Rattle.match_search.proofs.Flowers.{root_grows}
use Rattle.match_search.proofs.outer.outer_from.Goals as goal

pub outer_on-requires : goal.outer_on-requires
outer_on-requires c =
    let q = c.requires.rooted in
    (q.0, q.1, q.2, root_grows q.0 q.1 q.2 c.args.instance.now c.args.mate.now c.args.root q.3 c.args.forest.now c.restart.new.self c.one.result c.one.ensures c.requires.sized.parents_long c.restart.ensures, q.3.one)

pub returns-clause-outer : goal.returns-clause-outer
returns-clause-outer c = λ g r f rooted. c.outer_on.ensures.outer g r f (root_grows g r f c.args.instance.now c.args.mate.now c.args.root rooted c.args.forest.now c.restart.new.self c.one.result c.one.ensures c.requires.sized.parents_long c.restart.ensures) rooted.one
