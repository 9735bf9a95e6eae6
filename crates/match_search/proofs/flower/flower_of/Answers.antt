use Rattle.match_search.proofs.AncestorFlowers.{ancestor_flower}
use Rattle.match_search.proofs.ForestWalks.{closed_forest}
use Rattle.match_search.proofs.flower.flower_of.Goals as goal

pub returns-in-Some : goal.returns-in-Some
returns-in-Some c = λ g r f closes one.
    ancestor_flower g r f c.args.mate.now c.args.forest.now c.args.bridge closes one c.in-Some.way c.with.result (c.in-Some.ensures (closed_forest g r f c.args.mate.now c.args.forest.now c.args.bridge closes)) c.with.ensures
