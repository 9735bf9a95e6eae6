use Rattle.std.proofs.Common.{arith}
use Rattle.report_text.proofs.LeafLines.{places-all}
use Rattle.report_text.proofs.derivations.comments_at_places.Goals as goal

pub push_places-requires : goal.push_places-requires
push_places-requires c = grind (arith, places-all c.requires.places.0 c.requires.places.1 c.args.leaves.now c.requires.places.2, c.in_ok-kinds.ensures c.requires.places.0 c.requires.places.1 c.requires.places.2)

pub tallied-requires : goal.tallied-requires
tallied-requires c = grind (arith, places-all c.requires.places.0 c.requires.places.1 c.args.leaves.now c.requires.places.2, c.in_ok-kinds.ensures c.requires.places.0 c.requires.places.1 c.requires.places.2)

pub returns : goal.returns
returns c = λ g ps are. grind (arith, c.in_ok-kinds.ensures g ps are)
