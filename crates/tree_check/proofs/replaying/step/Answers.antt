use Rattle.std.proofs.Common.{◌≡◌, Some, subst, arith}
use Rattle.tree_core.proofs.Common.{fits-derivation, move_result, move_of, shape_of}
use Rattle.tree_check.proofs.MovesFit.{move-fits}
use Rattle.tree_check.proofs.replaying.step.Goals as goal

pub apply-requires : goal.apply-requires
apply-requires c = grind (arith, fits-derivation c.args.c.now (shape_of c.args.tree) c.requires)

pub is_sound-requires : goal.is_sound-requires
is_sound-requires c = grind arith

pub scan_covered-requires : goal.scan_covered-requires
scan_covered-requires c =
    move-fits c.args.c.now.order (shape_of c.args.tree) (shape_of c.in-Ok.made) (move_of c.args.item.now) (fits-derivation c.args.c.now (shape_of c.args.tree) c.requires)
    (subst (λ k. move_result k (shape_of c.args.tree) (move_of c.args.item.now) ≡ Some (shape_of c.in-Ok.made)) c.order.ensures.is c.in-Ok.ensures.ok)

pub returns-in-Refused : goal.returns-in-Refused
returns-in-Refused c = grind arith
