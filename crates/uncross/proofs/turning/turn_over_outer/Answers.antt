use Rattle.std.proofs.Common.{ap, subst, Some, option_map, ◌≡◌}
use Rattle.tree_core.proofs.Common.{moves_of, shape_of}
use Rattle.uncross.proofs.TurningSteps.{after_raised}
use Rattle.move_laws.specs.Common.{over_outer, raised_merged, switched_below}
use Rattle.uncross.proofs.turning.turn_over_outer.Goals as goal

pub switch_below-requires : goal.switch_below-requires
switch_below-requires c = c.in_ok-up-in-Some.ensures.fits c.args.corners.order c.requires

pub returns-in_ok-turned-in-Some : goal.returns-in_ok-turned-in-Some
returns-in_ok-turned-in-Some c s e =
    let a = shape_of c.args.kept.value in let b = shape_of c.args.merged.value in
    let known = subst (λ o. over_outer c.args.corners.order c.args.corners.root c.args.corners.inner c.args.corners.outer a b (option_map moves_of o) ≡ Some s) c.in-Some.is e in
    c.in_ok-turned-in-Some.ensures s (after_raised (switched_below c.args.corners.order c.args.corners.root c.args.corners.inner c.args.corners.outer) (raised_merged c.args.corners.root a (record { tree = b; moves = moves_of c.in-Some.made })) (shape_of c.in_ok-up-in-Some.up) (moves_of c.raise.new.into) _ (ap moves_of c.new-moves.ensures) c.in_ok-up-in-Some.ensures.made s known)
