use Rattle.std.proofs.Common.{ap, subst, Some, option_map, ◌≡◌}
use Rattle.tree_core.proofs.Common.{moves_of, shape_of}
use Rattle.uncross.proofs.TurningSteps.{after_raised}
use Rattle.move_laws.specs.Common.{outer_below, over_inner, raised_kept}
use Rattle.uncross.proofs.turning.turn_over_inner.Goals as goal

pub turn_below_inner-requires-clause-fits : goal.turn_below_inner-requires-clause-fits
turn_below_inner-requires-clause-fits c = c.in_ok-up-in-Some.ensures.fits c.args.corners.order c.requires

pub returns-in_ok-turned-in-Some : goal.returns-in_ok-turned-in-Some
returns-in_ok-turned-in-Some c s e =
    let a = shape_of c.args.kept.value in let b = shape_of c.args.merged.value in let outer = option_map moves_of c.args.outer.now in
    let known = subst (λ o. over_inner c.args.corners.order c.args.corners.root c.args.corners.inner c.args.corners.outer a b (option_map moves_of o) outer ≡ Some s) c.in-Some.is e in
    c.in_ok-turned-in-Some.ensures s (after_raised (outer_below c.args.corners.order c.args.corners.root c.args.corners.inner c.args.corners.outer outer) (raised_kept c.args.corners.root (record { tree = a; moves = moves_of c.in-Some.made }) b) (shape_of c.in_ok-up-in-Some.up) (moves_of c.raise.new.into) _ (ap moves_of c.new-moves.ensures) c.in_ok-up-in-Some.ensures.made s known)
