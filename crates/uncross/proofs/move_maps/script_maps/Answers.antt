use Rattle.std.proofs.Common.{ap}
use Rattle.tree_core.proofs.Common.{move_of, moves_of, shape_of}
use Rattle.uncross.proofs.ScriptSteps.{fits, leads, leaves-few, stands, start, step}
use Rattle.uncross.specs.Common.{maps_of}
use Rattle.uncross.proofs.move_maps.script_maps.Goals as goal

pub own_maps-requires-clause-fits : goal.own_maps-requires-clause-fits
own_maps-requires-clause-fits c = fits c.args.g.now c.keeps_limits.ensures.multigraph.ends c.keeps_limits.ensures.vertices c.order-n.result c.order-n.ensures.is (shape_of c.args.tree.now) c.requires.derives

pub own_maps-requires-clause-stands : goal.own_maps-requires-clause-stands
own_maps-requires-clause-stands c = stands c.args.g.now c.keeps_limits.ensures.multigraph.ends c.keeps_limits.ensures.vertices c.order-n.result c.order-n.ensures.is (shape_of c.args.tree.now) c.requires.derives

pub own_maps-requires-clause-few : goal.own_maps-requires-clause-few
own_maps-requires-clause-few c = leaves-few c.args.g.now (shape_of c.args.tree.now) c.keeps_limits.ensures.multigraph.ends c.keeps_limits.ensures.vertices c.requires.derives

pub moves-init : goal.moves-init
moves-init c = start c.args.g.now c.keeps_limits.ensures.multigraph.ends c.keeps_limits.ensures.vertices c.order-n.result c.order-n.ensures.is (shape_of c.args.tree.now) (shape_of c.in_ok-current.current) (moves_of c.args.moves.now) (moves_of c.as_slice-rest.result.now) (maps_of c.in_ok-maps.maps)
    c.requires.derives c.requires.script c.in_ok-current.ensures (ap moves_of c.as_slice-rest.ensures) c.in_ok-maps.ensures

pub maps_onward-requires-clause-fits : goal.maps_onward-requires-clause-fits
maps_onward-requires-clause-fits c = fits c.args.g.now c.keeps_limits.ensures.multigraph.ends c.keeps_limits.ensures.vertices c.order-n.result c.order-n.ensures.is (shape_of c.moves.current) c.moves.invariant.derives

pub maps_onward-requires-clause-stands : goal.maps_onward-requires-clause-stands
maps_onward-requires-clause-stands c = stands c.args.g.now c.keeps_limits.ensures.multigraph.ends c.keeps_limits.ensures.vertices c.order-n.result c.order-n.ensures.is (shape_of c.moves.current) c.moves.invariant.derives

pub maps_onward-requires-clause-few : goal.maps_onward-requires-clause-few
maps_onward-requires-clause-few c = leaves-few c.args.g.now (shape_of c.moves.current) c.keeps_limits.ensures.multigraph.ends c.keeps_limits.ensures.vertices c.moves.invariant.derives

pub maps_onward-requires-clause-leads : goal.maps_onward-requires-clause-leads
maps_onward-requires-clause-leads c = leads c.args.g.now c.keeps_limits.ensures.multigraph.ends c.keeps_limits.ensures.vertices c.order-n.result c.order-n.ensures.is (shape_of c.args.tree.now) (shape_of c.moves.current) (moves_of c.args.moves.now) (moves_of c.moves.rest.now) (moves_of c.in-Some.others.now) (move_of c.in-Some.m.now) (maps_of c.moves.maps) c.moves.invariant (ap moves_of c.in-Some.ensures.cases.0)

pub moved-current-requires : goal.moved-current-requires
moved-current-requires c = fits c.args.g.now c.keeps_limits.ensures.multigraph.ends c.keeps_limits.ensures.vertices c.order-n.result c.order-n.ensures.is (shape_of c.moves.current) c.moves.invariant.derives

pub moves-preserved : goal.moves-preserved
moves-preserved c = step c.args.g.now c.keeps_limits.ensures.multigraph.ends c.keeps_limits.ensures.vertices c.order-n.result c.order-n.ensures.is (shape_of c.args.tree.now) (shape_of c.moves.current) (moves_of c.args.moves.now) (moves_of c.moves.rest.now) (moves_of c.in-Some.others.now) (move_of c.in-Some.m.now) (maps_of c.moves.maps) c.moves.invariant (ap moves_of c.in-Some.ensures.cases.0)
    (shape_of c.moved-current.result) (maps_of c.in_ok-maps-2.maps) c.in_ok-maps-2.ensures c.moved-current.ensures
