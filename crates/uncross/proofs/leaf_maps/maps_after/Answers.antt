use Rattle.graph_core.proofs.from_counting.Common.{[], ap, map, ◌∙◌, ◌∷◌, into_iter_items, map-append}
use Rattle.uncross.proofs.MappedSteps.{made-next}
use Rattle.uncross.specs.Common.{IsMapIntoIf, map_after, map_of, maps_of}
use Rattle.uncross.proofs.leaf_maps.maps_after.Goals as goal

pub maps-preserved : goal.maps-preserved
maps-preserved c =
    let f = map_after c.args.n c.args.order.now c.args.switched.now in
    made-next f (IsMapIntoIf c.args.switched.now) (map f (maps_of c.args.maps)) (maps_of c.maps.after) (maps_of c.push.new.self) (maps_of (into_iter_items c.maps.rest)) (maps_of (into_iter_items c.next.new.self))
    (map_of c.in-Some.m) (map_of c.in_ok-map_after.field-0) c.maps.invariant (ap maps_of c.in-Some.ensures.cases.0)
    (ap maps_of c.in_ok-push.ensures.ok ∙ map-append map_of c.maps.after (c.in_ok-map_after.field-0 ∷ [])) c.in_ok-map_after.ensures
