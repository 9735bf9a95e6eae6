use Rattle.std.proofs.Common.{List, ap, map, ℕ, ◌∙◌}
use Rattle.tree_core.proofs.Common.{move_of, shape_of}
use Rattle.uncross.proofs.FollowedMaps.{into_if, led}
use Rattle.uncross.specs.Common.{map_after, maps_of}
use Rattle.uncross.proofs.move_maps.maps_onward.Goals as goal

pub maps_after-requires-clause-leads : goal.maps_after-requires-clause-leads
maps_after-requires-clause-leads c = into_if c.args.n (shape_of c.args.tree.now) (move_of c.args.m.now) c.in_ok-switched.switched (maps_of c.args.maps) c.in_ok-switched.ensures c.requires.leads

pub returns : goal.returns
returns c =
    c.in_ok-after.ensures ∙ ap (λ (order : List ℕ). map (map_after c.args.n order c.in_ok-switched.switched) (maps_of c.args.maps)) (c.as_slice.ensures ∙ c.in_ok-order.ensures.order)
    ∙ led c.args.n (shape_of c.args.tree.now) (move_of c.args.m.now) c.in_ok-switched.switched (maps_of c.args.maps) c.in_ok-switched.ensures c.requires.leads
