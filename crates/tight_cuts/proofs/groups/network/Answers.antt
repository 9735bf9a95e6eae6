use Rattle.std.proofs.Common.{◌+◌, ◌++◌, ◌∙◌, refl, ap, arith}
use Rattle.flow_core.specs.Common.{Net, total_capacity}
use Rattle.graph_core.proofs.Common.{size}
use Rattle.tight_cuts.specs.Common.{arc_between, at_place, row_group}
use Rattle.tight_cuts.proofs.EdgeNetworks.{arcs-next, capacity-next, total-room}
use Rattle.tight_cuts.proofs.groups.network.Goals as goal

pub add_arc-requires-clause-below : goal.add_arc-requires-clause-below
add_arc-requires-clause-below c = grind (arith, total-room (size c.args.g.now) c.loop-k.k (at_place c.args.weights.now))

pub loop-k-preserved : goal.loop-k-preserved
loop-k-preserved c =
    let groups = row_group c.args.groups.a c.args.groups.b c.args.groups.x c.args.groups.y c.args.leaders.now in
    let w = at_place c.args.weights.now (c.loop-k.k + 1) in
    record {
      net = c.in_ok-add_arc.ensures ∙ ap (λ (n : Net). record n { arcs = n.arcs ++ arc_between c.group-first.result c.group-second.result w }) c.loop-k.invariant.net
          ∙ ap (λ arcs. record { nodes = c.args.g.now.order; arcs = arcs }) (arcs-next c.args.g.now c.args.weights.now groups c.loop-k.k c.group-first.result c.group-second.result w (c.group-first.ensures ∙ ap groups c.ends-ends.ensures.first) (c.group-second.ensures ∙ ap groups c.ends-ends.ensures.second) refl);
      sum =
          let q = ap (λ (n : Net). total_capacity n) c.in_ok-add_arc.ensures in
          let r = capacity-next c.loop-k.net.arcs c.loop-k.net.nodes c.args.weights.now c.loop-k.k c.group-first.result c.group-second.result w refl c.loop-k.invariant.sum in omega arith;
    }
