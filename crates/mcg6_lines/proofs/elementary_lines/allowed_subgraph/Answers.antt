use Rattle.std.proofs.Common.{arith}
use Rattle.graph_core.proofs.Common.{first_end, is_allowed, second_end, size}
use Rattle.mcg6_lines.specs.Elementary.{allowed_subgraph}
use Rattle.mcg6_lines.proofs.TakenEdges.{takes_all, takes_next, takes_none}
use Rattle.mcg6_lines.proofs.elementary_lines.allowed_subgraph.Goals as goal

pub loop-done-init : goal.loop-done-init
loop-done-init c =
    let g = c.args.g.now in
    let none = takes_none g.order c.order.result (λ e. (first_end g e, second_end g e)) (is_allowed g) c.in_ok-allowed.allowed c.order.ensures.is c.in_ok-allowed.ensures in
    record { order = none.order; few = none.few; takes = none }

pub loop-done-preserved : goal.loop-done-preserved
loop-done-preserved c =
    let g = c.args.g.now in
    let more = takes_next g.order (λ e. (first_end g e, second_end g e)) (is_allowed g) c.loop-done.done c.loop-done.allowed c.add_allowed.new.allowed c.loop-done.invariant.takes c.in_ok-add_allowed.ensures in
    record { order = more.order; few = more.few; takes = more }

pub returns : goal.returns
unfolding allowed_subgraph
returns c =
    let g = c.args.g.now in
    takes_all g.order (λ e. (first_end g e, second_end g e)) (is_allowed g) c.loop-done.done (size g) c.loop-done.allowed (omega arith) c.loop-done.invariant.takes
