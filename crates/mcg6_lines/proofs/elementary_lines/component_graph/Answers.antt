use Rattle.allowed_edges.proofs.from_counting.Common.{◌&&◌, length, arith, subst, sym, mem}
use Rattle.graph_core.proofs.Common.{first_end, inside, is_allowed, IsSimple, second_end, size}
use Rattle.mcg6_lines.specs.Elementary.{component_graph, number_in}
use Rattle.mcg6_lines.proofs.Components.{simple_component}
use Rattle.mcg6_lines.proofs.TakenEdges.{takes_all, takes_next, takes_none}
use Rattle.mcg6_lines.proofs.elementary_lines.component_graph.Goals as goal

pub loop-done-init : goal.loop-done-init
loop-done-init c =
    let g = c.args.g.now in
    let part = c.args.part in
    let none = takes_none (length part) c.len.result (λ e. (number_in part (first_end g e), number_in part (second_end g e))) (λ e. is_allowed g e && inside g (mem part) e) c.in_ok-component.component c.len.ensures c.in_ok-component.ensures in
    record { order = none.order; few = none.few; takes = none }

pub loop-done-preserved : goal.loop-done-preserved
loop-done-preserved c =
    let g = c.args.g.now in
    let part = c.args.part in
    let more = takes_next (length part) (λ e. (number_in part (first_end g e), number_in part (second_end g e))) (λ e. is_allowed g e && inside g (mem part) e) c.loop-done.done c.loop-done.component c.add_inside.new.component c.loop-done.invariant.takes c.in_ok-add_inside.ensures in
    record { order = more.order; few = more.few; takes = more }

pub returns-clause-graph : goal.returns-clause-graph
unfolding component_graph
returns-clause-graph c =
    let g = c.args.g.now in
    let part = c.args.part in
    takes_all (length part) (λ e. (number_in part (first_end g e), number_in part (second_end g e))) (λ e. is_allowed g e && inside g (mem part) e) c.loop-done.done (size g) c.loop-done.component (omega arith) c.loop-done.invariant.takes

pub returns-clause-simple : goal.returns-clause-simple
unfolding component_graph
returns-clause-simple c =
    let g = c.args.g.now in
    let part = c.args.part in
    subst IsSimple
    (sym (takes_all (length part) (λ e. (number_in part (first_end g e), number_in part (second_end g e))) (λ e. is_allowed g e && inside g (mem part) e) c.loop-done.done (size g) c.loop-done.component (omega arith) c.loop-done.invariant.takes))
    (simple_component g part c.requires.simple)
