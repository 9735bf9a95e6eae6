use Rattle.allowed_edges.proofs.from_counting.Common.{append_assoc, arith, drop_all, append-nil, get_or_from_slice_get}
use Rattle.mcg6_lines.proofs.Components.{components_next, part_rises}
use Rattle.mcg6_lines.proofs.elementary_lines.lines_of_parts.Goals as goal

pub loop-i-init : goal.loop-i-init
loop-i-init c = grind arith

pub push_component-requires-clause-rising : goal.push_component-requires-clause-rising
push_component-requires-clause-rising c = part_rises c.args.g.now.order c.args.parts.now c.loop-i.i c.get.result c.requires.rising c.get.ensures

pub loop-i-preserved : goal.loop-i-preserved
loop-i-preserved c = grind (arith, append_assoc, get_or_from_slice_get, components_next)

pub returns : goal.returns
returns c = grind (arith, append-nil, drop_all)
