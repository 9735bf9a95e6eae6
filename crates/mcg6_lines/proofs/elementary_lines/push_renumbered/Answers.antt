use Rattle.std.proofs.Common.{arith}
use Rattle.mcg6_lines.proofs.Components.{number_within, vertex_few}
use Rattle.mcg6_lines.proofs.elementary_lines.push_renumbered.Goals as goal

pub number_in-a-requires : goal.number_in-a-requires
number_in-a-requires c = vertex_few 128 c.args.ends.a c.args.part c.rises.ensures c.requires.first

pub number_in-b-requires : goal.number_in-b-requires
number_in-b-requires c = vertex_few 128 c.args.ends.b c.args.part c.rises.ensures c.requires.second

pub push_edge-requires-clause-first : goal.push_edge-requires-clause-first
push_edge-requires-clause-first c =
    let w = number_within 128 c.args.ends.a c.args.part c.rises.ensures c.requires.first in
    let e = c.number_in-a.ensures in
    let o = c.requires.order in omega arith

pub push_edge-requires-clause-second : goal.push_edge-requires-clause-second
push_edge-requires-clause-second c =
    let w = number_within 128 c.args.ends.b c.args.part c.rises.ensures c.requires.second in
    let e = c.number_in-b.ensures in
    let o = c.requires.order in omega arith
