use Rattle.graph_core.proofs.from_counting.Common.{arith, mem}
use Rattle.barrier_kit.specs.from_allowed_edges.PairTables.{edge_lists}
use Rattle.tight_cuts.proofs.CrossingMatchings.{crosses_new, later_tight}
use Rattle.tight_cuts.proofs.EdgeShores.{cut-shore, group_facts, none-common, tight-common}
use Rattle.tight_cuts.proofs.Weighing.{list-small}
use Rattle.tight_cuts.proofs.groups.common_shore.Goals as goal

pub cut_of_groups-requires-clause-groups : goal.cut_of_groups-requires-clause-groups
cut_of_groups-requires-clause-groups c =
    (group_facts c.args.g.now (edge_lists c.loop-listed.matchings.pairs) c.args.leaders.now c.in_ok-weights.weights.row.items c.in_ok-weights.weights.matchings c.args.groups.x c.args.groups.y c.args.groups.a c.args.groups.b c.args.e
    c.keeps_limits.ensures c.requires.leaders c.in_ok-weights.ensures c.requires.x c.requires.y).groups

pub returns-in_default-clause-shore : goal.returns-in_default-clause-shore
returns-in_default-clause-shore c =
    let facts = group_facts c.args.g.now (edge_lists c.loop-listed.matchings.pairs) c.args.leaders.now c.in_ok-weights.weights.row.items c.in_ok-weights.weights.matchings c.args.groups.x c.args.groups.y c.args.groups.a c.args.groups.b c.args.e
    c.keeps_limits.ensures c.requires.leaders c.in_ok-weights.ensures c.requires.x c.requires.y in
    none-common c.args.g.now c.args.groups.x c.args.groups.y c.args.groups.a c.args.groups.b (facts.none (c.in_ok-shore.ensures.none c.in_default.is))

pub returns-in-None-clause-shore : goal.returns-in-None-clause-shore
returns-in-None-clause-shore c =
    let list = edge_lists c.loop-listed.matchings.pairs in
    let facts = group_facts c.args.g.now list c.args.leaders.now c.in_ok-weights.weights.row.items c.in_ok-weights.weights.matchings c.args.groups.x c.args.groups.y c.args.groups.a c.args.groups.b c.args.e
    c.keeps_limits.ensures c.requires.leaders c.in_ok-weights.ensures c.requires.x c.requires.y in
    let shore = cut-shore c.args.g.now list c.args.leaders.now c.in_ok-weights.weights.row.items c.in_ok-weights.weights.matchings c.args.groups.x c.args.groups.y c.args.groups.a c.args.groups.b
    facts c.in_ok-shore.field-0 c.in_ok-shore.ensures c.in-Some.shore c.in-Some.is in
    tight-common c.args.g.now list c.args.groups.x c.args.groups.y c.args.groups.a c.args.groups.b c.in-Some.shore shore
    (later_tight c.args.g.now (mem c.in-Some.shore) c.keeps_limits.ensures.multigraph.ends shore.odd shore.odd_complement (c.in_ok-crossing.ensures.none c.in-None.is))

pub list_new-requires-clause-new : goal.list_new-requires-clause-new
list_new-requires-clause-new c =
    let list = edge_lists c.loop-listed.matchings.pairs in
    let facts = group_facts c.args.g.now list c.args.leaders.now c.in_ok-weights.weights.row.items c.in_ok-weights.weights.matchings c.args.groups.x c.args.groups.y c.args.groups.a c.args.groups.b c.args.e
    c.keeps_limits.ensures c.requires.leaders c.in_ok-weights.ensures c.requires.x c.requires.y in
    let shore = cut-shore c.args.g.now list c.args.leaders.now c.in_ok-weights.weights.row.items c.in_ok-weights.weights.matchings c.args.groups.x c.args.groups.y c.args.groups.a c.args.groups.b
    facts c.in_ok-shore.field-0 c.in_ok-shore.ensures c.in-Some.shore c.in-Some.is in
    crosses_new c.args.g.now (mem c.in-Some.shore) c.loop-listed.matchings.pairs c.in-Some-2.matching shore.once (c.in_ok-crossing.ensures.some c.in-Some-2.matching c.in-Some-2.is)

pub unreachable-requires : goal.unreachable-requires
unreachable-requires c = grind (arith, list-small c.args.g.now c.loop-listed.matchings.pairs c.keeps_limits.ensures c.loop-listed.invariant.matchings.listed.grown)
