use Rattle.graph_core.proofs.from_counting.Common.{◌≡◌, ℕ, arith, rules, sym, ◌∙◌, not, ◌==◌, all_in_true, and_parts, mem, Set}
use Rattle.graph_core.proofs.Common.{Graph, missed_count}
use Rattle.match_search.specs.Common.{ClosesForest, GrowsForest}
use Rattle.match_search.proofs.Flowers.{IsFound, base_within, below_grows, below_one, flower_less, flower_within, inner_within, outer_final, outer_up, outer_whole, parent_within, shrunk_edges, shrunk_graph_of, shrunk_out}
use Rattle.match_search.proofs.Instances.{alike_self, put_back}
use Rattle.match_search.proofs.MateSteps.{growth_closes}
use Rattle.match_search.proofs.ParentForests.{grows_sized}
use Rattle.match_search.proofs.outer.+outer_on.Goals as goal
use Rattle.match_search.proofs.outer.+outer_on.Goals.{After-flower_of-members, In-Some}

closes : (t : ℕ) (c : In-Some t) (g : Graph) (r f : Set) → GrowsForest g r f c.args.instance.now c.args.mate.now c.args.forest.now → ClosesForest g r f c.args.mate.now c.grow_forest.new.forest c.in-Some.bridge
closes t c g r f grows = growth_closes g r f c.args.instance.now c.args.mate.now grows.matching c.grow_forest.new.forest c.grow_forest.result c.in-Some.bridge (c.grow_forest.ensures g r f grows) c.in-Some.is

-- the blossom in the grown forest
found : (t : ℕ) (c : After-flower_of-members t) (g : Graph) (r f : Set) → GrowsForest g r f c.args.instance.now c.args.mate.now c.args.forest.now → missed_count g r f ≡ 1 → IsFound g r f c.args.instance.now c.args.mate.now c.grow_forest.new.forest c.flower_of-members.result
found t c g r f grows one =
    let closing = closes t (goal.at.After-flower_of-members t c).In-Some g r f grows in
    record { grows = (c.grow_forest.ensures g r f grows).grows; holds = closing.holds; held = c.flower_of-members.ensures g r f closing one }

own : (t : ℕ) (c : After-flower_of-members t) → IsFound c.requires.0 c.requires.1 c.requires.2 c.args.instance.now c.args.mate.now c.grow_forest.new.forest c.flower_of-members.result
own t c = let q = c.requires in found t c q.0 q.1 q.2 q.3 q.4

pub grow_forest-requires : goal.grow_forest-requires
grow_forest-requires t c = let q = c.requires in (q.0, q.1, q.2, q.3)

pub flower_of-members-requires : goal.flower_of-members-requires
flower_of-members-requires t c = let q = c.requires in (q.0, q.1, q.2, closes t (goal.at.flower_of-members-requires t c).In-Some q.0 q.1 q.2 q.3, q.4)

pub without-requires : goal.without-requires
without-requires t c = (base_within (own t (goal.at.without-requires t c).After-flower_of-members)).1

pub expose_all-requires : goal.expose_all-requires
expose_all-requires t c = λ v m.
    let q = c.requires in
    let here = own t (goal.at.expose_all-requires t c).After-flower_of-members in
    let w = flower_within here v (and_parts (mem c.flower_of-members.result.members v) (not (c.flower_of-members.result.base == v)) (sym (c.without.ensures v) ∙ m)).0 in
    let long = q.3.matching.long in
    let each = q.3.matching.instance_is.one_each in omega arith

pub shrink-before-requires-clause-vertices : goal.shrink-before-requires-clause-vertices
shrink-before-requires-clause-vertices t c = flower_within (own t (goal.at.shrink-before-requires-clause-vertices t c).After-flower_of-members)

pub shrink-before-requires-clause-base : goal.shrink-before-requires-clause-base
shrink-before-requires-clause-base t c = (base_within (own t (goal.at.shrink-before-requires-clause-base t c).After-flower_of-members)).0

pub contract-requires-clause-inner : goal.contract-requires-clause-inner
contract-requires-clause-inner t c = inner_within (own t (goal.at.contract-requires-clause-inner t c).After-flower_of-members)

pub contract-requires-clause-parents : goal.contract-requires-clause-parents
contract-requires-clause-parents t c = parent_within (own t (goal.at.contract-requires-clause-parents t c).After-flower_of-members)

pub contract-requires-clause-base : goal.contract-requires-clause-base
contract-requires-clause-base t c = (base_within (own t (goal.at.contract-requires-clause-base t c).After-flower_of-members)).1

pub outer_on-below-requires : goal.outer_on-below-requires
outer_on-below-requires t c =
    let q = c.requires in
    let here = own t (goal.at.outer_on-below-requires t c).After-flower_of-members in
    let falls = c.decreases in
    let less = flower_less here c.shrink-before.new.self c.shrink-before.ensures.shrunk in (
      first_of (omega arith, search rules),
      (
        shrunk_graph_of here,
        shrunk_out here,
        shrunk_edges here,
        below_grows here c.shrink-before.new.self c.shrink-before.ensures.shrunk c.contract.new.self c.contract.ensures c.expose_all.new.mate c.expose_all.auto.mate c.without.result c.without.ensures c.expose_all.ensures,
        below_one here c.shrink-before.new.self c.shrink-before.ensures.shrunk q.4,
      ),
    )

pub unshrink-requires-clause-base : goal.unshrink-requires-clause-base
unshrink-requires-clause-base t c =
    let here = own t (goal.at.unshrink-requires-clause-base t c).After-flower_of-members in
    let w = (base_within here).0 in
    let long = c.shrink-before.ensures.shrunk.rows.one_each in
    let same = c.outer_on-below.ensures.restored.rows_long in (omega arith, omega arith)

pub returns-in-None-clause-outer : goal.returns-in-None-clause-outer
returns-in-None-clause-outer t c = λ g r f grows one. outer_final g r f c.args.instance.now c.args.mate.now c.grow_forest.new.forest c.grow_forest.result (c.grow_forest.ensures g r f grows) c.in-None.is

pub returns-in-None-clause-restored : goal.returns-in-None-clause-restored
returns-in-None-clause-restored t c = alike_self c.args.instance.now

pub returns-in-None-clause-sized : goal.returns-in-None-clause-sized
returns-in-None-clause-sized t c = grind (arith, grows_sized)

pub returns-then-is_subset-clause-restored : goal.returns-then-is_subset-clause-restored
returns-then-is_subset-clause-restored t c = alike_self c.args.instance.now

pub returns-then-is_subset-clause-sized : goal.returns-then-is_subset-clause-sized
returns-then-is_subset-clause-sized t c = grind (arith, grows_sized)

pub returns-then-is_subset-clause-outer : goal.returns-then-is_subset-clause-outer
returns-then-is_subset-clause-outer t c = λ g r f grows one.
    let here = found t (goal.at.returns-then-is_subset-clause-outer t c).After-flower_of-members g r f grows one in
    outer_whole here (all_in_true c.args.instance.now.left (mem c.flower_of-members.result.members) (sym c.is_subset.ensures ∙ c.if-is_subset.true))

pub returns-else-is_subset-clause-restored : goal.returns-else-is_subset-clause-restored
returns-else-is_subset-clause-restored t c = put_back c.args.instance.now c.shrink-before.new.self c.outer_on-below.new.instance c.unshrink.new.self (mem c.flower_of-members.result.members) c.flower_of-members.result.base c.shrink-before.result c.shrink-before.ensures.shrunk c.shrink-before.ensures.before c.outer_on-below.ensures.restored c.unshrink.ensures

pub returns-else-is_subset-clause-outer : goal.returns-else-is_subset-clause-outer
returns-else-is_subset-clause-outer t c = λ g r f grows one.
    let here = found t (goal.at.returns-else-is_subset-clause-outer t c).After-flower_of-members g r f grows one in
    let has = c.outer_on-below.ensures.outer (shrunk_graph_of here) (shrunk_out here) (shrunk_edges here)
    (below_grows here c.shrink-before.new.self c.shrink-before.ensures.shrunk c.contract.new.self c.contract.ensures c.expose_all.new.mate c.expose_all.auto.mate c.without.result c.without.ensures c.expose_all.ensures) (below_one here c.shrink-before.new.self c.shrink-before.ensures.shrunk one) in
    outer_up here c.outer_on-below.result c.union.result has c.union.ensures
