use Rattle.graph_core.proofs.from_counting.Common.{◌-◌, ◌∙◌, sym, rules, arith, subst, length, mem}
use Rattle.match_search.specs.Common.{IsClosed, removed_with, without_blossom, numbers}
use Rattle.match_search.proofs.BlossomMates.{cw}
use Rattle.match_search.proofs.Instances.{alike_self, put_back}
use Rattle.match_search.proofs.MateSteps.{base_read, base_within, below_holds, below_less, candidates_below, roots_exposed, growth_closes, growth_final, may_open, may_open_alike, step_completed}
use Rattle.match_search.proofs.ParentForests.{grows_sized, roots_grow}
use Rattle.match_search.proofs.augment.+augment_once.Goals as goal

pub exposed_in-roots-requires-clause-vertices : goal.exposed_in-roots-requires-clause-vertices
exposed_in-roots-requires-clause-vertices t c = grind arith

pub grow_forest-requires : goal.grow_forest-requires
grow_forest-requires t c = let q = c.requires.holds in (q.0, q.1, q.2, roots_grow q.0 q.1 q.2 c.args.instance.now c.args.mate.now q.3 c.args.forest.now c.restart.new.self c.exposed_in-roots.result c.exposed_in-roots.ensures c.requires.sized.parents_long c.restart.ensures)

pub returns-in-None-clause-restored : goal.returns-in-None-clause-restored
returns-in-None-clause-restored t c = alike_self c.args.instance.now

pub returns-in-None-2-clause-restored : goal.returns-in-None-2-clause-restored
returns-in-None-2-clause-restored t c = alike_self c.args.instance.now

pub returns-in-None-clause-step : goal.returns-in-None-clause-step
returns-in-None-clause-step t c = λ g r f is. growth_final g r f c.args.instance.now c.args.mate.now is c.grow_forest.new.forest c.grow_forest.result (c.grow_forest.ensures g r f (roots_grow g r f c.args.instance.now c.args.mate.now is c.args.forest.now c.restart.new.self c.exposed_in-roots.result c.exposed_in-roots.ensures c.requires.sized.parents_long c.restart.ensures)) c.in-None.is

pub close_bridge-requires : goal.close_bridge-requires
close_bridge-requires t c = let q = c.requires.holds in (q.0, q.1, q.2, growth_closes q.0 q.1 q.2 c.args.instance.now c.args.mate.now q.3 c.grow_forest.new.forest c.grow_forest.result c.in-Some.bridge (c.grow_forest.ensures q.0 q.1 q.2 (roots_grow q.0 q.1 q.2 c.args.instance.now c.args.mate.now q.3 c.args.forest.now c.restart.new.self c.exposed_in-roots.result c.exposed_in-roots.ensures c.requires.sized.parents_long c.restart.ensures)) c.in-Some.is)

pub returns-in-None-2-clause-step : goal.returns-in-None-2-clause-step
returns-in-None-2-clause-step t c = λ g r f is.
    let done = subst (IsClosed g r f c.close_bridge.new.mate) c.in-None-2.is (c.in_ok-close_bridge-in-Some.ensures.closed g r f (growth_closes g r f c.args.instance.now c.args.mate.now is c.grow_forest.new.forest c.grow_forest.result c.in-Some.bridge (c.grow_forest.ensures g r f (roots_grow g r f c.args.instance.now c.args.mate.now is c.args.forest.now c.restart.new.self c.exposed_in-roots.result c.exposed_in-roots.ensures c.requires.sized.parents_long c.restart.ensures)) c.in-Some.is)) in
    record { m = done.0; mates = done.1; answer = done.2 }

pub index-base-requires : goal.index-base-requires
index-base-requires t c =
    let q = c.requires.holds in
    let held = subst (IsClosed q.0 q.1 q.2 c.close_bridge.new.mate) c.in-Some-2.is (c.in_ok-close_bridge-in-Some.ensures.closed q.0 q.1 q.2 (growth_closes q.0 q.1 q.2 c.args.instance.now c.args.mate.now q.3 c.grow_forest.new.forest c.grow_forest.result c.in-Some.bridge (c.grow_forest.ensures q.0 q.1 q.2 (roots_grow q.0 q.1 q.2 c.args.instance.now c.args.mate.now q.3 c.args.forest.now c.restart.new.self c.exposed_in-roots.result c.exposed_in-roots.ensures c.requires.sized.parents_long c.restart.ensures)) c.in-Some.is)) in
    let three = held.opened.cycle.three in omega arith

pub shrink-before-requires-clause-base : goal.shrink-before-requires-clause-base
shrink-before-requires-clause-base t c =
    let q = c.requires.holds in
    let held = subst (IsClosed q.0 q.1 q.2 c.close_bridge.new.mate) c.in-Some-2.is (c.in_ok-close_bridge-in-Some.ensures.closed q.0 q.1 q.2 (growth_closes q.0 q.1 q.2 c.args.instance.now c.args.mate.now q.3 c.grow_forest.new.forest c.grow_forest.result c.in-Some.bridge (c.grow_forest.ensures q.0 q.1 q.2 (roots_grow q.0 q.1 q.2 c.args.instance.now c.args.mate.now q.3 c.args.forest.now c.restart.new.self c.exposed_in-roots.result c.exposed_in-roots.ensures c.requires.sized.parents_long c.restart.ensures)) c.in-Some.is)) in
    let w = base_within q.0 q.1 q.2 c.close_bridge.new.mate c.in-Some-2.blossom held c.index-base.result.now c.index-base.ensures in
    let each = q.3.instance_is.one_each in (omega arith, omega arith)

pub unshrink-requires-clause-base : goal.unshrink-requires-clause-base
unshrink-requires-clause-base t c =
    let q = c.requires.holds in
    let held = subst (IsClosed q.0 q.1 q.2 c.close_bridge.new.mate) c.in-Some-2.is (c.in_ok-close_bridge-in-Some.ensures.closed q.0 q.1 q.2 (growth_closes q.0 q.1 q.2 c.args.instance.now c.args.mate.now q.3 c.grow_forest.new.forest c.grow_forest.result c.in-Some.bridge (c.grow_forest.ensures q.0 q.1 q.2 (roots_grow q.0 q.1 q.2 c.args.instance.now c.args.mate.now q.3 c.args.forest.now c.restart.new.self c.exposed_in-roots.result c.exposed_in-roots.ensures c.requires.sized.parents_long c.restart.ensures)) c.in-Some.is)) in
    let w = base_within q.0 q.1 q.2 c.close_bridge.new.mate c.in-Some-2.blossom held c.index-base.result.now c.index-base.ensures in
    let few = q.3.instance_is.few in
    let each = q.3.instance_is.one_each in
    let long = c.shrink-before.ensures.shrunk.rows.one_each in
    let same = c.in_ok-below-in-Some-2.ensures.restored.rows_long in (omega arith, omega arith)

pub with-requires : goal.with-requires
with-requires t c =
    let q = c.requires.holds in
    let held = subst (IsClosed q.0 q.1 q.2 c.close_bridge.new.mate) c.in-Some-2.is (c.in_ok-close_bridge-in-Some.ensures.closed q.0 q.1 q.2 (growth_closes q.0 q.1 q.2 c.args.instance.now c.args.mate.now q.3 c.grow_forest.new.forest c.grow_forest.result c.in-Some.bridge (c.grow_forest.ensures q.0 q.1 q.2 (roots_grow q.0 q.1 q.2 c.args.instance.now c.args.mate.now q.3 c.args.forest.now c.restart.new.self c.exposed_in-roots.result c.exposed_in-roots.ensures c.requires.sized.parents_long c.restart.ensures)) c.in-Some.is)) in
    let w = base_within q.0 q.1 q.2 c.close_bridge.new.mate c.in-Some-2.blossom held c.index-base.result.now c.index-base.ensures in
    let few = q.3.instance_is.few in (omega arith, omega arith)

pub shrink-before-requires-clause-vertices : goal.shrink-before-requires-clause-vertices
shrink-before-requires-clause-vertices t c = λ v m.
    let q = c.requires.holds in
    let held = subst (IsClosed q.0 q.1 q.2 c.close_bridge.new.mate) c.in-Some-2.is (c.in_ok-close_bridge-in-Some.ensures.closed q.0 q.1 q.2 (growth_closes q.0 q.1 q.2 c.args.instance.now c.args.mate.now q.3 c.grow_forest.new.forest c.grow_forest.result c.in-Some.bridge (c.grow_forest.ensures q.0 q.1 q.2 (roots_grow q.0 q.1 q.2 c.args.instance.now c.args.mate.now q.3 c.args.forest.now c.restart.new.self c.exposed_in-roots.result c.exposed_in-roots.ensures c.requires.sized.parents_long c.restart.ensures)) c.in-Some.is)) in
    let w = cw q.0 q.3.instance_is.graph q.1 q.2 held.m (length c.in-Some-2.blossom.cycle.items - 1) (numbers c.in-Some-2.blossom.cycle.items) held.edge held.opened v (sym (held.members v) ∙ m) in
    let each = q.3.instance_is.one_each in (w.0, omega arith)

pub augment_once-requires : goal.augment_once-requires
augment_once-requires t c =
    let q = c.requires.holds in
    let held = subst (IsClosed q.0 q.1 q.2 c.close_bridge.new.mate) c.in-Some-2.is (c.in_ok-close_bridge-in-Some.ensures.closed q.0 q.1 q.2 (growth_closes q.0 q.1 q.2 c.args.instance.now c.args.mate.now q.3 c.grow_forest.new.forest c.grow_forest.result c.in-Some.bridge (c.grow_forest.ensures q.0 q.1 q.2 (roots_grow q.0 q.1 q.2 c.args.instance.now c.args.mate.now q.3 c.args.forest.now c.restart.new.self c.exposed_in-roots.result c.exposed_in-roots.ensures c.requires.sized.parents_long c.restart.ensures)) c.in-Some.is)) in
    let base = base_read q.0 q.1 q.2 c.close_bridge.new.mate c.in-Some-2.blossom held c.index-base.result.now c.index-base.ensures in
    let falls = c.decreases in
    let grown = c.grow_forest.ensures q.0 q.1 q.2 (roots_grow q.0 q.1 q.2 c.args.instance.now c.args.mate.now q.3 c.args.forest.now c.restart.new.self c.exposed_in-roots.result c.exposed_in-roots.ensures c.requires.sized.parents_long c.restart.ensures) in
    let parents = grown.grows.holds.parents_long in
    let each = q.3.instance_is.one_each in
    let long = c.shrink-before.ensures.shrunk.rows.one_each in
    let less = below_less q.0 q.1 q.2 c.args.instance.now c.args.mate.now q.3 c.close_bridge.new.mate c.close_bridge.auto.mate c.in-Some-2.blossom held c.index-base.result.now base c.shrink-before.new.self c.shrink-before.ensures.shrunk in (
      first_of (omega arith, search rules),
      ((without_blossom q.0 c.in-Some-2.blossom, removed_with q.1 c.in-Some-2.blossom, held.m, below_holds q.0 q.1 q.2 c.args.instance.now c.args.mate.now q.3 c.close_bridge.new.mate c.close_bridge.auto.mate c.in-Some-2.blossom held c.index-base.result.now base c.shrink-before.new.self c.shrink-before.ensures.shrunk), (record { parents_long = omega arith }, candidates_below c.args.instance.now c.shrink-before.new.self c.in-Some-2.blossom.members c.index-base.result.now c.shrink-before.ensures.shrunk c.exposed_in-roots.result c.with.result c.args.mate.now c.close_bridge.new.mate (roots_exposed c.args.instance.now.left c.args.mate.now c.exposed_in-roots.result c.exposed_in-roots.ensures) (c.in_ok-close_bridge-in-Some.ensures.exposed c.in-Some-2.blossom c.in-Some-2.is) c.with.ensures)),
    )

pub open-requires : goal.open-requires
open-requires t c =
    let q = c.requires.holds in
    let held = subst (IsClosed q.0 q.1 q.2 c.close_bridge.new.mate) c.in-Some-2.is (c.in_ok-close_bridge-in-Some.ensures.closed q.0 q.1 q.2 (growth_closes q.0 q.1 q.2 c.args.instance.now c.args.mate.now q.3 c.grow_forest.new.forest c.grow_forest.result c.in-Some.bridge (c.grow_forest.ensures q.0 q.1 q.2 (roots_grow q.0 q.1 q.2 c.args.instance.now c.args.mate.now q.3 c.args.forest.now c.restart.new.self c.exposed_in-roots.result c.exposed_in-roots.ensures c.requires.sized.parents_long c.restart.ensures)) c.in-Some.is)) in
    let base = base_read q.0 q.1 q.2 c.close_bridge.new.mate c.in-Some-2.blossom held c.index-base.result.now c.index-base.ensures in
    let step = c.in_ok-below-in-Some-2.ensures.step (without_blossom q.0 c.in-Some-2.blossom) (removed_with q.1 c.in-Some-2.blossom) held.m (below_holds q.0 q.1 q.2 c.args.instance.now c.args.mate.now q.3 c.close_bridge.new.mate c.close_bridge.auto.mate c.in-Some-2.blossom held c.index-base.result.now base c.shrink-before.new.self c.shrink-before.ensures.shrunk) in
    let back = put_back c.args.instance.now c.shrink-before.new.self c.augment_once.new.instance c.unshrink.new.self (mem c.in-Some-2.blossom.members) c.index-base.result.now c.shrink-before.result c.shrink-before.ensures.shrunk c.shrink-before.ensures.before c.in_ok-below-in-Some-2.ensures.restored c.unshrink.ensures in
    (q.0, q.1, q.2, held.m, step.m, may_open_alike q.0 q.1 q.2 held.m step.m c.args.instance.now c.unshrink.new.self c.augment_once.new.mate c.in-Some-2.blossom (may_open q.0 q.1 q.2 c.args.instance.now c.args.mate.now q.3 c.close_bridge.new.mate c.close_bridge.auto.mate c.in-Some-2.blossom held c.index-base.result.now base c.shrink-before.new.self c.shrink-before.ensures.shrunk c.augment_once.new.mate c.augment_once.auto.mate c.in_ok-below-in-Some-2.below step) back)

pub returns-in_ok-below-in-Some-2-clause-restored : goal.returns-in_ok-below-in-Some-2-clause-restored
returns-in_ok-below-in-Some-2-clause-restored t c = put_back c.args.instance.now c.shrink-before.new.self c.augment_once.new.instance c.unshrink.new.self (mem c.in-Some-2.blossom.members) c.index-base.result.now c.shrink-before.result c.shrink-before.ensures.shrunk c.shrink-before.ensures.before c.in_ok-below-in-Some-2.ensures.restored c.unshrink.ensures

pub returns-in_ok-below-in-Some-2-clause-step : goal.returns-in_ok-below-in-Some-2-clause-step
returns-in_ok-below-in-Some-2-clause-step t c = λ g r f is.
    let held = subst (IsClosed g r f c.close_bridge.new.mate) c.in-Some-2.is (c.in_ok-close_bridge-in-Some.ensures.closed g r f (growth_closes g r f c.args.instance.now c.args.mate.now is c.grow_forest.new.forest c.grow_forest.result c.in-Some.bridge (c.grow_forest.ensures g r f (roots_grow g r f c.args.instance.now c.args.mate.now is c.args.forest.now c.restart.new.self c.exposed_in-roots.result c.exposed_in-roots.ensures c.requires.sized.parents_long c.restart.ensures)) c.in-Some.is)) in
    let base = base_read g r f c.close_bridge.new.mate c.in-Some-2.blossom held c.index-base.result.now c.index-base.ensures in
    let step = c.in_ok-below-in-Some-2.ensures.step (without_blossom g c.in-Some-2.blossom) (removed_with r c.in-Some-2.blossom) held.m (below_holds g r f c.args.instance.now c.args.mate.now is c.close_bridge.new.mate c.close_bridge.auto.mate c.in-Some-2.blossom held c.index-base.result.now base c.shrink-before.new.self c.shrink-before.ensures.shrunk) in
    let back = put_back c.args.instance.now c.shrink-before.new.self c.augment_once.new.instance c.unshrink.new.self (mem c.in-Some-2.blossom.members) c.index-base.result.now c.shrink-before.result c.shrink-before.ensures.shrunk c.shrink-before.ensures.before c.in_ok-below-in-Some-2.ensures.restored c.unshrink.ensures in
    let done = c.open.ensures g r f held.m step.m (may_open_alike g r f held.m step.m c.args.instance.now c.unshrink.new.self c.augment_once.new.mate c.in-Some-2.blossom (may_open g r f c.args.instance.now c.args.mate.now is c.close_bridge.new.mate c.close_bridge.auto.mate c.in-Some-2.blossom held c.index-base.result.now base c.shrink-before.new.self c.shrink-before.ensures.shrunk c.augment_once.new.mate c.augment_once.auto.mate c.in_ok-below-in-Some-2.below step) back) in
    step_completed g r f c.args.instance.now c.args.mate.now is c.close_bridge.new.mate c.close_bridge.auto.mate c.in-Some-2.blossom held c.index-base.result.now base c.shrink-before.new.self c.shrink-before.ensures.shrunk c.augment_once.new.mate c.augment_once.auto.mate c.in_ok-below-in-Some-2.below step c.open.new.mate c.widen.result done c.widen.ensures

pub returns-in-None-clause-sized : goal.returns-in-None-clause-sized
returns-in-None-clause-sized t c = let q = c.requires.holds in grows_sized q.0 q.1 q.2 c.args.instance.now c.args.mate.now c.grow_forest.new.forest (c.grow_forest.ensures q.0 q.1 q.2 (roots_grow q.0 q.1 q.2 c.args.instance.now c.args.mate.now q.3 c.args.forest.now c.restart.new.self c.exposed_in-roots.result c.exposed_in-roots.ensures c.requires.sized.parents_long c.restart.ensures)).grows

pub returns-in-None-2-clause-sized : goal.returns-in-None-2-clause-sized
returns-in-None-2-clause-sized t c = let q = c.requires.holds in grows_sized q.0 q.1 q.2 c.args.instance.now c.args.mate.now c.grow_forest.new.forest (c.grow_forest.ensures q.0 q.1 q.2 (roots_grow q.0 q.1 q.2 c.args.instance.now c.args.mate.now q.3 c.args.forest.now c.restart.new.self c.exposed_in-roots.result c.exposed_in-roots.ensures c.requires.sized.parents_long c.restart.ensures)).grows
