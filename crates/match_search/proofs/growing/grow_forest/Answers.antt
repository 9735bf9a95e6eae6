use Rattle.graph_core.proofs.from_counting.Common.{◌≡◌, ◌-◌, ◌*◌, sym, ◌∙◌, arith, subst, length, and_parts, count, mem}
use Rattle.match_search.specs.Common.{IsClosingPair}
use Rattle.match_search.specs.declared.growing.Adjacent.{Adjacent}
use Rattle.match_search.proofs.ActiveVertices.{all_done, branch_grows, closed_grows}
use Rattle.match_search.proofs.Branching.{FitsBranch, fits_branch, nearer_end}
use Rattle.match_search.proofs.Reaching.{drop_less, reach_parts}
use Rattle.match_search.proofs.growing.grow_forest.Goals as goal
use Rattle.match_search.proofs.growing.grow_forest.Goals.{In-Some-first-2}

pub near-requires-clause-vertex : goal.near-requires-clause-vertex
near-requires-clause-vertex c = grind arith

pub returns-in-Some-first : goal.returns-in-Some-first
returns-in-Some-first c = λ g r f is.
    let grows = c.growing.invariant g r f is in
    record {
      grows = grows;
      done = λ q. cc;
      closing_pair = λ o q.
          let ox = grows.active_outer c.in-Some.x c.in-Some.ensures.some.member in
          let m = and_parts (mem c.minus-reach.result c.in-Some-first.y) (mem c.growing.forest.outer c.in-Some-first.y) (sym (c.meet.ensures c.in-Some-first.y) ∙ c.in-Some-first.ensures.some.member) in
          let p = reach_parts c.args.instance.now c.growing.forest c.in-Some.x c.near.result c.without-near.result c.minus-reach.result c.near.ensures c.without-near.ensures c.minus-reach.ensures c.in-Some-first.y m.0 in
          let here : Adjacent = record { v = c.in-Some.x; w = c.in-Some-first.y } in
          let same : here ≡ o = cc in
          subst (IsClosingPair c.args.instance.now c.growing.forest) same (record { v_outer = ox; w_outer = m.1; different = p.2; w_left = p.1; adjacent = p.0 });
    }

pub growing-smaller-in-None : goal.growing-smaller-in-None
growing-smaller-in-None c =
    let q = c.requires in
    let grows = c.growing.invariant q.0 q.1 q.2 q.3 in
    let member = c.in-Some.ensures.some.member in
    let w = (grows.holds.forest.outer_in c.in-Some.x (grows.active_outer c.in-Some.x member)).0 in
    let e = q.3.matching.instance_is.one_each in
    drop_less (length c.args.instance.now.rows.items) (2 * (length c.args.instance.now.rows.items - count (length c.args.instance.now.rows.items) (mem c.growing.forest.inner))) (mem c.growing.forest.active) (mem c.without-forest.result) c.in-Some.x (omega arith) member c.without-forest.ensures

pub growing-preserved-in-None : goal.growing-preserved-in-None
growing-preserved-in-None c = λ g r f is.
    closed_grows g r f c.args.instance.now c.args.mate.now c.growing.forest (c.growing.invariant g r f is) c.in-Some.x c.in-Some.ensures.some.member c.near.result c.without-near.result c.minus-reach.result c.near.ensures c.without-near.ensures c.minus-reach.ensures c.in-None.ensures.none c.without-forest.result c.without-forest.ensures

-- the neighbour and its mate are places of the rows
fits : (c : In-Some-first-2) → FitsBranch c.args.mate.now c.growing.forest c.in-Some.x c.in-Some-first-2.y
fits c =
    let q = c.requires in
    let grows = c.growing.invariant q.0 q.1 q.2 q.3 in
    fits_branch c.args.instance.now c.args.mate.now c.growing.forest c.in-Some.x c.in-Some-first-2.y c.near.result c.without-near.result c.minus-reach.result c.meet.result (grows.active_outer c.in-Some.x c.in-Some.ensures.some.member) c.near.ensures c.without-near.ensures c.minus-reach.ensures c.meet.ensures c.in_default-first.ensures.none c.in-Some-first-2.ensures.some.member q.0 q.1 q.2 grows.matching grows.holds

pub bounds-mate-y : goal.bounds-mate-y
bounds-mate-y c = (fits (goal.at.bounds-mate-y c).In-Some-first-2).y_mate

pub branch-forest-requires : goal.branch-forest-requires
branch-forest-requires c =
    let there = fits (goal.at.branch-forest-requires c).In-Some-first-2 in
    record { y_in = there.y_in; y_vertex = there.y_vertex; z_vertex = there.z_vertex }

pub growing-smaller : goal.growing-smaller
growing-smaller c =
    let q = c.requires in
    let grows = c.growing.invariant q.0 q.1 q.2 q.3 in
    nearer_end c.args.instance.now c.args.mate.now c.growing.forest c.in-Some.x c.in-Some-first-2.y c.near.result c.without-near.result c.minus-reach.result c.meet.result (grows.active_outer c.in-Some.x c.in-Some.ensures.some.member) c.near.ensures c.without-near.ensures c.minus-reach.ensures c.meet.ensures c.in_default-first.ensures.none c.in-Some-first-2.ensures.some.member q.0 q.1 q.2 grows.matching grows.holds c.growing.forest.active c.branch-forest.new.self.active c.branch-forest.new.self.inner grows.active_outer c.branch-forest.ensures.inner c.branch-forest.ensures.active

pub growing-preserved : goal.growing-preserved
growing-preserved c = λ g r f is.
    branch_grows g r f c.args.instance.now c.args.mate.now c.growing.forest (c.growing.invariant g r f is) c.in-Some.x c.in-Some.ensures.some.member c.near.result c.without-near.result c.minus-reach.result c.near.ensures c.without-near.ensures c.minus-reach.ensures c.in-Some-first-2.y c.meet.result c.meet.ensures c.in_default-first.ensures.none c.in-Some-first-2.ensures.some.member c.branch-forest.new.self c.branch-forest.ensures

pub returns : goal.returns
returns c = λ g r f is.
    let grows = c.growing.invariant g r f is in
    record {
      grows = grows;
      done = λ q. all_done g r f c.args.instance.now c.args.mate.now c.growing.forest grows c.in_default.ensures.none;
      closing_pair = λ o q. cc;
    }
