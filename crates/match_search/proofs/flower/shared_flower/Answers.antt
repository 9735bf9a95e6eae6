use Rattle.graph_core.proofs.from_counting.Common.{◌≡◌, ℕ, ◌==◌, ◌||◌, ap, ◌∙◌, mem, or_false}
use Rattle.match_search.proofs.ForestWalks.{closed_forest}
use Rattle.match_search.proofs.PathFlowers.{flower_closed, meets_base, meets_path}
use Rattle.match_search.proofs.flower.shared_flower.Goals as goal
use Rattle.match_search.proofs.flower.shared_flower.Goals.{After-one, After-with-members}

-- the second walk stops at the base
base_set : (c : After-one) (v : ℕ) → mem c.one.result v ≡ (c.last_in-base.result.0 == v)
base_set c v = ap (λ xs. mem xs v) c.one.ensures ∙ or_false (c.last_in-base.result.0 == v)

-- a member comes after the base on one of the two paths, or is the base
members_are : (c : After-with-members) (v : ℕ) → mem c.with-members.result v ≡ ((mem c.last_in-first.result.1 v || mem c.last_in-base.result.1 v) || c.last_in-base.result.0 == v)
members_are c v = c.with-members.ensures v ∙ ap (λ b. b || c.last_in-base.result.0 == v) (c.union.ensures v)

pub last_in-base-requires : goal.last_in-base-requires
last_in-base-requires c =
    let q = c.requires in
    let h = closed_forest q.0 q.1 q.2 c.args.mate.now c.args.forest.now c.args.bridge q.3 in
    meets_path q.0 q.1 q.2 c.args.mate.now c.args.forest.now c.args.bridge q.3 q.4 c.outer_of_path-path.result (c.outer_of_path-path.ensures h)

pub last_in-first-requires : goal.last_in-first-requires
last_in-first-requires c =
    let q = c.requires in
    let h = closed_forest q.0 q.1 q.2 c.args.mate.now c.args.forest.now c.args.bridge q.3 in
    meets_base q.0 q.1 q.2 c.args.mate.now c.args.forest.now c.args.bridge q.3 q.4 c.outer_of_path-path.result (c.outer_of_path-path.ensures h)
    c.last_in-base.result.0 c.last_in-base.ensures.outer c.last_in-base.ensures.member c.last_in-base.result.1 (c.last_in-base.ensures.last h) c.one.result (base_set (goal.at.last_in-first-requires c).After-one)

pub returns : goal.returns
returns c = λ g r f closes one.
    let h = closed_forest g r f c.args.mate.now c.args.forest.now c.args.bridge closes in
    flower_closed g r f c.args.mate.now c.args.forest.now c.args.bridge closes one c.outer_of_path-path.result (c.outer_of_path-path.ensures h)
    c.last_in-base.result.0 c.last_in-base.ensures.outer c.last_in-base.ensures.member c.last_in-base.result.1 (c.last_in-base.ensures.last h)
    c.one.result c.last_in-first.result.1 c.with-members.result c.last_in-first.result.0 (base_set (goal.at.returns c).After-one) c.last_in-first.ensures.member (c.last_in-first.ensures.last h) (members_are (goal.at.returns c).After-with-members)
