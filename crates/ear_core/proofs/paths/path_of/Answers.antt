use Rattle.graph_core.proofs.from_counting.Common.{rules, ◌≡◌, ◌∙◌, ◌||◌, ap, sym, subst, true, false, All, arith, ℕ, or_false, Within, mem}
use Rattle.graph_core.proofs.Common.{size}
use Rattle.ear_core.specs.Common.{inner_vertices, last_vertex}
use Rattle.ear_core.proofs.FirstFaults.{first-item}
use Rattle.ear_core.proofs.Straying.{apart, to_passed, back_early, ends_well, leads_on, no_edge}
use Rattle.ear_core.proofs.Walking.{goes_on, path-goes, not_joined, passed_before, first_again, walk_ends, walk_on, nothing_left, all-behind}
use Rattle.ear_core.proofs.paths.path_of.Goals as goal
use Rattle.ear_core.proofs.paths.path_of.Goals.{In-Some, Then-is_empty}

-- the next edge is one of the graph
edge_within : (c : In-Some) → Within (size c.args.g.now) c.in-Some.e.now
edge_within c = first-item (Within (size c.args.g.now)) c.in-Some.e.now c.edges.rest.now c.in-Some.others.now c.in-Some.ensures.cases.0 c.edges.invariant.edges

pub edges-init : goal.edges-init
edges-init c = grind (arith, path-goes, goes_on)

pub other_end-requires : goal.other_end-requires
other_end-requires c = edge_within (goal.at.other_end-requires c).In-Some

pub returns-in_default-other_end-clause-not_path : goal.returns-in_default-other_end-clause-not_path
returns-in_default-other_end-clause-not_path c =
    c.edges.invariant.path ∙ not_joined c.args.g.now c.args.ear.now.«from» (mem c.edges.inner) c.edges.at c.in-Some.e.now c.edges.rest.now c.in-Some.others.now c.in-Some.ensures.cases.0 (search rules)

pub returns-in_default-other_end-clause-edge : goal.returns-in_default-other_end-clause-edge
returns-in_default-other_end-clause-edge c =
    sym (c.edges.invariant.astray ∙ apart c.args.g.now c.args.ear.now.«from» (mem c.edges.inner) c.edges.at c.in-Some.e.now c.edges.rest.now c.in-Some.others.now c.in-Some.ensures.cases.0 (search rules))

pub returns-then-contains-clause-not_path : goal.returns-then-contains-clause-not_path
returns-then-contains-clause-not_path c =
    c.edges.invariant.path ∙ passed_before c.args.g.now c.args.ear.now.«from» (mem c.edges.inner) c.edges.at c.in-Some.e.now c.in-Some-other_end.next c.edges.rest.now c.in-Some.others.now c.in-Some.ensures.cases.0 (search rules) (search rules)

pub returns-then-contains-clause-edge : goal.returns-then-contains-clause-edge
returns-then-contains-clause-edge c =
    sym (c.edges.invariant.astray ∙ to_passed c.args.g.now c.args.ear.now.«from» (mem c.edges.inner) c.edges.at c.in-Some.e.now c.in-Some-other_end.next c.edges.rest.now c.in-Some.others.now c.in-Some.ensures.cases.0 (search rules) (search rules))

-- the last edge leads to a new vertex
ends : (c : Then-is_empty) → (goes_on c.args.g.now c.args.ear.now.«from» (mem c.edges.inner) c.edges.at c.edges.rest.now ≡ true) × (last_vertex c.args.g.now c.edges.at c.edges.rest.now ≡ c.in-Some-other_end.next) × ((y : ℕ) → mem (inner_vertices c.args.g.now c.edges.at c.edges.rest.now) y ≡ false)
ends c = walk_ends c.args.g.now c.args.ear.now.«from» (mem c.edges.inner) c.edges.at c.in-Some.e.now c.in-Some-other_end.next c.edges.rest.now c.in-Some.others.now c.in-Some.ensures.cases.0 (search rules) (search rules) (search rules) (search rules)

pub returns-then-is_empty-clause-path : goal.returns-then-is_empty-clause-path
returns-then-is_empty-clause-path c = c.edges.invariant.path ∙ (ends (goal.at.returns-then-is_empty-clause-path c).Then-is_empty).0

pub returns-then-is_empty-clause-last : goal.returns-then-is_empty-clause-last
returns-then-is_empty-clause-last c = sym (c.edges.invariant.last ∙ (ends (goal.at.returns-then-is_empty-clause-last c).Then-is_empty).1)

pub returns-then-is_empty-clause-inner : goal.returns-then-is_empty-clause-inner
returns-then-is_empty-clause-inner c = λ w. sym (c.edges.invariant.inner w ∙ ap (λ b. mem c.edges.inner w || b) ((ends (goal.at.returns-then-is_empty-clause-inner c).Then-is_empty).2 w) ∙ or_false (mem c.edges.inner w))

pub returns-then-is_empty-clause-nowhere : goal.returns-then-is_empty-clause-nowhere
returns-then-is_empty-clause-nowhere c =
    c.edges.invariant.astray ∙ ends_well c.args.g.now c.args.ear.now.«from» (mem c.edges.inner) c.edges.at c.in-Some.e.now c.in-Some-other_end.next c.edges.rest.now c.in-Some.others.now c.in-Some.ensures.cases.0 (edge_within (goal.at.returns-then-is_empty-clause-nowhere c).In-Some) (search rules) (search rules) (search rules) (search rules)

pub returns-then-next-ear-clause-not_path : goal.returns-then-next-ear-clause-not_path
returns-then-next-ear-clause-not_path c = grind (arith, first_again, mem)

pub returns-then-next-ear-clause-edge : goal.returns-then-next-ear-clause-edge
returns-then-next-ear-clause-edge c = grind (arith, back_early, mem)

pub edges-preserved : goal.edges-preserved
edges-preserved c =
    let x = walk_on c.args.g.now c.args.ear.now.«from» (mem c.edges.inner) (mem c.with-inner.result) c.edges.at c.in-Some.e.now c.in-Some-other_end.next c.edges.rest.now c.in-Some.others.now c.in-Some.ensures.cases.0 (search rules) (search rules) (search rules) (search rules) (search rules) c.with-inner.ensures in
    let y = leads_on c.args.g.now c.args.ear.now.«from» (mem c.edges.inner) (mem c.with-inner.result) c.edges.at c.in-Some.e.now c.in-Some-other_end.next c.edges.rest.now c.in-Some.others.now c.in-Some.ensures.cases.0 (edge_within (goal.at.edges-preserved c).In-Some) (search rules) (search rules) (search rules) (search rules) (search rules) c.with-inner.ensures in
    record {
      path = c.edges.invariant.path ∙ x.0;
      astray = c.edges.invariant.astray ∙ y;
      last = c.edges.invariant.last ∙ x.1;
      inner = λ w. c.edges.invariant.inner w ∙ x.2 w;
      at = search rules;
      edges = all-behind (size c.args.g.now) c.in-Some.e.now c.in-Some.others.now (subst (All (Within (size c.args.g.now))) c.in-Some.ensures.cases.0 c.edges.invariant.edges);
    }

pub returns-clause-not_path : goal.returns-clause-not_path
returns-clause-not_path c = c.edges.invariant.path ∙ nothing_left c.args.g.now c.args.ear.now.«from» (mem c.edges.inner) c.edges.at c.edges.rest.now c.in_default.ensures.cases

pub returns-clause-edge : goal.returns-clause-edge
returns-clause-edge c = sym (c.edges.invariant.astray ∙ no_edge c.args.g.now c.args.ear.now.«from» (mem c.edges.inner) c.edges.at c.edges.rest.now c.in_default.ensures.cases)
