use Rattle.graph_core.proofs.from_counting.Common.{rules, Bool, List, ◌≡◌, ◌∙◌, sym, ap, arith, is_odd}
use Rattle.two_ears.specs.from_match_search.Common.{marks}
use Rattle.ear_core.specs.Common.{has_odd_length, has_good_ends, has_free_inner, has_new_edges}
use Rattle.ear_core.proofs.FirstFaults.{fault-inner, fault-edge, fault-none, ends-same, free-same}
use Rattle.ear_core.proofs.faults.tested.Goals as goal
use Rattle.ear_core.proofs.faults.tested.Goals.{After-is_odd, After-are_good_ends, After-is_free, After-are_new}

-- what each test answers
odd : (c : After-is_odd) → has_odd_length c.args.ear.now.edges ≡ c.is_odd.result
odd c = sym (c.is_odd.ensures ∙ ap is_odd c.len.ensures)

ends : (c : After-are_good_ends) → has_good_ends c.args.g.now (marks c.args.marked.now.mark.items) c.args.ear.now.«from» c.args.ear.now.edges ≡ c.are_good_ends.result
ends c = sym (ends-same c.args.g.now (marks c.args.marked.now.mark.items) c.args.inner c.args.used.now c.args.ear.now.«from» c.args.ear.now.edges c.args.marked.now.met c.in-Ok.path.last c.requires.marked.met c.in-Ok.ensures.last) ∙ sym c.are_good_ends.ensures

free : (c : After-is_free) → has_free_inner c.args.g.now (marks c.args.marked.now.mark.items) c.args.inner c.args.ear.now.«from» c.args.ear.now.edges ≡ c.is_free.result
free c = sym (free-same c.args.g.now (marks c.args.marked.now.mark.items) c.args.inner c.args.used.now c.args.ear.now.«from» c.args.ear.now.edges c.in-Ok.path.inner c.args.marked.now.met c.union.result c.in-Ok.ensures.inner c.requires.marked.met c.union.ensures) ∙ sym c.is_free.ensures

new : (c : After-are_new) → has_new_edges (marks c.args.marked.now.mark.items) c.args.used.now c.args.ear.now.edges ≡ c.are_new.result
new c = ap (has_new_edges (marks c.args.marked.now.mark.items) c.args.used.now) (sym c.as_slice.ensures) ∙ ap (λ (items : List Bool). has_new_edges (marks items) c.args.used.now c.as_slice.result.now) (sym c.deref.ensures.value) ∙ sym c.are_new.ensures

pub returns-then-not-is_odd-clause-fault : goal.returns-then-not-is_odd-clause-fault
returns-then-not-is_odd-clause-fault c = grind arith

pub returns-then-not-are_good_ends-clause-fault : goal.returns-then-not-are_good_ends-clause-fault
returns-then-not-are_good_ends-clause-fault c = grind arith

pub returns-then-not-is_free-clause-fault : goal.returns-then-not-is_free-clause-fault
returns-then-not-is_free-clause-fault c =
    let at = goal.at.returns-then-not-is_free-clause-fault c in
    fault-inner c.args.g.now (marks c.args.marked.now.mark.items) c.args.inner c.args.used.now c.args.ear.now.«from» c.args.ear.now.edges c.in-Ok.ensures.path (odd at.After-is_odd ∙ search rules)
    (ends at.After-are_good_ends ∙ search rules) (free at.After-is_free ∙ search rules)

pub returns-then-not-are_new-clause-fault : goal.returns-then-not-are_new-clause-fault
returns-then-not-are_new-clause-fault c =
    let at = goal.at.returns-then-not-are_new-clause-fault c in
    fault-edge c.args.g.now (marks c.args.marked.now.mark.items) c.args.inner c.args.used.now c.args.ear.now.«from» c.args.ear.now.edges c.in-Ok.ensures.path (odd at.After-is_odd ∙ search rules)
    (ends at.After-are_good_ends ∙ search rules) (free at.After-is_free ∙ search rules) (new at.After-are_new ∙ search rules)

pub returns-clause-passes : goal.returns-clause-passes
returns-clause-passes c =
    let at = goal.at.returns-clause-passes c in
    fault-none c.args.g.now (marks c.args.marked.now.mark.items) c.args.inner c.args.used.now c.args.ear.now.«from» c.args.ear.now.edges c.in-Ok.ensures.path (odd at.After-is_odd ∙ search rules)
    (ends at.After-are_good_ends ∙ search rules) (free at.After-is_free ∙ search rules) (new at.After-are_new ∙ search rules)
