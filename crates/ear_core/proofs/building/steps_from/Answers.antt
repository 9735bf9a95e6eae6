use Rattle.std.proofs.Common.{rules, ◌≡◌, ◌&&◌, ◌||◌, [], append-nil, subst, map, not, List, false, ℕ}
use Rattle.graph_core.proofs.from_counting.Common.{Within}
use Rattle.graph_core.proofs.Common.{size, first_end, second_end}
use Rattle.two_ears.specs.from_match_search.Common.{marks}
use Rattle.ear_core.specs.Common.{PlainStep, AreForced, AreNeeded, AreSteps, is_met, step_of}
use Rattle.ear_core.proofs.Searching.{at-none}
use Rattle.ear_core.proofs.Stepping.{all-on}
use Rattle.ear_core.proofs.building.steps_from.Goals as goal

pub returns-clause-steps : goal.returns-clause-steps
returns-clause-steps c =
    let g = c.graph-in-stages.result.now in
    let f = marks c.stages.built.marked.mark.items in
    let nothing : (e : ℕ) → Within (size g) e → (not (f e) && (is_met g f (first_end g e) || is_met g f (second_end g e))) ≡ false = at-none c.leaving_edge.result _ (search rules) c.leaving_edge.ensures.none in
    subst (λ (steps : List PlainStep). AreSteps c.args.c.now (marks c.args.marked.mark.items) steps) (append-nil (map step_of c.stages.built.steps))
    (c.stages.invariant.built.leads.steps [] (all-on c.args.c.now c.keeps_covered.ensures.limits.multigraph.ends c.keeps_covered.ensures.covered f c.stages.invariant.built.stage (rw c.graph-in-stages.ensures.same at nothing)))

pub returns-clause-needed : goal.returns-clause-needed
returns-clause-needed c = subst (λ (steps : List PlainStep). AreNeeded c.args.c.now (marks c.args.marked.mark.items) steps) (append-nil (map step_of c.stages.built.steps)) (c.stages.invariant.built.leads.needed [] tt)

pub returns-clause-forced : goal.returns-clause-forced
returns-clause-forced c = subst (λ (steps : List PlainStep). AreForced c.args.c.now (marks c.args.marked.mark.items) steps) (append-nil (map step_of c.stages.built.steps)) (c.stages.invariant.built.leads.forced [] tt)
