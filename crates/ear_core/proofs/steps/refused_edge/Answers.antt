use Rattle.graph_core.proofs.from_counting.Common.{◌≡◌, ◌∙◌, All, ap, ap₂, subst, sym, true, List, ℕ, none}
use Rattle.two_ears.specs.from_match_search.Common.{marks}
use Rattle.ear_core.specs.Common.{IsAsked, next_stage, with_edges, ear_of, plain_step, step_of, Settled}
use Rattle.ear_core.specs.declared.ears.Ear.{Ear}
use Rattle.ear_core.proofs.Searching.{at-some}
use Rattle.ear_core.proofs.Settling.{settled-none, settled-same, settled-result}
use Rattle.ear_core.proofs.steps.refused_edge.Goals as goal
use Rattle.ear_core.proofs.steps.refused_edge.Goals.{In_ok-least}

-- of the edges of the first ear
first : (c : In_ok-least) → Settled c.args.g.now (marks c.args.mark.now) (with_edges none c.as_slice.result.now) c.in_ok-least.least
first c =
    let g = c.args.g.now in
    let f = marks c.args.mark.now in
    c.in_ok-least.ensures.settled f none c.requires.asked (subst (All (λ e. f e ≡ true)) (sym c.as_slice.ensures) c.requires.marked_first) (settled-none g f)

pub returns-in-None-clause-settled : goal.returns-in-None-clause-settled
returns-in-None-clause-settled c =
    let g = c.args.g.now in
    let f = marks c.args.mark.now in
    let es = c.as_slice.result.now in
    settled-same g f (with_edges none es) (next_stage none (step_of c.args.step.now)) c.in_ok-least.least
    (λ e. ap (λ second. next_stage none (plain_step (ear_of c.args.step.now.first) second) e) c.in-None.is ∙ ap (λ (xs : List ℕ). with_edges none xs e) (sym c.as_slice.ensures))
    (first (goal.at.returns-in-None-clause-settled c).In_ok-least)

pub returns-in-Some-clause-settled : goal.returns-in-Some-clause-settled
returns-in-Some-clause-settled c =
    let g = c.args.g.now in
    let f = marks c.args.mark.now in
    let es = c.as_slice.result.now in
    let ds = c.as_slice-in-Some.result.now in
    let marked = at-some c.args.step.now.second c.in-Some.second (λ (b : Ear). All (λ e. f e ≡ true) b.edges) c.in-Some.is c.requires.marked_second in
    settled-result g f (with_edges (with_edges none es) ds) (next_stage none (step_of c.args.step.now)) c.least_refused-in-Some.result
    (λ e. ap (λ second. next_stage none (plain_step (ear_of c.args.step.now.first) second) e) c.in-Some.is ∙ ap₂ (λ (xs ys : List ℕ). with_edges (with_edges none xs) ys e) (sym c.as_slice.ensures) (sym c.as_slice-in-Some.ensures))
    (c.least_refused-in-Some.ensures.settled f (with_edges none es) (subst (IsAsked g f) (sym c.in_ok-least.ensures.same) c.requires.asked) (subst (All (λ e. f e ≡ true)) (sym c.as_slice-in-Some.ensures) marked) (first (goal.at.returns-in-Some-clause-settled c).In_ok-least))
