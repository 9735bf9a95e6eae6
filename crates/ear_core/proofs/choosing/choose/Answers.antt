use Rattle.graph_core.proofs.from_counting.Common.{◌≡◌, ◌∙◌, map, subst, sym, List, Option, Some, IfSome, rules, Set}
use Rattle.graph_core.proofs.Common.{Graph, IsGraph}
use Rattle.two_ears.specs.from_match_search.Common.{marks}
use Rattle.ear_core.specs.Common.{AreCandidates, FindsAlone, FindsTwo, IsAsked, IsChosen, IsStage, IsStep, NoTwoServe, NoneServes, PlainEar, ear_of, next_stage, one, step_of}
use Rattle.ear_core.specs.declared.ears.Ear.{Ear}
use Rattle.ear_core.specs.declared.ears.Step.{Step}
use Rattle.ear_core.proofs.BipartiteStages.{bipartite-found}
use Rattle.ear_core.proofs.NeededPairs.{found-needed}
use Rattle.ear_core.proofs.Searching.{at-none, at-some, ears-fit, found-one, found-two, never-none}
use Rattle.ear_core.proofs.choosing.choose.Goals as goal

pub first_alone-requires-clause-fits : goal.first_alone-requires-clause-fits
first_alone-requires-clause-fits c = ears-fit c.args.g.now c.keeps_limits.ensures.multigraph.ends (marks c.args.mark.now) (map ear_of c.args.ears.now) c.requires.candidates.each

pub double_step-requires : goal.double_step-requires
double_step-requires c = ears-fit c.args.g.now c.keeps_limits.ensures.multigraph.ends (marks c.args.mark.now) (map ear_of c.args.ears.now) c.requires.candidates.each

-- what one ear makes
single : (g : Graph) → IsGraph g → (f : Set) → IsStage g f → (ears : List PlainEar) → AreCandidates g f ears → (o : Option Ear) (first : Ear) → o ≡ Some first → IfSome o (λ ear. FindsAlone g f ears (ear_of ear)) →
    IsChosen ears (one (ear_of first)) × IsStep g f (one (ear_of first)) × IsStage g (next_stage f (one (ear_of first)))
single g is f stage ears made o first some found = found-one g is f stage ears made (ear_of first) (at-some o first (λ ear. FindsAlone g f ears (ear_of ear)) some found)

pub returns-in-Some-clause-chosen : goal.returns-in-Some-clause-chosen
returns-in-Some-clause-chosen c =
    let f = marks c.args.mark.now in
    (single c.args.g.now c.keeps_limits.ensures.multigraph.ends f c.requires.stage (map ear_of c.args.ears.now) c.requires.candidates c.in_ok-first.field-0 c.in-Some.first c.in-Some.is (c.in_ok-first.ensures.some f c.requires.asked c.requires.candidates.each)).0

pub returns-in-Some-clause-step : goal.returns-in-Some-clause-step
returns-in-Some-clause-step c =
    let f = marks c.args.mark.now in
    (single c.args.g.now c.keeps_limits.ensures.multigraph.ends f c.requires.stage (map ear_of c.args.ears.now) c.requires.candidates c.in_ok-first.field-0 c.in-Some.first c.in-Some.is (c.in_ok-first.ensures.some f c.requires.asked c.requires.candidates.each)).1

pub returns-in-Some-clause-stage : goal.returns-in-Some-clause-stage
returns-in-Some-clause-stage c =
    let f = marks c.args.mark.now in
    (single c.args.g.now c.keeps_limits.ensures.multigraph.ends f c.requires.stage (map ear_of c.args.ears.now) c.requires.candidates c.in_ok-first.field-0 c.in-Some.first c.in-Some.is (c.in_ok-first.ensures.some f c.requires.asked c.requires.candidates.each)).2

pub unreachable-requires : goal.unreachable-requires
unreachable-requires c =
    let g = c.args.g.now in
    let f = marks c.args.mark.now in
    let ears = map ear_of c.args.ears.now in
    never-none g c.keeps_limits.ensures.multigraph.ends f c.requires.stage ears c.requires.candidates
    (at-none c.in_ok-first.field-0 (NoneServes g f ears) (search rules) (c.in_ok-first.ensures.none f c.requires.asked c.requires.candidates.each))
    (at-none c.in_ok-step.field-0 (NoTwoServe g f ears) c.in-None.is (c.in_ok-step.ensures.none f (subst (IsAsked g f) (sym (c.asked.ensures ∙ c.in_ok-first.ensures.same)) c.requires.asked)))

-- what two ears make
double : (g : Graph) → IsGraph g → (f : Set) → IsStage g f → (ears : List PlainEar) → AreCandidates g f ears → (o : Option Step) (step : Step) → o ≡ Some step → IfSome o (λ s. FindsTwo g f ears (step_of s)) →
    IsChosen ears (step_of step) × IsStep g f (step_of step) × IsStage g (next_stage f (step_of step))
double g is f stage ears made o step some found = found-two g is f stage ears made (step_of step) (at-some o step (λ s. FindsTwo g f ears (step_of s)) some found)

pub returns-clause-chosen : goal.returns-clause-chosen
returns-clause-chosen c =
    let f = marks c.args.mark.now in
    (double c.args.g.now c.keeps_limits.ensures.multigraph.ends f c.requires.stage (map ear_of c.args.ears.now) c.requires.candidates c.in_ok-step.field-0 c.in-Some-2.step c.in-Some-2.is (c.in_ok-step.ensures.some f (subst (IsAsked c.args.g.now f) (sym (c.asked.ensures ∙ c.in_ok-first.ensures.same)) c.requires.asked))).0

pub returns-clause-step : goal.returns-clause-step
returns-clause-step c =
    let f = marks c.args.mark.now in
    (double c.args.g.now c.keeps_limits.ensures.multigraph.ends f c.requires.stage (map ear_of c.args.ears.now) c.requires.candidates c.in_ok-step.field-0 c.in-Some-2.step c.in-Some-2.is (c.in_ok-step.ensures.some f (subst (IsAsked c.args.g.now f) (sym (c.asked.ensures ∙ c.in_ok-first.ensures.same)) c.requires.asked))).1

pub returns-clause-stage : goal.returns-clause-stage
returns-clause-stage c =
    let f = marks c.args.mark.now in
    (double c.args.g.now c.keeps_limits.ensures.multigraph.ends f c.requires.stage (map ear_of c.args.ears.now) c.requires.candidates c.in_ok-step.field-0 c.in-Some-2.step c.in-Some-2.is (c.in_ok-step.ensures.some f (subst (IsAsked c.args.g.now f) (sym (c.asked.ensures ∙ c.in_ok-first.ensures.same)) c.requires.asked))).2

pub returns-clause-single : goal.returns-clause-single
returns-clause-single c = λ sides.
    let g = c.args.g.now in
    let f = marks c.args.mark.now in
    absurd (bipartite-found g c.keeps_limits.ensures.multigraph.ends sides f c.requires.stage (map ear_of c.args.ears.now) c.requires.candidates
    (at-none c.in_ok-first.field-0 (NoneServes g f (map ear_of c.args.ears.now)) (search rules) (c.in_ok-first.ensures.none f c.requires.asked c.requires.candidates.each)))

pub returns-clause-needed : goal.returns-clause-needed
returns-clause-needed c =
    let g = c.args.g.now in
    let f = marks c.args.mark.now in
    let ears = map ear_of c.args.ears.now in
    found-needed g c.keeps_limits.ensures.multigraph.ends f c.requires.stage ears c.requires.candidates.each
    (at-none c.in_ok-first.field-0 (NoneServes g f ears) (search rules) (c.in_ok-first.ensures.none f c.requires.asked c.requires.candidates.each))
    (step_of c.in-Some-2.step) (at-some c.in_ok-step.field-0 c.in-Some-2.step (λ step. FindsTwo g f ears (step_of step)) c.in-Some-2.is (c.in_ok-step.ensures.some f (subst (IsAsked c.args.g.now f) (sym (c.asked.ensures ∙ c.in_ok-first.ensures.same)) c.requires.asked)))
