use Rattle.graph_core.proofs.from_counting.Common.{ap, subst, sym, map, List, IfOk, arith, IfOk-weaker, none}
use Rattle.two_ears.specs.from_match_search.Common.{marks}
use Rattle.ear_core.specs.Common.{AreCandidates, AreMatedEars, IsChosen, KeepsMates, row_edge, IsNeeded, IsSingle, IsStep, next_stage, is_met, ear_of, step_of}
use Rattle.ear_core.specs.declared.ears.Ear.{Ear}
use Rattle.ear_core.proofs.LoneLeads.{lone-single}
use Rattle.ear_core.proofs.Stepping.{both-ok, round-candidates, round-ears, step-fits, step-keeps}
use Rattle.ear_core.proofs.building.step_by.Goals as goal
use Rattle.ear_core.proofs.building.step_by.Goals.{After-deref}

-- the ears collected
collected : (c : After-deref) → AreMatedEars c.args.g.now (marks c.args.mark.now) (row_edge c.args.leading.now.rows) (row_edge c.args.kept.now.rows) none (map ear_of c.collect.new.ears.items)
collected c = round-ears c.args.g.now (marks c.args.mark.now) (row_edge c.args.leading.now.rows) (row_edge c.args.kept.now.rows) c.empty.result c.empty.ensures (map ear_of c.new-ears.result.items) (map ear_of c.collect.new.ears.items) (ap (map ear_of) c.new-ears.ensures.items) c.in_ok-collect.ensures

-- they are candidates
candidates : (c : After-deref) → AreCandidates c.args.g.now (marks c.args.mark.now) (map ear_of c.collect.new.ears.items)
candidates c = round-candidates c.args.g.now c.keeps_limits.ensures.multigraph.ends (marks c.args.mark.now) c.args.leading.now c.requires.leading (row_edge c.args.kept.now.rows) c.requires.leads (map ear_of c.collect.new.ears.items) (collected c)

pub choose-requires-clause-candidates : goal.choose-requires-clause-candidates
choose-requires-clause-candidates c = subst (λ (items : List Ear). AreCandidates c.args.g.now (marks c.args.mark.now) (map ear_of items)) (sym c.deref.ensures.value) (candidates c)

pub returns-clause-fits : goal.returns-clause-fits
returns-clause-fits c = grind (arith, step-fits)

pub returns-clause-mates : goal.returns-clause-mates
returns-clause-mates c =
    let there = (goal.at.returns-clause-mates c).After-deref in
    let g = c.args.g.now in
    let f = marks c.args.mark.now in
    let m = row_edge c.args.leading.now.rows in
    let n = row_edge c.args.kept.now.rows in
    let ears = map ear_of c.collect.new.ears.items in
    let chosen = subst (λ (items : List Ear). IfOk c.choose.result (λ step. IsChosen (map ear_of items) (step_of step))) c.deref.ensures.value c.choose.ensures.chosen in
    IfOk-weaker c.choose.result (λ step. IsChosen ears (step_of step) × IsStep g f (step_of step)) (λ step. KeepsMates g n (is_met g (next_stage f (step_of step))))
    (λ step is. step-keeps g f m n ears (collected there).each (step_of step) is.0 is.1 c.requires.mates)
    (both-ok c.choose.result (λ step. IsChosen ears (step_of step)) (λ step. IsStep g f (step_of step)) chosen c.choose.ensures.step)

pub returns-clause-lone : goal.returns-clause-lone
returns-clause-lone c =
    let there = (goal.at.returns-clause-lone c).After-deref in
    let g = c.args.g.now in
    let f = marks c.args.mark.now in
    let ears = map ear_of c.collect.new.ears.items in
    let chosen = subst (λ (items : List Ear). IfOk c.choose.result (λ step. IsChosen (map ear_of items) (step_of step))) c.deref.ensures.value c.choose.ensures.chosen in
    λ leads. IfOk-weaker c.choose.result (λ step. IsChosen ears (step_of step) × IsNeeded g f (step_of step)) (λ step. IsSingle (step_of step))
    (λ step is. lone-single g c.keeps_limits.ensures.multigraph.ends f c.args.leading.now c.requires.leading leads (row_edge c.args.kept.now.rows) ears (collected there).each (candidates there) c.requires.stage (step_of step) is.0 is.1)
    (both-ok c.choose.result (λ step. IsChosen ears (step_of step)) (λ step. IsNeeded g f (step_of step)) chosen c.choose.ensures.needed)
