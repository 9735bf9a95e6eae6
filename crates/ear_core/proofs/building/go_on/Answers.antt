use Rattle.graph_core.proofs.from_counting.Common.{Bool, List, subst, ℕ, Set}
use Rattle.graph_core.proofs.Common.{Graph}
use Rattle.two_ears.specs.from_match_search.Common.{marks}
use Rattle.ear_core.specs.Common.{GoesOn, IsBuilt, IsStep, row_edge, step_of}
use Rattle.ear_core.proofs.GoingOn.{on-ok}
use Rattle.ear_core.proofs.Stepping.{fewer-off}
use Rattle.ear_core.proofs.building.go_on.Goals as goal

pub returns-in-Some-clause-built : goal.returns-in-Some-clause-built
returns-in-Some-clause-built c =
    on-ok c.add_between.result _ _
    (λ add first. (subst (λ (h : Graph). (n : ℕ → ℕ) (first : Set) → IsBuilt h n first c.args.built.now → IsBuilt h n first c.add_between.new.self) c.graph-g.ensures.same add) (row_edge c.args.kept.now.rows) first) c.add_between.ensures.built

pub returns-in-Some-clause-fewer : goal.returns-in-Some-clause-fewer
returns-in-Some-clause-fewer c = rw (← c.graph-g.ensures.same) c.add_between.ensures.fewer

pub returns-clause-built : goal.returns-clause-built
returns-clause-built c =
    let g = c.args.c.now in
    let n = row_edge c.args.kept.now.rows in
    let s = step_of c.in_ok-step-in-None.step in
    let old = c.args.built.now in
    let e = c.in_ok-step-in-None.ensures in
    let goes : GoesOn g n (marks old.marked.mark.items) s = subst (λ (items : List Bool). GoesOn g n (marks items) s) c.deref-in-None.ensures.value (record { step = e.step; stage = e.stage; mates = e.mates; needed = e.needed; forced = e.forced; single = e.single }) in
    on-ok c.add.result _ _
    (λ add first built. (subst (λ (h : Graph). (n : ℕ → ℕ) (first : Set) → IsBuilt h n first old → GoesOn h n (marks old.marked.mark.items) s → IsBuilt h n first c.add.new.self) c.graph-g.ensures.same add) n first built goes) c.add.ensures.built

pub returns-clause-fewer : goal.returns-clause-fewer
returns-clause-fewer c =
    let g = c.args.c.now in
    let s = step_of c.in_ok-step-in-None.step in
    let old = c.args.built.now in
    let step = subst (λ (items : List Bool). IsStep g (marks items) s) c.deref-in-None.ensures.value c.in_ok-step-in-None.ensures.step in
    on-ok c.add.result _ _ (λ same. fewer-off g (marks old.marked.mark.items) (marks c.add.new.self.marked.mark.items) s same step) c.add.ensures.marks
