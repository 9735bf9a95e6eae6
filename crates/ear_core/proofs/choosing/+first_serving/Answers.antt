use Rattle.graph_core.proofs.from_counting.Common.{rules, ◌≡◌, ◌∙◌, ap, ap₂, map, sym, ◌||◌, ℕ, mem, union}
use Rattle.ear_core.specs.Common.{ends_of_ear, FindsBeside, NoneServesBeside, ear_of}
use Rattle.ear_core.proofs.Searching.{serves-same, some-carried, none-carried, beside-here, beside-later, none-beside-later}
use Rattle.ear_core.proofs.choosing.+first_serving.Goals as goal

pub returns-then-branch-clause-some : goal.returns-then-branch-clause-some
returns-then-branch-clause-some t c = λ f x is same.
    let g = c.args.g.now in
    let a = ear_of c.in-Some.ear.now in
    let joined : (v : ℕ) → mem c.union.result v ≡ union x (ends_of_ear g a) v = λ v. c.union.ensures v ∙ ap₂ ◌||◌ (same v) (c.ends_of.ensures v) in
    beside-here g f a (map ear_of c.args.ears.now) (map ear_of c.in-Some.others.now) (ap (map ear_of) c.in-Some.ensures.cases.0) x (ear_of c.in_ok-found.found) c.in_ok-found.ensures
    (serves-same g f (mem c.union.result) (union x (ends_of_ear g a)) joined (c.in_ok-serves.ensures.yes g f is (search rules)))

pub returns-clause-some : goal.returns-clause-some
returns-clause-some t c = λ f x is same.
    let g = c.args.g.now in
    let a = ear_of c.in-Some.ear.now in
    some-carried c.first_serving.result (λ ear. FindsBeside g f x (map ear_of c.in-Some.others.now) (ear_of ear)) (λ ear. FindsBeside g f x (map ear_of c.args.ears.now) (ear_of ear))
    (λ ear found. beside-later g f a (map ear_of c.args.ears.now) (map ear_of c.in-Some.others.now) (ap (map ear_of) c.in-Some.ensures.cases.0) x (ear_of ear) found) (c.first_serving.ensures.some f x is same)

pub returns-clause-none : goal.returns-clause-none
returns-clause-none t c = λ f x is same.
    let g = c.args.g.now in
    let a = ear_of c.in-Some.ear.now in
    let joined : (v : ℕ) → mem c.union.result v ≡ union x (ends_of_ear g a) v = λ v. c.union.ensures v ∙ ap₂ ◌||◌ (same v) (c.ends_of.ensures v) in
    none-carried c.first_serving.result (NoneServesBeside g f x (map ear_of c.in-Some.others.now)) (NoneServesBeside g f x (map ear_of c.args.ears.now))
    (none-beside-later g f a (map ear_of c.args.ears.now) (map ear_of c.in-Some.others.now) (ap (map ear_of) c.in-Some.ensures.cases.0) x
    (λ q. c.in_ok-serves.ensures.no g f is (search rules) (serves-same g f (union x (ends_of_ear g a)) (mem c.union.result) (λ v. sym (joined v)) q))) (c.first_serving.ensures.none f x is same)
