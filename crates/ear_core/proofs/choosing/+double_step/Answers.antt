use Rattle.std.proofs.Common.{rules, ap, map, arith}
use Rattle.ear_core.specs.Common.{ends_of_ear, FindsBeside, NoTwoServe, NoneServesBeside, PlainEar, two, ear_of}
use Rattle.ear_core.proofs.Searching.{none-carried, no-two-later, two-here, at-none, at-some}
use Rattle.ear_core.proofs.choosing.+double_step.Goals as goal

pub returns-in-Some-2-clause-some : goal.returns-in-Some-2-clause-some
returns-in-Some-2-clause-some t c = λ f is.
    let g = c.args.g.now in
    let a = ear_of c.in-Some.ear.now in
    let others = map ear_of c.in-Some.others.now in
    let found = at-some c.in_ok-second.field-0 c.in-Some-2.second (λ ear. FindsBeside g f (ends_of_ear g a) others (ear_of ear)) c.in-Some-2.is (c.in_ok-second.ensures.some f (ends_of_ear g a) is c.ends_of.ensures) in
    two-here g f a (map ear_of c.args.ears.now) others (ap (map ear_of) c.in-Some.ensures.cases.0) (ear_of c.in-Some-2.second) (two (ear_of c.in_ok-first.first) (ear_of c.in-Some-2.second))
    (ap (λ (b : PlainEar). two b (ear_of c.in-Some-2.second)) c.in_ok-first.ensures) found

pub returns-clause-some : goal.returns-clause-some
returns-clause-some t c = grind arith

pub returns-clause-none : goal.returns-clause-none
returns-clause-none t c = λ f is.
    let g = c.args.g.now in
    let a = ear_of c.in-Some.ear.now in
    none-carried c.double_step.result (NoTwoServe g f (map ear_of c.in-Some.others.now)) (NoTwoServe g f (map ear_of c.args.ears.now))
    (no-two-later g f a (map ear_of c.args.ears.now) (map ear_of c.in-Some.others.now) (ap (map ear_of) c.in-Some.ensures.cases.0)
    (at-none c.in_ok-second.field-0 (NoneServesBeside g f (ends_of_ear g a) (map ear_of c.in-Some.others.now)) (search rules) (c.in_ok-second.ensures.none f (ends_of_ear g a) is c.ends_of.ensures))) (c.double_step.ensures.none f is)
