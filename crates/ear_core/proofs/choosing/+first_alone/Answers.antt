use Rattle.graph_core.proofs.from_counting.Common.{rules, ap, map, subst, sym, ◌∙◌, true≢false}
use Rattle.ear_core.specs.Common.{FindsAlone, IsAsked, NoneServes, ear_of}
use Rattle.ear_core.proofs.Searching.{alone-here, alone-later, ear-first, ears-behind, none-alone-later, none-carried, some-carried}
use Rattle.ear_core.proofs.StagePartners.{alone-serves, serves-alone}
use Rattle.ear_core.proofs.choosing.+first_alone.Goals as goal

pub returns-then-contains-clause-some : goal.returns-then-contains-clause-some
returns-then-contains-clause-some t c = λ f is each.
    let g = c.args.g.now in
    let a = ear_of c.in-Some.ear.now in
    alone-here g f a (map ear_of c.args.ears.now) (map ear_of c.in-Some.others.now) (ap (map ear_of) c.in-Some.ensures.cases.0) (ear_of c.in_ok-found.found) c.in_ok-found.ensures
    (alone-serves g f a c.last_of.result c.last_of.ensures.last ((c.in_ok-row.ensures.row g f c.keeps_limits.ensures.multigraph.ends is c.last_of.result).0 (search rules)))

pub returns-clause-some : goal.returns-clause-some
returns-clause-some t c = λ f is each.
    let g = c.args.g.now in
    let a = ear_of c.in-Some.ear.now in
    let ears = map ear_of c.args.ears.now in
    let others = map ear_of c.in-Some.others.now in
    let begins = ap (map ear_of) c.in-Some.ensures.cases.0 in
    some-carried c.first_alone.result (λ ear. FindsAlone g f others (ear_of ear)) (λ ear. FindsAlone g f ears (ear_of ear))
    (λ ear found. alone-later g f a ears others begins (ear_of ear) found) (c.first_alone.ensures.some f (subst (IsAsked g f) (sym c.in_ok-row.ensures.same) is) (ears-behind g f a ears others begins each))

pub returns-clause-none : goal.returns-clause-none
returns-clause-none t c = λ f is each.
    let g = c.args.g.now in
    let a = ear_of c.in-Some.ear.now in
    let ears = map ear_of c.args.ears.now in
    let others = map ear_of c.in-Some.others.now in
    let begins = ap (map ear_of) c.in-Some.ensures.cases.0 in
    let row = c.in_ok-row.ensures.row g f c.keeps_limits.ensures.multigraph.ends is c.last_of.result in
    none-carried c.first_alone.result (NoneServes g f others) (NoneServes g f ears)
    (none-alone-later g f a ears others begins
    (λ q. true≢false (sym (row.1 (serves-alone g f a c.last_of.result c.last_of.ensures.last (ear-first g f a ears others begins each) q)) ∙ (search rules)))) (c.first_alone.ensures.none f (subst (IsAsked g f) (sym c.in_ok-row.ensures.same) is) (ears-behind g f a ears others begins each))
