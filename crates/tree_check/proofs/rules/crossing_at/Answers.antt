use Rattle.graph_core.proofs.from_counting.Common.{ℕ, List, [], length, Option, unwrap_or, sym, ap, ap₂, ◌∙◌, subst, arith, mem, rising_list}
use Rattle.graph_core.proofs.Common.{Graph, blocks_in, quotient}
use Rattle.tight_cuts.specs.Common.{CrossesTwice, IsTightness}
use Rattle.tree_check.proofs.CutRules.{crossing-shown, places-odd, places-rise, tight-shown}
use Rattle.tree_check.proofs.rules.crossing_at.Goals as goal

pub is_tight-requires-clause-shore : goal.is_tight-requires-clause-shore
is_tight-requires-clause-shore c = grind (arith, places-rise c.args.p.now.graph c.args.p.now.blocks (mem c.args.shore))

pub is_tight-requires-clause-odd : goal.is_tight-requires-clause-odd
is_tight-requires-clause-odd c = grind (arith, places-odd c.args.p.now.graph c.args.p.now.blocks (mem c.args.shore))

pub returns-in-Tight-clause-none : goal.returns-in-Tight-clause-none
returns-in-Tight-clause-none c none = grind (arith, tight-shown c.args.p.now.graph c.args.p.now.blocks (mem c.args.shore))

pub returns-clause-some : goal.returns-clause-some
returns-clause-some c m is =
    let g = c.args.p.now.graph in
    let p = c.args.p.now.blocks in
    let x = mem c.args.shore in
    let places = c.places_in-places.ensures ∙ ap (λ (bs : List (List ℕ)). rising_list (length bs) (blocks_in bs x)) c.partition-blocks.ensures.blocks in
    let made = c.in_ok-q.ensures ∙ ap₂ quotient c.graph.ensures c.partition-blocks.ensures.blocks in
    crossing-shown g p x c.keeps_place.ensures.limits.multigraph.ends c.keeps_place.ensures.partition.partition c.requires.union
    c.in-Crossed.matching m
    (subst (λ (s : List ℕ). CrossesTwice (quotient g p) (mem s) c.in-Crossed.matching) places
    (subst (λ (h : Graph). CrossesTwice h (mem c.places_in-places.result) c.in-Crossed.matching) made
    (subst (IsTightness c.in_ok-q.q (mem c.places_in-places.result)) c.in-Crossed.is c.in_ok-is_tight.ensures).1))
    (sym (ap (λ (o : Option (List ℕ)). unwrap_or o []) is) ∙ c.in_ok-edges-in-Crossed.ensures)
