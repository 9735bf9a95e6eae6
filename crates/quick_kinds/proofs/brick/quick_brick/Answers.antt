use Rattle.std.proofs.Common.{ap, sym, ◌∙◌, slice_get, arith}
use Rattle.matching_digraph.proofs.from_barrier_kit.Common.{barrier_cuts, barrier_cuts-canonical}
use Rattle.graph_core.proofs.Common.{IsCanonicalCut}
use Rattle.brick_kit.specs.from_separation_kit.Common.{separation_cuts}
use Rattle.brick_kit.proofs.from_separation_kit.SeparationFacts.{separation_cuts-canonical}
use Rattle.quick_kinds.proofs.QuickBricks.{at_least_four, class-none, empty-list, first-left, first-of, first-right, no_cut-pair, no_cuts-bicritical, none-brick, pair-none}
use Rattle.quick_kinds.proofs.brick.quick_brick.Goals as goal

pub returns-then-not-is_empty-clause-none : goal.returns-then-not-is_empty-clause-none
returns-then-not-is_empty-clause-none c = grind (arith, slice_get, class-none c.args.g.now c.keeps_limits.ensures.multigraph c.requires.covered c.requires.odd c.get.result)

pub returns-then-not-is_empty-clause-brick : goal.returns-then-not-is_empty-clause-brick
returns-then-not-is_empty-clause-brick c = none-brick c.args.g.now _ c.keeps_limits.ensures.multigraph c.requires.covered c.requires.odd (returns-then-not-is_empty-clause-none c)

pub returns-then-not-is_empty-clause-first : goal.returns-then-not-is_empty-clause-first
returns-then-not-is_empty-clause-first c = grind (arith, first-left (barrier_cuts c.args.g.now) (separation_cuts c.args.g.now) c.get.result, slice_get)

pub returns-then-not-is_empty-clause-cut : goal.returns-then-not-is_empty-clause-cut
returns-then-not-is_empty-clause-cut c =
    first-of (IsCanonicalCut c.args.g.now) (barrier_cuts c.args.g.now) c.get.result (barrier_cuts-canonical c.args.g.now c.keeps_limits.ensures.multigraph.ends c.requires.covered) (ap (λ cuts. slice_get cuts 0) (sym c.in_ok-cuts.ensures) ∙ c.get.ensures)

pub separation_cuts-requires-clause-bicritical : goal.separation_cuts-requires-clause-bicritical
separation_cuts-requires-clause-bicritical c = grind (arith, no_cuts-bicritical, empty-list)

pub separation_cuts-requires-clause-four : goal.separation_cuts-requires-clause-four
separation_cuts-requires-clause-four c = at_least_four c.args.g.now c.keeps_limits.ensures.multigraph c.requires.covered c.requires.odd

pub returns-then-not-is_empty-2-clause-none : goal.returns-then-not-is_empty-2-clause-none
returns-then-not-is_empty-2-clause-none c = grind (arith, slice_get, pair-none c.args.g.now c.keeps_limits.ensures.multigraph c.requires.covered c.requires.odd c.get-then-not-is_empty-2.result)

pub returns-then-not-is_empty-2-clause-brick : goal.returns-then-not-is_empty-2-clause-brick
returns-then-not-is_empty-2-clause-brick c = none-brick c.args.g.now _ c.keeps_limits.ensures.multigraph c.requires.covered c.requires.odd (returns-then-not-is_empty-2-clause-none c)

pub returns-then-not-is_empty-2-clause-first : goal.returns-then-not-is_empty-2-clause-first
returns-then-not-is_empty-2-clause-first c = grind (arith, first-right, empty-list, slice_get)

pub returns-then-not-is_empty-2-clause-cut : goal.returns-then-not-is_empty-2-clause-cut
returns-then-not-is_empty-2-clause-cut c =
    first-of (IsCanonicalCut c.args.g.now) (separation_cuts c.args.g.now) c.get-then-not-is_empty-2.result (separation_cuts-canonical c.args.g.now c.keeps_limits.ensures.multigraph.ends c.requires.covered) (ap (λ cuts. slice_get cuts 0) (sym c.in_ok-others.ensures) ∙ c.get-then-not-is_empty-2.ensures)

pub returns-clause-none : goal.returns-clause-none
returns-clause-none c = grind (arith, empty-list, no_cuts-bicritical, no_cut-pair)

pub returns-clause-brick : goal.returns-clause-brick
returns-clause-brick c = none-brick c.args.g.now _ c.keeps_limits.ensures.multigraph c.requires.covered c.requires.odd (returns-clause-none c)
