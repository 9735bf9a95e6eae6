use Rattle.graph_core.proofs.from_counting.Common.{◌≡◌, ℕ, true, subst, arith, Within, mem}
use Rattle.graph_core.proofs.Common.{Graph, covered_perfect, in_cut, size, tight_from_cut}
use Rattle.tight_cuts.proofs.CrossingMatchings.{crossed_not_tight, uncrossed_tight}
use Rattle.tight_cuts.specs.Common.{NoLaterWith}
use Rattle.tight_cuts.proofs.tightness.tightness_in.Goals as goal

pub returns-then-is_balanced : goal.returns-then-is_balanced
returns-then-is_balanced c = grind (arith, covered_perfect, tight_from_cut, mem)

pub returns-in-Some : goal.returns-in-Some
returns-in-Some c = grind (arith, crossed_not_tight c.args.c.now (mem c.args.shore) c.in-Some.matching)

pub returns : goal.returns
returns c = uncrossed_tight c.args.c.now c.args.shore c.keeps_covered.ensures.limits.multigraph.ends c.keeps_covered.ensures.covered c.requires.shore c.requires.odd
    (subst (λ (h : Graph). (e : ℕ) → Within (size h) e → in_cut h (mem c.args.shore) e ≡ true → NoLaterWith h (mem c.args.shore) e) c.graph-g.ensures.same (c.in_ok-matching.ensures.none c.in-None.is))
