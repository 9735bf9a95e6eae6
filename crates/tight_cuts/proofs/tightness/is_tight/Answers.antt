use Rattle.graph_core.proofs.from_counting.Common.{ℕ, List, subst, sym, arith, mem}
use Rattle.graph_core.proofs.Common.{covered_perfect, HasPerfect, IsPerfect}
use Rattle.barrier_kit.specs.from_match_core.Common.{edges_of}
use Rattle.tight_cuts.proofs.CrossingMatchings.{crossed_not_tight, uncrossed_tight}
use Rattle.tight_cuts.proofs.tightness.is_tight.Goals as goal

pub crossing-requires-clause-perfect : goal.crossing-requires-clause-perfect
crossing-requires-clause-perfect c = subst (λ (xs : List ℕ). IsPerfect c.args.g.now (mem xs) (mem (edges_of c.in-Some.kept))) c.empty.ensures (c.in_ok-kept.ensures.perfect c.in-Some.kept c.in-Some.is)

pub returns-in-Some-2 : goal.returns-in-Some-2
returns-in-Some-2 c = grind (arith, crossed_not_tight c.args.g.now (mem c.args.shore) c.in-Some-2.matching)

pub returns-in-Some : goal.returns-in-Some
returns-in-Some c = uncrossed_tight c.args.g.now c.args.shore c.keeps_limits.ensures.multigraph.ends c.requires.covered c.requires.shore c.requires.odd (c.in_ok-matching-in-Some.ensures.none c.in-None-2.is)

pub unreachable-requires : goal.unreachable-requires
unreachable-requires c = c.in_ok-kept.ensures.none.0 c.in-None.is (subst (λ (xs : List ℕ). HasPerfect c.args.g.now (mem xs)) (sym c.empty.ensures) (covered_perfect c.args.g.now c.keeps_limits.ensures.multigraph.ends c.requires.covered))
