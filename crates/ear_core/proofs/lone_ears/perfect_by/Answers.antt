use Rattle.graph_core.proofs.from_counting.Common.{subst, sym, List, All, ℕ, Within, mem, none}
use Rattle.graph_core.proofs.Common.{Graph, size, with_ends, HasPerfect, IsPerfect}
use Rattle.two_ears.specs.from_match_core.Common.{edges_of}
use Rattle.two_ears.specs.from_match_search.Common.{HasPerfectWith, HoldsAll, marks}
use Rattle.ear_core.specs.Common.{listed}
use Rattle.ear_core.proofs.MarkedMatchings.{held-marked, listed-found, listed-within, marked-listed}
use Rattle.ear_core.proofs.lone_ears.perfect_by.Goals as goal
use Rattle.ear_core.proofs.lone_ears.perfect_by.Goals.{In-Some}

pub returns-in_default-clause-none : goal.returns-in_default-clause-none
returns-in_default-clause-none c = λ m p.
    let g = c.args.g.now in
    c.in_ok-found.ensures.none.0 c.in_default.is
    (subst (λ (h : Graph). HasPerfect h (mem c.empty.result)) (sym c.in_ok-stage.ensures)
    (subst (λ (xs : List ℕ). HasPerfect (with_ends g (listed g (marks c.args.row.now) (size g))) (mem xs)) (sym c.empty.ensures) (marked-listed g (marks c.args.row.now) m p)))

-- the matching that is found, of the graph of the marked edges
found : (c : In-Some) → IsPerfect (with_ends c.args.g.now (listed c.args.g.now (marks c.args.row.now) (size c.args.g.now))) none (mem (edges_of c.in-Some.found))
found c =
    let ms = mem (edges_of c.in-Some.found) in
    subst (λ (h : Graph). IsPerfect h none ms) c.in_ok-stage.ensures
    (subst (λ (xs : List ℕ). IsPerfect c.in_ok-stage.stage (mem xs) ms) c.empty.ensures (c.in_ok-found.ensures.perfect c.in-Some.found c.in-Some.is))

pub perfect_with-requires : goal.perfect_with-requires
perfect_with-requires c =
    let there = (goal.at.perfect_with-requires c).In-Some in
    let g = c.args.g.now in
    subst (All (Within (size g))) (sym c.in_ok-edges.ensures) (listed-within g (marks c.args.row.now) (mem (edges_of c.in-Some.found)) (found there))

pub unreachable-requires : goal.unreachable-requires
unreachable-requires c =
    let there = (goal.at.unreachable-requires c).In-Some in
    let g = c.args.g.now in
    c.in_ok-m.ensures.none.0 c.in-None.is (subst (HasPerfectWith g) (sym c.in_ok-edges.ensures) (listed-found g (marks c.args.row.now) (mem (edges_of c.in-Some.found)) (found there)))

pub returns-clause-part : goal.returns-clause-part
returns-clause-part c =
    let there = (goal.at.returns-clause-part c).In-Some in
    let g = c.args.g.now in
    let m = c.in-Some-2.m in
    held-marked g (marks c.args.row.now) (mem (edges_of c.in-Some.found)) (found there) c.keeps_limits.ensures.multigraph.ends (mem (edges_of m)) (c.in_ok-m.ensures.perfect m c.in-Some-2.is)
    (subst (λ (es : List ℕ). HoldsAll es (mem (edges_of m))) c.in_ok-edges.ensures (c.in_ok-m.ensures.holds m c.in-Some-2.is))
