use Rattle.graph_core.proofs.from_counting.Common.{◌≡◌, ◌∙◌, sym, subst, eqb-true, mem}
use Rattle.graph_core.proofs.Common.{missed_count, none_missed-perfect}
use Rattle.match_core.specs.Common.{edges_of}
use Rattle.allowed_edges.specs.Leaving.{IsPerfectOffMet}
use Rattle.allowed_edges.proofs.short_paths.with_one.Goals as goal

pub returns-then-misses_none : goal.returns-then-misses_none
returns-then-misses_none c = λ n q.
    let found = c.in_ok-found.ensures c.in-Some.found c.in-Some.is in
    let zero = eqb-true (missed_count c.args.g.now (mem c.args.met) (mem (edges_of c.in-Some.found))) 0 (sym c.misses_none.ensures ∙ c.if-misses_none.true) in
    let same : c.in-Some.found ≡ n = cc in
    subst (IsPerfectOffMet c.args.g.now c.args.met) same (record { of = found.of; perfect = none_missed-perfect c.args.g.now (mem c.args.met) (mem (edges_of c.in-Some.found)) found.matching zero })
