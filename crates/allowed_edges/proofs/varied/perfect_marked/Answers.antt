use Rattle.graph_core.proofs.from_counting.Common.{◌≡◌, ◌∙◌, sym, subst, eqb-true, arith, mem}
use Rattle.graph_core.proofs.Common.{missed_count}
use Rattle.match_core.specs.Common.{edges_of}
use Rattle.allowed_edges.specs.PairTables.{IsPerfectWith}
use Rattle.allowed_edges.proofs.TwiceNamed.{listed_holds, listed_off, listed_perfect}
use Rattle.allowed_edges.proofs.varied.perfect_marked.Goals as goal

pub misses_none-requires : goal.misses_none-requires
misses_none-requires c = listed_off c.args.g.now c.in_ok-found.found c.args.mark.now c.requires.matching c.in_ok-found.ensures.of c.in_ok-found.ensures.edges c.empty.result c.empty.ensures

pub returns-then-misses_none-clause-perfect : goal.returns-then-misses_none-clause-perfect
returns-then-misses_none-clause-perfect c = λ m q.
    let same : c.in_ok-found.found ≡ m = cc in
    let zero = eqb-true (missed_count c.args.g.now (mem c.empty.result) (mem (edges_of c.in_ok-found.found))) 0 (sym c.misses_none.ensures ∙ c.if-misses_none.true) in
    subst (IsPerfectWith c.args.g.now c.args.e) same (record {
      of = c.in_ok-found.ensures.of;
      perfect = listed_perfect c.args.g.now c.in_ok-found.found c.args.mark.now c.requires.matching c.in_ok-found.ensures.of c.in_ok-found.ensures.edges c.empty.result c.empty.ensures zero;
      held = listed_holds c.args.g.now c.in_ok-found.found c.args.mark.now c.requires.matching c.in_ok-found.ensures.of c.in_ok-found.ensures.edges c.args.e c.requires.edge (c.is_marked.ensures c.if-not-is_marked.false);
    })

pub returns-then-misses_none-clause-held : goal.returns-then-misses_none-clause-held
returns-then-misses_none-clause-held c = grind (arith, listed_holds)
