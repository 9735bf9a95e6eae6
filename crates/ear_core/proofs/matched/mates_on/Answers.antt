use Rattle.graph_core.proofs.from_counting.Common.{◌≡◌, ap, subst, sym, mem, IfOk-weaker, none, Set}
use Rattle.graph_core.proofs.Common.{Graph, IsMatching}
use Rattle.two_ears.specs.from_match_core.Common.{edges_of}
use Rattle.two_ears.proofs.from_match_search.WholeGraphs.{limits_row, whole_graph}
use Rattle.two_ears.specs.from_match_search.Common.{HasMates, marks, numbers}
use Rattle.ear_core.proofs.StageMates.{part-matching}
use Rattle.ear_core.specs.Common.{NamesPart}
use Rattle.ear_core.proofs.matched.mates_on.Goals as goal

pub mates_of-requires-clause-row : goal.mates_of-requires-clause-row
mates_of-requires-clause-row c = limits_row c.args.g.now c.order-n.result c.edges-ends.result.now c.order-n.ensures.is c.edges-ends.ensures.edges c.edges-ends.ensures.limits

pub returns-clause-mates : goal.returns-clause-mates
returns-clause-mates c =
    let g = c.args.g.now in
    let whole = whole_graph g c.order-n.result c.edges-ends.result.now c.order-n.ensures.is c.edges-ends.ensures.edges in
    let x = marks c.in_ok-both.both.items in
    let same : marks c.deref.result.now ≡ x = ap marks c.deref.ensures.value in
    let matching = part-matching g (mem (edges_of c.args.m.now)) x c.requires.matching.perfect (λ e w t. c.in_ok-both.ensures.held e t) in
    IfOk-weaker c.mates_of.result _ (λ mate. NamesPart g (marks c.args.mark.now) mate.items)
    (λ mate has. (
      x,
      subst (λ (y : Set). HasMates g none y (numbers mate.items)) same
          (subst (λ (h : Graph). HasMates h none (marks c.deref.result.now) (numbers mate.items)) whole
          (has none (subst (λ (h : Graph). IsMatching h none (marks c.deref.result.now)) (sym whole) (subst (λ (y : Set). IsMatching g none y) (sym same) matching)))),
      c.in_ok-both.ensures.marked,
    )) c.mates_of.ensures.mates
