use Rattle.std.proofs.Common.{◌≡◌, ℕ, ◌+◌, List, sym, ap, ◌∙◌, subst, arith}
use Rattle.flow_core.specs.Common.{Arc, arc_at, ListsArcs}
use Rattle.flow_core.proofs.Reading.{IsNet-at}
use Rattle.flow_core.proofs.ArcRows.{with_place, ListsArcs-more}
use Rattle.flow_core.proofs.incidence.Incidence.new.Goals as goal

pub loop-i-preserved : goal.loop-i-preserved
loop-i-preserved c =
    let net = c.args.net.now in
    let i = c.loop-i.i in
    let rows = c.loop-i.incidence in
    let arc = arc_at net.arcs i in
    let a : c.arc-arc.result.a ≡ arc.a = ap (λ (x : Arc). x.a) c.arc-arc.ensures in
    let b : c.arc-arc.result.b ≡ arc.b = ap (λ (x : Arc). x.b) c.arc-arc.ensures in
    let first : c.add.new.self ≡ with_place rows arc.a i = c.in_ok-add.ensures ∙ ap (λ v. with_place rows v i) a in
    let second : c.add-in-loop-i.new.self ≡ with_place (with_place rows arc.a i) arc.b i =
    c.in_ok-add-2.ensures ∙ ap (λ v. with_place c.add.new.self v i) b ∙ ap (λ (r : List (List ℕ)). with_place r arc.b i) first in
    subst (ListsArcs net (i + 1)) (sym second)
    (ListsArcs-more net i (IsNet-at net c.nodes.ensures.bounded.arcs i (let t = c.loop-i-test.true in let e = c.size-i-end.ensures in omega arith)) rows c.loop-i.invariant)
