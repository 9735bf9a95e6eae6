use Rattle.graph_core.proofs.from_counting.Common.{◌+◌, ◌∙◌, ap, mem}
use Rattle.graph_core.proofs.Common.{Graph, first_end, second_end, size}
use Rattle.tight_cuts.proofs.BesideGraphs.{size-more}
use Rattle.tight_cuts.proofs.TurnedEdges.{turned_more}
use Rattle.tight_cuts.proofs.quick_tightness.turned.Goals as goal

pub loop-k-preserved : goal.loop-k-preserved
loop-k-preserved c =
    let ok = c.in_ok-push_edge.ensures.ok in
    let old = c.loop-k.invariant in
    let a = c.turned_ends.result.a in
    let b = c.turned_ends.result.b in
    record {
      order = ap (λ (h : Graph). h.order) ok ∙ old.order;
      long = ap (λ (h : Graph). size h) ok ∙ size-more c.loop-k.turned a b ∙ ap (λ n. n + 1) old.long;
      same = λ d w cut.
          let t = turned_more c.args.g.now c.loop-k.turned (mem c.args.set) c.args.u c.loop-k.k a b old.long old.same c.turned_ends.ensures.same d w cut in
          (ap (λ (h : Graph). first_end h d) ok ∙ t.0, ap (λ (h : Graph). second_end h d) ok ∙ t.1);
    }
