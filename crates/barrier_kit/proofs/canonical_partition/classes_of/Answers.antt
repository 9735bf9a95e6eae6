use Rattle.graph_core.proofs.from_counting.Common.{ap, sym, ◌∙◌, arith, mem}
use Rattle.barrier_kit.proofs.ListedClasses.{classes-all, classes-passed, classes-taken}
use Rattle.barrier_kit.proofs.canonical_partition.classes_of.Goals.{then-not-contains+in_ok-push, else-not-contains}
use Rattle.barrier_kit.proofs.canonical_partition.classes_of.Goals as goal

pub loop-k-preserved : goal.loop-k-preserved
loop-k-preserved c =
    let g = c.args.c.now in
    let is = c.keeps_covered.ensures.limits.multigraph.ends in
    let n = c.order-k-end.ensures.is in
    let l = c.loop-k-test.true in
    elim c.if-not-contains.branch [
      | then-not-contains+in_ok-push w ↦
          let r = classes-taken g is c.keeps_covered.ensures.covered c.loop-k.k c.loop-k.list w.push.new.self (mem c.loop-k.met) (mem w.union-met.result) w.class_of-class.result (omega arith) c.loop-k.invariant.list c.loop-k.invariant.met (sym c.contains.ensures ∙ w.if-not-contains.true)
          w.class_of-class.ensures w.in_ok-push.ensures.ok w.union-met.ensures in
          record { list = w.list-is ∙ r.0; met = λ v wv. ap (λ s. mem s v) w.met-is ∙ r.1 v wv }
      | else-not-contains w ↦ grind (arith, classes-passed g is c.keeps_covered.ensures.covered c.loop-k.k c.loop-k.list (mem c.loop-k.met))
    ]

pub returns : goal.returns
returns c = grind (arith, classes-all c.args.c.now c.keeps_covered.ensures.limits.multigraph.ends c.keeps_covered.ensures.covered c.loop-k.k c.loop-k.list)
