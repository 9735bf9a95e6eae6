use Rattle.graph_core.proofs.from_counting.Common.{◌≡◌, ◌+◌, true, arith, common_steps, item, mem}
use Rattle.tight_cuts.proofs.OneSided.{with_cluster}
use Rattle.tight_cuts.proofs.clusters.Clusters.widened.Goals.{then-contains, else-contains}
use Rattle.tight_cuts.proofs.clusters.Clusters.widened.Goals as goal

pub loop-k-preserved : goal.loop-k-preserved
loop-k-preserved c = elim c.if-contains.branch [
  | then-contains w ↦
      let is : w.index.result.now ≡ item c.args.self.now (c.loop-k.k + 1) = grind (arith, common_steps) in
      let held : mem c.args.set (c.loop-k.k + 1) ≡ true = grind arith in
      record {
        one = with_cluster c.args.g.now c.args.e (c.loop-k.k + 1) c.args.self.now (mem c.loop-k.wide) (mem c.if-contains.wide) c.requires.clusters (grind arith) c.loop-k.invariant.one (c.loop-k.invariant.more (c.loop-k.k + 1) held) (λ v. grind arith);
        more = λ v h. grind arith;
      }
  | else-contains w ↦ grind arith
]
