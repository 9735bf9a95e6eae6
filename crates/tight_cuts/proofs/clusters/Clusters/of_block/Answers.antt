use Rattle.graph_core.proofs.from_counting.Common.{◌≡◌, ◌∙◌, ℕ, List, ap, sym, arith, common_steps, item, last_of, mem}
use Rattle.graph_core.proofs.Common.{block}
use Rattle.tight_cuts.proofs.ClustersAtPlaces.{name-listed}
use Rattle.tight_cuts.proofs.clusters.Clusters.of_block.Goals as goal

pub overflow_sub-name : goal.overflow_sub-name
overflow_sub-name c = grind (arith, name-listed c.args.p.now.order c.args.p.now.blocks c.keeps_partition.ensures.partition.partition c.args.i c.name_of-name.result c.block.result)

pub index-requires : goal.index-requires
index-requires c = grind (arith, name-listed c.args.p.now.order c.args.p.now.blocks c.keeps_partition.ensures.partition.partition c.args.i c.name_of-name.result c.block.result)

pub returns : goal.returns
returns c = λ j m.
    let own = name-listed c.args.p.now.order c.args.p.now.blocks c.keeps_partition.ensures.partition.partition c.args.i c.name_of-name.result c.block.result c.block.ensures c.name_of-name.ensures in
    let within = own.1 in
    let is : c.index.result.now ≡ item c.args.self.now c.name_of-name.result = grind (arith, common_steps) in
    let r = c.named_in.ensures j m in
    (r.0, ap (λ (s : List ℕ). mem s (last_of (block c.args.p.now.blocks j))) (sym (is ∙ ap (item c.args.self.now) own.2)) ∙ r.1)
