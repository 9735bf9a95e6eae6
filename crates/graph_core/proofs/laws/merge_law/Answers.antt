use Rattle.vset_core.proofs.from_counting.Common.{member-of_set, mem-within}
use Rattle.graph_core.proofs.MergeOrder.{merged_blocks}
use Rattle.graph_core.proofs.Merging.{merged_merges}
use Rattle.graph_core.proofs.laws.merge_law.Goals as goal

pub returns-clause-partition : goal.returns-clause-partition
returns-clause-partition c n p x pp r some u = merged_blocks n p x pp u r.rising (member-of_set n x r some) (mem-within n x r)

pub returns-clause-merge : goal.returns-clause-merge
returns-clause-merge c n p x pp r some u = merged_merges n p x pp.partition u (member-of_set n x r some) (mem-within n x r)
