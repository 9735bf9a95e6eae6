use Rattle.theorems.proofs.BrickNumbers.{count-sum, few-counted, no-brick, one-count, sum-over_cut}
use Rattle.theorems.proofs.QuotientCounts.{quotient-counts}
use Rattle.theorems.proofs.decompositions.brick_number_law.Goals as goal

pub returns : goal.returns
returns c = record { one = one-count; sum = count-sum; few = few-counted; bipartite = no-brick; additive = sum-over_cut; partitions = quotient-counts }
