use Rattle.vset_core.proofs.from_counting.Common.{member-of_set, mem-within}
use Rattle.graph_core.proofs.MergedShores.{covered_merged, tight_up_merged, tight_down_merged}
use Rattle.graph_core.proofs.ShoreLists.{shore-some}
use Rattle.graph_core.proofs.laws.contraction_law.Goals as goal

pub returns-clause-covered : goal.returns-clause-covered
returns-clause-covered c g p x is pp r t cov = covered_merged g is p x pp t (member-of_set g.order x r (shore-some g is p pp x t)) (mem-within g.order x r) cov

pub returns-clause-before : goal.returns-clause-before
returns-clause-before c g p x y is pp r t cov ty = tight_up_merged g is p x pp t (member-of_set g.order x r (shore-some g is p pp x t)) (mem-within g.order x r) cov y ty

pub returns-clause-after : goal.returns-clause-after
returns-clause-after c g p x y is pp r t cov ty u = tight_down_merged g is p x pp t (member-of_set g.order x r (shore-some g is p pp x t)) (mem-within g.order x r) cov y ty u
