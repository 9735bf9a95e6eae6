use Rattle.graph_core.proofs.from_counting.Common.{List, ℕ, subst, mem}
use Rattle.match_core.specs.Common.{ArePartners}
use Rattle.allowed_edges.proofs.perfect.partners_where_perfect.Goals as goal

pub returns-then-is_perfect-clause-table : goal.returns-then-is_perfect-clause-table
returns-then-is_perfect-clause-table c = subst (λ (xs : List ℕ). ArePartners c.args.g.now (mem xs) c.in_ok-table.table) c.empty.ensures c.in_ok-table.ensures
