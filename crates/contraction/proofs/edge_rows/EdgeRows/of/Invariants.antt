use Rattle.contraction.proofs.EdgeRows.{ListsFirst}
use Rattle.contraction.proofs.edge_rows.EdgeRows.of.Given as goal

abbrev pub invariant-loop-k : goal.invariant-loop-k
invariant-loop-k l = ListsFirst l.ends l.n l.k l.rows
