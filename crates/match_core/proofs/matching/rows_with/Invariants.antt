use Rattle.std.proofs.Common.{◌≡◌, ◌++◌, ◌∷◌, take, filter, nat_lt}
use Rattle.match_core.proofs.matching.rows_with.Given as goal

abbrev pub invariant-lower : goal.invariant-lower
invariant-lower l = l.all.items ≡ filter (λ row. nat_lt row.edge l.new.edge) (take l.row-index l.rows)

abbrev pub invariant-higher : goal.invariant-higher
invariant-higher l = l.all.items ≡ filter (λ row. nat_lt row.edge l.new.edge) l.rows ++ l.new ∷ filter (λ row. nat_lt l.new.edge row.edge) (take l.row-index l.rows)
