use Rattle.graph_core.proofs.from_counting.Common.{◌≡◌, ℕ, true, length, Within, item, mem}
use Rattle.match_core.specs.Common.{HoldsMates, are_partners}
use Rattle.match_search.specs.Common.{ServesRows}
use Rattle.match_core.proofs.partner_table.rows_from.Given as goal

abbrev pub invariant-loop-k : goal.invariant-loop-k
invariant-loop-k l = record {
  held : HoldsMates l.g (mem l.removed) l.instance l.mate;
  space : ServesRows l.instance.left l.mate l.space;
  long : length l.rows.items ≡ l.k;
  within : (u v : ℕ) → Within l.k u → mem (item l.rows.items u) v ≡ true → Within l.g.order v;
  row : (u v : ℕ) → Within l.k u → Within l.g.order v → mem (item l.rows.items u) v ≡ are_partners l.g (mem l.removed) u v;
}
