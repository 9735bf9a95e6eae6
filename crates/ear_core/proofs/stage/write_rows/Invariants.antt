use Rattle.graph_core.proofs.from_counting.Common.{◌≡◌, ℕ, true, false, length, mem, item, Within}
use Rattle.ear_core.proofs.stage.write_rows.Given as goal

-- the row is written for the vertices that are not left
abbrev pub invariant-writing : goal.invariant-writing
invariant-writing l = record {
  long : length l.rows.items ≡ length l.fn.rows.items;
  part : (v : ℕ) → mem l.rest v ≡ true → mem l.fn.set v ≡ true;
  own : (v : ℕ) → mem l.fn.set v ≡ true → mem l.rest v ≡ false → item l.rows.items v ≡ l.row;
  others : (v : ℕ) → Within (length l.fn.rows.items) v → mem l.fn.set v ≡ false → item l.rows.items v ≡ item l.fn.rows.items v;
}

abbrev pub decreases-writing : goal.decreases-writing
decreases-writing l = length l.rest
