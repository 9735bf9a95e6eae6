use Rattle.std.proofs.Common.{◌≡◌, ℕ, ◌<◌, ◌+◌, ◌-◌, length, get_or}
use Rattle.match_search.proofs.rows.write_part_back.Given as goal

abbrev pub invariant-loop-i : goal.invariant-loop-i
invariant-loop-i l = record {
  same : length l.row ≡ length l.initial.row;
  kept : (j : ℕ) → j < l.at → get_or l.row j 0 ≡ get_or l.initial.row j 0;
  written : (j : ℕ) → j < l.i → get_or l.row (l.at + j) 0 ≡ get_or l.of (l.from + (l.count - 1 - j)) 0;
}
