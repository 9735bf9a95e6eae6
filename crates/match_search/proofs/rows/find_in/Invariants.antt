use Rattle.std.proofs.Common.{◌≢◌, ℕ, ◌<◌, ◌+◌, get_or}
use Rattle.match_search.proofs.rows.find_in.Given as goal

abbrev pub invariant-loop-j : goal.invariant-loop-j
invariant-loop-j l = (t : ℕ) → t < l.j → get_or l.row (l.from + t) 0 ≢ l.v
