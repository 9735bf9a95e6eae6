use Rattle.std.proofs.Common.{◌≢◌, ℕ, ◌<◌, ◌≤◌, ◌+◌, get_or}
use Rattle.match_search.proofs.cycle.last_meeting.Given as goal

abbrev pub invariant-loop-i : goal.invariant-loop-i
invariant-loop-i l = record { few : l.i ≤ l.p_count; none : (s t : ℕ) → l.i ≤ s → s < l.p_count → t < l.q_count → get_or l.row (l.p + s) 0 ≢ get_or l.row (l.q + t) 0 }

abbrev pub decreases-loop-i : goal.decreases-loop-i
decreases-loop-i l = l.i
