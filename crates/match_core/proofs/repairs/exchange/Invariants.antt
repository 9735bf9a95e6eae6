use Rattle.std.proofs.Common.{◌≡◌, ℕ, length}
use Rattle.match_search.specs.Common.{flipped, marks, part}
use Rattle.match_core.proofs.repairs.exchange.Given as goal

abbrev pub invariant-loop-i : goal.invariant-loop-i
invariant-loop-i l = record { same : length l.mark ≡ length l.initial.mark; row : (e : ℕ) → marks l.mark e ≡ flipped (marks l.initial.mark) (part l.edges l.from) l.i e }
