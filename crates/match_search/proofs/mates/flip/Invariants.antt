use Rattle.std.proofs.Common.{◌≡◌, ℕ, length}
use Rattle.match_search.specs.Common.{flipped_mates, numbers, part}
use Rattle.match_search.proofs.mates.flip.Given as goal

abbrev pub invariant-loop-i : goal.invariant-loop-i
invariant-loop-i l = record { same : length l.mate ≡ length l.initial.mate; row : (u : ℕ) → numbers l.mate u ≡ flipped_mates (numbers l.initial.mate) (part l.path l.from) l.i u }
