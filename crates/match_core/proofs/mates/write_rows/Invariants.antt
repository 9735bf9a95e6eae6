use Rattle.graph_core.proofs.from_counting.Common.{◌≡◌, length, mem}
use Rattle.match_core.specs.HeldMates.{NamesRows}
use Rattle.match_core.proofs.mates.write_rows.Given as goal

abbrev pub invariant-loop-i : goal.invariant-loop-i
invariant-loop-i l = record { same : length l.mate ≡ length l.initial.mate; named : NamesRows (mem l.removed) l.m.rows l.mate l.i }
