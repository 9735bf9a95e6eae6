use Rattle.std.proofs.Common.{◌≡◌, ◌+◌, ◌++◌, length, map, drop}
use Rattle.std.specs.Vec.Iter.{into_iter_items, into_iter_len}
use Rattle.uncross.specs.Common.{maps_of}
use Rattle.bench_outcomes.specs.Common.{map_lines_of}
use Rattle.bench_reports.proofs.comparing.lines_of.Given as goal

-- the lines so far, and those of the maps that are left, are all
abbrev pub invariant-lines : goal.invariant-lines
invariant-lines l = record {
  left : l.i + length (into_iter_items l.rest) ≡ length l.found;
  counted : into_iter_len l.rest ≡ length (into_iter_items l.rest);
  lines : map_lines_of 0 (map (λ p. p.blocks) l.found) (maps_of l.fn.maps) ≡ l.lines ++ map_lines_of l.i (drop l.i (map (λ p. p.blocks) l.found)) (maps_of (into_iter_items l.rest));
}

abbrev pub decreases-lines : goal.decreases-lines
decreases-lines l = into_iter_len l.rest
