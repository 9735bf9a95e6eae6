use Rattle.std.proofs.Common.{◌≤◌, ◌<◌, ◌+◌, ◌-◌, length}
use Rattle.outside.specs.Common.{most_bytes}
use Rattle.mcg6_encoder.specs.Reads.{IsReadPast, most_piece}
use Rattle.mcg6_encoder.proofs.ReadsSoFar.{ReadSoFar}
use Rattle.mcg6_encoder.proofs.reading.read_file.Given as goal

abbrev pub invariant-reading : goal.invariant-reading
invariant-reading g l = record {
  so_far : ReadSoFar g.S.Source.left g.S.Source.reads l.held.items l.fn.source l.source;
  past : most_bytes < length l.held.items → IsReadPast g.S.Source.reads l.fn.source l.source;
  some : 0 < length l.piece;
  small : length l.piece ≤ most_piece;
  faults : g.S.Source.faults l.fn.source ≤ g.S.Source.faults l.source;
}

abbrev pub decreases-reading : goal.decreases-reading
decreases-reading g l = most_bytes + 1 - length l.held.items
