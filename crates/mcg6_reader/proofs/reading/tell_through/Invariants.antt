use Rattle.std.proofs.Common.{◌≤◌}
use Rattle.mcg6_reader.specs.Common.{Reports}
use Rattle.mcg6_reader.proofs.Readings.{SoFar}
use Rattle.mcg6_reader.proofs.reading.tell_through.Given as goal

abbrev pub invariant-reading : goal.invariant-reading
invariant-reading g l = record {
  so_far : SoFar (g.T.LineTeller.tells l.teller) (Reports (g.T.LineTeller.skips l.teller)) g.S.Source.left g.S.Source.reads g.K.Sink.written g.K.Sink.writes l.listing.place l.listing.held.items l.fn.source l.fn.sink l.source l.sink l.fn.skipped.items l.skipped.items;
  source_faults : g.S.Source.faults l.fn.source ≤ g.S.Source.faults l.source;
  sink_faults : g.K.Sink.faults l.fn.sink ≤ g.K.Sink.faults l.sink;
}
