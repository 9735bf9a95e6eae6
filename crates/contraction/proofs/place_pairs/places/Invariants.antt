-- So far each vertex up to v has its place.
use Rattle.std.proofs.Common.{◌≡◌, length}
use Rattle.contraction.specs.Pairs.{ArePlaces}
use Rattle.contraction.proofs.place_pairs.places.Given as goal

abbrev pub invariant-loop-v : goal.invariant-loop-v
invariant-loop-v l = record {
  each : length l.places.items ≡ l.v;
  right : ArePlaces l.p.blocks l.places.items;
}
