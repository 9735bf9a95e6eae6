use Rattle.std.proofs.Common.{arith}
use Rattle.tight_cuts.proofs.at_places.candidates_at_place.Goals as goal

pub candidates_from_clusters-requires : goal.candidates_from_clusters-requires
candidates_from_clusters-requires c = let known = c.in_ok-clusters.ensures.places c.args.place.now.blocks in grind arith
