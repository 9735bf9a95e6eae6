use Rattle.graph_core.proofs.from_counting.Common.{arith, or_assoc}
use Rattle.match_search.specs.Common.{marks}
use Rattle.match_search.proofs.GrownRows.{with_put}
use Rattle.match_search.proofs.Gluing.{mem-more}
use Rattle.match_search.proofs.rows.mark_places.Goals as goal

pub loop-place-preserved : goal.loop-place-preserved
loop-place-preserved c = grind (arith, with_put (marks c.loop-place.mark.items), or_assoc, mem-more c.args.places.now c.loop-place.place-index)
