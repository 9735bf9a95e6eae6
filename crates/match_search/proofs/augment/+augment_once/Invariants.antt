use Rattle.graph_core.proofs.from_counting.Common.{length, count, mem}
use Rattle.match_search.proofs.augment.+augment_once.Given as goal

abbrev pub decreases-augment_once : goal.decreases-augment_once
decreases-augment_once l = count (length l.instance.now.rows.items) (mem l.instance.now.left)
