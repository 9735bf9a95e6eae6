-- The names so far, followed by those of the rest, are all of them; and the rest are names of
-- blocks.
use Rattle.std.proofs.Common.{length, ℕ}
use Rattle.graph_core.proofs.Common.{block, place}
use Rattle.uncross.proofs.MappedSteps.{IsMadeOf}
use Rattle.uncross.specs.Common.{IsNameIn, names_after, image_name}
use Rattle.uncross.proofs.leaf_maps.names_after.Given as goal

abbrev pub invariant-names : goal.invariant-names
invariant-names l = IsMadeOf (λ (b : ℕ). image_name l.n l.images (block l.q.blocks (place l.q.blocks b))) (IsNameIn l.q.blocks) (names_after l.n l.images l.q.blocks l.names) l.after l.rest

-- those left
abbrev pub decreases-names : goal.decreases-names
decreases-names l = length l.rest
