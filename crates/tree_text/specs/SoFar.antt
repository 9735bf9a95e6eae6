-- How the code's state of reading a tree, and of reading picks, is seen.
-- Stated by: tree_text.
use Rattle.tree_core.specs.Common.{shape_of}
use Rattle.tree_text.specs.Places.{Place, root, in_kept, in_merged, Reading, wanted, whole}
use Rattle.tree_text.specs.TreeFormat.{TreeSoFar}
use Rattle.tree_text.specs.PickFormat.{PicksSoFar}
use Rattle.tree_text.specs.declared.place.Above.{Above, Root, InKept', InMerged'}
use Rattle.tree_text.specs.declared.place.Progress.{Progress}
use Rattle.tree_text.specs.declared.place.Progress.TheVariants.{Wanted, Whole}
use Rattle.tree_text.specs.declared.nodes_read.NodesRead.{NodesRead}
use Rattle.tree_text.specs.declared.pick_format.PicksRead.{PicksRead}

-- the place of the next node
abbrev pub next_place : Above → Place
next_place Root = root
next_place (InKept' x at above) = in_kept x (next_place above)
next_place (InMerged' x kept at above) = in_merged x (shape_of kept.value) (next_place above)

-- what the nodes read so far give
abbrev pub progress_of : Progress → Reading
progress_of (Wanted above) = wanted (next_place above)
progress_of (Whole tree) = whole (shape_of tree)

-- the same with their number
abbrev pub tree_so_far : NodesRead → TreeSoFar
tree_so_far body = record { nodes = body.nodes; reading = progress_of body.progress }

-- the picks read so far, and how many are expected
abbrev pub picks_so_far : PicksRead → PicksSoFar
picks_so_far body = record { count = body.count; picks = body.picks }
