-- How the code's leaf maps and images of blocks are seen, as plain data.
-- Stated by: uncross, bench_reports.
use Rattle.std.specs.Prelude.{ℕ, List, map}
use Rattle.graph_core.specs.from_counting.Common.{is_subset, last_of}
use Rattle.tree_core.specs.Common.{PlainLeafMap, inner_rest, list_if, meet_list, outer_rest, union_list}
use Rattle.uncross.specs.declared.block_images.Images.{Images}
use Rattle.uncross.specs.declared.block_images.Images.TheVariants.{Moved, Own}
use Rattle.uncross.specs.declared.leaf_maps.LeafMap.{LeafMap}

-- the map of a leaf
abbrev pub map_of : LeafMap → PlainLeafMap
map_of m = record { to = m.to; images = m.images }

-- the maps of a list
abbrev pub maps_of : List LeafMap → List PlainLeafMap
maps_of ms = map map_of ms

-- the image of a block t: the part that stays; with what is gained, if t contains what leaves; and
-- with what comes, if t contains the far side
abbrev pub moved_image : ℕ → (staying leaving gained far coming t : List ℕ) → List ℕ
moved_image n staying leaving gained far coming t =
    union_list n (meet_list n t staying) (union_list n (list_if (is_subset leaving t) gained) (list_if (is_subset far t) coming))

-- the name of a block's image
abbrev pub image_name : ℕ → Images → List ℕ → ℕ
image_name n Own = last_of
image_name n (Moved staying leaving gained far coming) = λ t. last_of (moved_image n staying leaving gained far coming t)

-- the images of blocks below `kept` of x, where u and v are exchanged
abbrev pub kept_images : ℕ → (x u v : List ℕ) → Images
kept_images n x u v = Moved (inner_rest n x u) u (union_list n (outer_rest n x v) u) (union_list n (outer_rest n x v) v) v

-- the images of blocks below `merged` of x, where u and v are exchanged
abbrev pub merged_images : ℕ → (x u v : List ℕ) → Images
merged_images n x u v = Moved (outer_rest n x v) v (union_list n (inner_rest n x u) v) x u
