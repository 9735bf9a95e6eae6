-- Leaf maps that can be composed with those of a move, and what the compositions lead to.
-- Stated by: uncross.
use Rattle.std.specs.Prelude.{◌≡◌, ℕ, List, Option, None, Some, All, length, map}
use Rattle.move_laws.specs.from_contraction.Partition.{PartitionValue}
use Rattle.graph_core.specs.from_counting.Common.{Within, last_of}
use Rattle.graph_core.specs.Common.{block, place}
use Rattle.tree_core.specs.Common.{PlainLeafMap, leaf_at, move_maps, position, then_map, leaves, partitions_of, PlainMove, rotate_at, switch_at, Shape}
use Rattle.uncross.specs.Exchanges.{exchange_at, images_at}
use Rattle.uncross.specs.MapView.{image_name}
use Rattle.uncross.specs.declared.block_images.Images.{Images}
use Rattle.uncross.specs.declared.leaf_maps.Switched.{Switched}

-- the blocks of each partition
abbrev pub blocks_of : List PartitionValue → List (List (List ℕ))
blocks_of ps = map (λ p. p.blocks) ps

-- the name of a block of q
pub record IsNameIn (q : List (List ℕ)) (b : ℕ) : Type 0 where
  pub within : Within 128 b
  pub stands : Within (length q) (place q b)
  pub last : last_of (block q (place q b)) ≡ b

-- a leaf map to one of the leaves qs, by names of its blocks
pub record IsMapInto (qs : List (List (List ℕ))) (m : PlainLeafMap) : Type 0 where
  pub within : Within (length qs) m.to
  pub named : All (IsNameIn (leaf_at qs m.to)) m.images

-- the names of the images of the blocks of q with these names
abbrev pub names_after : ℕ → Images → List (List ℕ) → List ℕ → List ℕ
names_after n images q names = map (λ b. image_name n images (block q (place q b))) names

-- a leaf map composed with a move with this order of the leaves, and with a Switch, if it is one
abbrev pub map_after : ℕ → List ℕ → Option Switched → PlainLeafMap → PlainLeafMap
map_after n order None m = record { to = position order m.to; images = m.images }
map_after n order (Some s) m = record { to = position order m.to; images = names_after n (images_at s.exchange m.to) (leaf_at (blocks_of s.leaves) m.to) m.images }

-- if there is a Switch, the map leads to one of the leaves of its tree
abbrev pub IsMapIntoIf : Option Switched → PlainLeafMap → Type 0
IsMapIntoIf None m = Unit {0}
IsMapIntoIf (Some s) m = IsMapInto (blocks_of s.leaves) m

-- a Switch, if the move m on the tree t is one
abbrev pub IsSwitched : ℕ → Shape → PlainMove → Option Switched → Type 0
IsSwitched n t (rotate_at path) None = Unit {0}
IsSwitched n t (rotate_at path) (Some s) = ⊥
IsSwitched n t (switch_at path u v) None = ⊥
IsSwitched n t (switch_at path u v) (Some s) = (s.leaves ≡ partitions_of n (leaves n t)) × (s.exchange ≡ exchange_at n path u v 0 t)

-- what maps to the leaves of the tree t over 1 to n lead to, composed with those of a move
abbrev pub led_on : ℕ → Shape → PlainMove → List PlainLeafMap → List PlainLeafMap
led_on n t m maps = map (then_map (leaves n t) (move_maps n t m)) maps
