-- The place of a node that is still to be read: the cuts above it, with their subtrees read so far
-- (Huet, "The Zipper", 1997).
-- Stated by: tree_text.
use Rattle.std.specs.Prelude.{ℕ, List}
use Rattle.tree_core.specs.Common.{Shape, cut}

-- the root, or below the lowest cut above: its `kept` tree, or its `merged` tree if its `kept` tree
-- has been read
pub data Place : Type 0 where
  root : Place
  in_kept : (shore : List ℕ) (above : Place) → Place
  in_merged : (shore : List ℕ) (kept : Shape) (above : Place) → Place

-- what has been read of a tree whose nodes come in preorder: the next node is at a place, or the
-- tree is complete
pub data Reading : Type 0 where
  wanted : Place → Reading
  whole : Shape → Reading

-- a tree put at a place: after a `kept` tree comes the `merged` tree of its cut, and after a
-- `merged` tree the cut is complete
abbrev pub put : Place → Shape → Reading
put root t = whole t
put (in_kept x above) t = wanted (in_merged x t above)
put (in_merged x k above) t = put above (cut x k t)
