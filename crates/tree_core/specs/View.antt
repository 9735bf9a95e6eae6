-- How the code's tree is seen: by its plain shape. Two trees that say the same may stand in
-- different boxes.
-- Stated by: tree_core, decomposer, tree_check, uncross, tree_text, mcg6_lines and 4 more.
use Rattle.tree_core.specs.declared.tree.Tree.{Tree, Leaf, Cut'}
use Rattle.tree_core.specs.Shapes.{Shape, leaf, cut}

-- what the tree says
abbrev pub shape_of : Tree → Shape
shape_of Leaf = leaf
shape_of (Cut' x at kept at2 merged) = cut x (shape_of kept) (shape_of merged)
