-- The order of the leaves that a move gives at the end of its path.
-- Stated by: uncross.
use Rattle.std.specs.Prelude.{ℕ, List}
use Rattle.tree_core.specs.Common.{rotate_order, switch_order, Shape}
use Rattle.uncross.specs.declared.leaf_orders.Change.{Change}
use Rattle.uncross.specs.declared.leaf_orders.Change.TheVariants.{Rotate, Switch}

-- the old numbers of the leaves of the tree there, in their new order; k leaves come before
abbrev pub changed_order : Change → ℕ → Shape → List ℕ
changed_order (Rotate side) = rotate_order side
changed_order (Switch n u v) = switch_order n u v
