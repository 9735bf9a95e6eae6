-- The sizes of a tree, by induction: a cut adds one leaf and two nodes to what it joins, and its
-- deeper child has no more levels than nodes.
use Rattle.graph_core.proofs.from_counting.Common.{◌≡◌, ℕ, ◌+◌, ◌*◌, ◌≤◌, List, length, arith, length-append}
use Rattle.tree_core.specs.Common.{Shape, leaf, cut, cut_count, leaf_count, node_count, depth, kept_at, merged_at, leaves_at}

pub depth_at_most_nodes : (t : Shape) → depth t ≤ node_count t
depth_at_most_nodes leaf = omega arith
depth_at_most_nodes (cut x k m) = omega (arith, depth_at_most_nodes k, depth_at_most_nodes m)

pub leaf_count-cuts : (t : Shape) → leaf_count t ≡ cut_count t + 1
leaf_count-cuts leaf = omega arith
leaf_count-cuts (cut x k m) = omega (arith, leaf_count-cuts k, leaf_count-cuts m)

pub node_count-cuts : (t : Shape) → node_count t ≡ 2 * cut_count t + 1
node_count-cuts leaf = omega arith
node_count-cuts (cut x k m) = omega (arith, node_count-cuts k, node_count-cuts m)

pub length-leaves_at : (n : ℕ) (p : List (List ℕ)) (t : Shape) → length (leaves_at n p t) ≡ leaf_count t
length-leaves_at n p leaf = omega arith
length-leaves_at n p (cut x k m) =
    omega (arith, length-append (leaves_at n (kept_at n p x) k) (leaves_at n (merged_at n p x) m), length-leaves_at n (kept_at n p x) k, length-leaves_at n (merged_at n p x) m)
