-- How a shore is brought to the root of a tree of cuts, after corners were brought to the roots of
-- its two subtrees: partial functions on plain trees, with the moves that they make.
-- Stated by: uncross. Used by: move_laws.
use Rattle.std.specs.Prelude.{ℕ, List, [], ◌∷◌, ◌++◌, map, Option, Some, None, option_map, option_and_then, if◌then◌else◌}
use Rattle.graph_core.specs.from_counting.Common.{is_subset}
use Rattle.tree_core.specs.Common.{PlainMove, below, rotate_at, rotate_result_at, switch_at, switch_result_at, Shape, leaf, cut}
use Rattle.tree_core.specs.declared.path.Side.{Side}
use Rattle.tree_core.specs.declared.path.Side.TheVariants.{Kept, Merged}

-- a tree that moves have made, and the moves
pub record PlainTurned : Type 0 where
  pub tree : Shape
  pub moves : List PlainMove

-- the root of a child brought over the root
abbrev pub raised : Side → Shape → Option PlainTurned
raised side t = option_map (λ r. record { tree = r; moves = rotate_at (side ∷ []) ∷ [] }) (rotate_result_at side t)

-- u and v exchanged at the root
abbrev pub switched : ℕ → (u v : List ℕ) → Shape → Option PlainTurned
switched n u v t = option_map (λ r. record { tree = r; moves = switch_at [] u v ∷ [] }) (switch_result_at n u v t)

-- moves before others
abbrev pub followed : List PlainMove → Option PlainTurned → Option PlainTurned
followed ms t = option_map (λ r. record { tree = r.tree; moves = ms ++ r.moves }) t

-- the tree `kept` turned, and its new root brought above x
abbrev pub raised_kept : List ℕ → PlainTurned → Shape → Option PlainTurned
raised_kept x k b = followed (map (below Kept) k.moves) (raised Kept (cut x k.tree b))

-- the tree `merged` turned, and its new root brought above x
abbrev pub raised_merged : List ℕ → Shape → PlainTurned → Option PlainTurned
raised_merged x a m = followed (map (below Merged) m.moves) (raised Merged (cut x a m.tree))

-- with the outer corner, or its complement, at the root: u and v are exchanged in the child that
-- contains x, and its new root is brought up
abbrev pub switched_below : ℕ → (x u v : List ℕ) → Shape → Option PlainTurned
switched_below n x u v leaf = None
switched_below n x u v (cut top c d) =
    if is_subset x top
    then option_and_then (λ w. raised_kept top w d) (switched n u v c)
    else option_and_then (λ w. raised_merged top c w) (switched n u v d)

-- the shore of u and v at the root x: exchanged at once, or after moves in `merged` that brought
-- the outer corner to its root
abbrev pub over_outer : ℕ → (x u v : List ℕ) → Shape → Shape → Option (List PlainMove) → Option PlainTurned
over_outer n x u v a b None = switched n u v (cut x a b)
over_outer n x u v a b (Some ms) = option_and_then (λ r. followed r.moves (switched_below n x u v r.tree)) (raised_merged x a (record { tree = b; moves = ms }))

-- with the inner corner at the root: the same in the child that contains x, and its new root is
-- brought up
abbrev pub outer_below : ℕ → (x u v : List ℕ) → Option (List PlainMove) → Shape → Option PlainTurned
outer_below n x u v moved leaf = None
outer_below n x u v moved (cut top c leaf) = None
outer_below n x u v moved (cut top c (cut y a b)) = option_and_then (λ w. raised_merged top c w) (over_outer n x u v a b moved)

-- the same after moves in `kept` that brought the inner corner to its root
abbrev pub over_inner : ℕ → (x u v : List ℕ) → Shape → Shape → Option (List PlainMove) → Option (List PlainMove) → Option PlainTurned
over_inner n x u v a b None moved = over_outer n x u v a b moved
over_inner n x u v a b (Some ms) moved = option_and_then (λ r. followed r.moves (outer_below n x u v moved r.tree)) (raised_kept x (record { tree = a; moves = ms }) b)
