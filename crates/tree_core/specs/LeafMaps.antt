-- The maps of moves and of scripts: where each leaf of a tree goes, and for each of its blocks
-- the name of the image.
-- Stated by: move_laws, uncross, theorems.
-- Used by: tree_core, report_text, mcg6_lines, bench_outcomes, bench_reports.
use Rattle.std.specs.Prelude.{ℕ, zero, suc, ◌+◌, ◌-◌, List, [], ◌∷◌, ◌++◌, ◌==◌, cond, map, unwrap_or, slice_index, slice_index_or, if◌then◌else◌}
use Rattle.graph_core.specs.from_counting.Common.{mem, last_of, is_subset}
use Rattle.graph_core.specs.Common.{place, singles, names_of}
use Rattle.tree_core.specs.Shapes.{Shape, leaf, cut, leaf_count}
use Rattle.tree_core.specs.Derivations.{kept_at, merged_at}
use Rattle.tree_core.specs.Leaves.{leaves, leaves_at}
use Rattle.tree_core.specs.Moves.{PlainMove, rotate_at, switch_at, move_result, parent_path, last_step, union_list, meet_list, list_if, inner_rest, outer_rest}
use Rattle.tree_core.specs.declared.path.Side.{Side}
use Rattle.tree_core.specs.declared.path.Side.TheVariants.{Kept, Merged}

-- for one leaf the place of its partner, counted from 1, and for each of its blocks in order the
-- name of the image
pub record PlainLeafMap : Type 0 where
  pub to : ℕ
  pub images : List ℕ

-- name i of a list of names, counted from 1
abbrev pub name : List ℕ → ℕ → ℕ
name names i = slice_index names (i - 1)

-- leaf map i, counted from 1
abbrev pub map_at : List PlainLeafMap → ℕ → PlainLeafMap
map_at maps i = slice_index_or maps (i - 1) (record { to = 0; images = [] })

-- partition i of a list of leaves, counted from 1
abbrev pub leaf_at : List (List (List ℕ)) → ℕ → List (List ℕ)
leaf_at ps i = slice_index_or ps (i - 1) []

-- k + 1 to k + n
abbrev pub numbers : ℕ → ℕ → List ℕ
numbers k zero = []
numbers k (suc n) = numbers k n ++ (k + suc n) ∷ []

-- the old numbers of the leaves in the order of the new tree, where the part at the end of the
-- path changes; k leaves stand before
abbrev pub order_at : (ℕ → Shape → List ℕ) → List Side → ℕ → Shape → List ℕ
order_at f [] k t = f k t
order_at f (side ∷ path) k leaf = numbers k 1
order_at f (Kept ∷ path) k (cut x a b) = order_at f path k a ++ numbers (k + leaf_count a) (leaf_count b)
order_at f (Merged ∷ path) k (cut x a b) = numbers k (leaf_count a) ++ order_at f path (k + leaf_count a) b

-- Rotate keeps the order, but where the two shores have no common vertex the leaves of the first
-- two trees exchange their places
abbrev pub rotate_order : Side → ℕ → Shape → List ℕ
rotate_order Merged k (cut x a (cut y b c)) =
    if is_subset x y then numbers k (leaf_count a + leaf_count b + leaf_count c)
    else numbers (k + leaf_count a) (leaf_count b) ++ numbers k (leaf_count a) ++ numbers (k + leaf_count a + leaf_count b) (leaf_count c)
rotate_order side k t = numbers k (leaf_count t)

-- below `kept`, where the greatest vertex stays: a shore that contains u changes the places of
-- its two trees
abbrev pub kept_order_if_greatest_stays : List ℕ → ℕ → Shape → List ℕ
kept_order_if_greatest_stays u k leaf = numbers k 1
kept_order_if_greatest_stays u k (cut s a b) =
    if is_subset u s
    then kept_order_if_greatest_stays u (k + leaf_count a) b ++ kept_order_if_greatest_stays u k a
    else kept_order_if_greatest_stays u k a ++ kept_order_if_greatest_stays u (k + leaf_count a) b

-- Switch exchanges the two trees where the greatest vertex n comes in, with v, and else turns the
-- leaves of `kept`
abbrev pub switch_order : ℕ → (u v : List ℕ) → ℕ → Shape → List ℕ
switch_order n u v k leaf = numbers k 1
switch_order n u v k (cut x a b) =
    if mem v n
    then numbers (k + leaf_count a) (leaf_count b) ++ numbers k (leaf_count a)
    else kept_order_if_greatest_stays u k a ++ numbers (k + leaf_count a) (leaf_count b)

-- the same for a move on a whole tree
abbrev pub move_order : ℕ → PlainMove → Shape → List ℕ
move_order n (rotate_at []) t = numbers 0 (leaf_count t)
move_order n (rotate_at (side ∷ path)) t = order_at (rotate_order (last_step side path)) (parent_path side path) 0 t
move_order n (switch_at path u v) t = order_at (switch_order n u v) path 0 t

-- the image of a block t below `kept` of x: what of it is in x and not in u; u with the rest of
-- the outer side, if t contains u; and v, if t contains the complement of x
abbrev pub kept_image : ℕ → (x u v t : List ℕ) → List ℕ
kept_image n x u v t =
    union_list n (meet_list n t (inner_rest n x u))
    (union_list n (list_if (is_subset u t) (union_list n (outer_rest n x v) u)) (list_if (is_subset (union_list n (outer_rest n x v) v) t) v))

-- and below `merged`: what of it is neither in x nor in v; v with the rest of x, if t contains v;
-- and u, if t contains x
abbrev pub merged_image : ℕ → (x u v t : List ℕ) → List ℕ
merged_image n x u v t =
    union_list n (meet_list n t (outer_rest n x v))
    (union_list n (list_if (is_subset v t) (union_list n (inner_rest n x u) v)) (list_if (is_subset x t) u))

-- the names of the images of each leaf's blocks, at the node of a Switch with the partition p
abbrev pub switch_names : ℕ → (u v : List ℕ) → List (List ℕ) → Shape → List (List ℕ)
switch_names n u v p leaf = names_of p ∷ []
switch_names n u v p (cut x a b) =
    map (λ q. map (λ t. last_of (kept_image n x u v t)) q) (leaves_at n (kept_at n p x) a)
    ++ map (λ q. map (λ t. last_of (merged_image n x u v t)) q) (leaves_at n (merged_at n p x) b)

-- and of the whole tree: elsewhere each block is its own image
abbrev pub names_at : ℕ → (u v : List ℕ) → List Side → List (List ℕ) → Shape → List (List ℕ)
names_at n u v [] p t = switch_names n u v p t
names_at n u v (side ∷ path) p leaf = names_of p ∷ []
names_at n u v (Kept ∷ path) p (cut x a b) = names_at n u v path (kept_at n p x) a ++ map names_of (leaves_at n (merged_at n p x) b)
names_at n u v (Merged ∷ path) p (cut x a b) = map names_of (leaves_at n (kept_at n p x) a) ++ names_at n u v path (merged_at n p x) b

-- the names of the images of each leaf's blocks under a move
abbrev pub move_names : ℕ → PlainMove → Shape → List (List ℕ)
move_names n (rotate_at path) t = map names_of (leaves n t)
move_names n (switch_at path u v) t = names_at n u v path (singles n) t

-- the place of a number in a list, counted from 1
abbrev pub position : List ℕ → ℕ → ℕ
position [] i = 1
position (j ∷ js) i = cond (j == i) 1 (position js i + 1)

-- leaf maps from the order of the new tree and the names, the first of them for leaf k + 1
abbrev pub maps_from : List ℕ → ℕ → List (List ℕ) → List PlainLeafMap
maps_from order k [] = []
maps_from order k (names ∷ rest) = record { to = position order (k + 1); images = names } ∷ maps_from order (k + 1) rest

-- the map of a move on a tree
unfoldable pub move_maps : ℕ → Shape → PlainMove → List PlainLeafMap
move_maps n t m = maps_from (move_order n m t) 0 (move_names n m t)

-- the maps of no move: each leaf and each block to itself
abbrev pub own_maps : ℕ → Shape → List PlainLeafMap
own_maps n t = maps_from (numbers 0 (leaf_count t)) 0 (map names_of (leaves n t))

-- a leaf's map, and then the map of its partner, which stands among the leaves qs
abbrev pub then_map : List (List (List ℕ)) → List PlainLeafMap → PlainLeafMap → PlainLeafMap
then_map qs seconds first =
    let second = map_at seconds first.to in
    record { to = second.to; images = map (λ b. name second.images (place (leaf_at qs first.to) b)) first.images }

-- maps to the leaves of s, followed by the maps of the moves of a script on s
abbrev pub maps_after : ℕ → Shape → List PlainLeafMap → List PlainMove → List PlainLeafMap
maps_after n s maps [] = maps
maps_after n s maps (m ∷ ms) = maps_after n (unwrap_or (move_result n s m) s) (map (then_map (leaves n s) (move_maps n s m)) maps) ms

-- the map of a script: the composition of the maps of its moves
abbrev pub script_maps : ℕ → Shape → List PlainMove → List PlainLeafMap
script_maps n s ms = maps_after n s (own_maps n s) ms
