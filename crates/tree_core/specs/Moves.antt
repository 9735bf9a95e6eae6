-- The two moves on trees of cuts, Rotate and Switch, as partial functions on plain trees, and
-- scripts of moves. Uncrossing of tight cuts as in Lovász (1987) and Lucchesi and Murty, "Perfect
-- Matchings"; the moves are this workbench's own. docs/FORMATS.md has both rules in words, and an
-- example by hand.
--
-- Rotate brings the lower of two cuts above. The cuts keep their shores, and the three trees
-- below them are hung on anew; the left branch is `kept`:
--
--   the lower cut in `kept`        in `merged`, x inside y        in `merged`, x and y apart
--
--       x            y               x              y               x              y
--      / \          / \             / \            / \             / \            / \
--     y   c   to   a   x           a   y    to    x   c           a   y    to    b   x
--    / \              / \             / \        / \                 / \            / \
--   a   b            b   c           b   c      a   b               b   c          a   c
--
-- Switch exchanges a part u of the shore x and a part v of the other side. The rests p
-- (`inner_rest`) and q (`outer_rest`) stay:
--
--        inside x        outside x              inside         outside
--      +-----+-----+   +-----+-----+          +-----+-----+   +-----+-----+
--      |  p  |  u  |   |  v  |  q  |    to    |  p  |  v  |   |  u  |  q  |
--      +-----+-----+   +-----+-----+          +-----+-----+   +-----+-----+
--
-- The greatest vertex n is outside x, in q or in v. If it stays outside, in q, then p with v is
-- the new shore, and `kept` stays `kept`. If it comes in, with v, then the other side is written
-- as the shore, u with q, and the two trees change places. Below, in `kept` the block u becomes u
-- with q, and the block of the other side becomes v; in `merged` the block x becomes u, and v
-- becomes p with v. A shore s there becomes what its blocks become or, if this holds n, the
-- complement of that, and then its two trees change places:
--
--   n       s in the old `kept`                                        s in the old `merged`
--   stays   where u is in s: x without s, with v, the trees changed    what of s is in q, with u
--   if x is in s, with p and v if v is in s comes   where u is in s: s with q
--   where x is in s: u in place of x
-- Stated by: tree_core, move_laws, tree_check, uncross, move_text, bench_tasks, theorems.
-- Used by: report_text, bench_outcomes, bench_reports, bench_top.
use Rattle.std.specs.Prelude.{◌≡◌, ℕ, Bool, true, List, [], ◌∷◌, ◌&&◌, not, cond, Option, Some, None, option_map, if◌then◌else◌}
use Rattle.graph_core.specs.from_counting.Common.{Within, Set, union, meet, minus, mem, rising_list, is_subset, is_apart, IsRisingIn}
use Rattle.graph_core.specs.Common.{Graph, place, complement_of, IsUnion}
use Rattle.tree_core.specs.Shapes.{Shape, leaf, cut}
use Rattle.tree_core.specs.Derivations.{IsDerivation, kept_at, merged_at}
use Rattle.tree_core.specs.declared.path.Side.{Side}
use Rattle.tree_core.specs.declared.path.Side.TheVariants.{Kept, Merged}

-- a move, with the path from the root to its node: Rotate brings the cut at the node over its
-- parent; Switch exchanges the sets u and v between the shore of the node and its complement
pub data PlainMove : Type 0 where
  rotate_at : (path : List Side) → PlainMove
  switch_at : (path : List Side) (u v : List ℕ) → PlainMove

-- what a partial function makes of a tree where it changes the node at the end of the path
abbrev pub result_at : (Shape → Option Shape) → List Side → Shape → Option Shape
result_at f [] t = f t
result_at f (side ∷ path) leaf = None
result_at f (Kept ∷ path) (cut x a b) = option_map (λ c. cut x c b) (result_at f path a)
result_at f (Merged ∷ path) (cut x a b) = option_map (λ c. cut x a c) (result_at f path b)

-- the cut of x with this child on the side, and the other tree on the other side
abbrev pub with_child : Side → List ℕ → (other child : Shape) → Shape
with_child Kept x other child = cut x child other
with_child Merged x other child = cut x other child

-- Rotate where the lower node is `kept` of x
abbrev pub rotate_result_kept : List ℕ → Shape → Shape → Option Shape
rotate_result_kept x leaf c = None
rotate_result_kept x (cut y a b) c = Some (cut y a (cut x b c))

-- Rotate where it is `merged` of x: x is a subset of y, or the two have no common vertex
abbrev pub rotate_result_merged : List ℕ → Shape → Shape → Option Shape
rotate_result_merged x a leaf = None
rotate_result_merged x a (cut y b c) =
    if is_subset x y then Some (cut y (cut x a b) c)
    else (if is_apart x y then Some (cut y b (cut x a c)) else None)

-- Rotate at the parent of the lower node
abbrev pub rotate_result_at : Side → Shape → Option Shape
rotate_result_at side leaf = None
rotate_result_at Kept (cut x a b) = rotate_result_kept x a b
rotate_result_at Merged (cut x a b) = rotate_result_merged x a b

-- a path of at least one step, without its last step
abbrev pub parent_path : Side → List Side → List Side
parent_path side [] = []
parent_path side (next ∷ path) = side ∷ parent_path next path

-- and its last step
abbrev pub last_step : Side → List Side → Side
last_step side [] = side
last_step side (next ∷ path) = last_step next path

-- Rotate with a path to the lower node
abbrev pub rotate_result : List Side → Shape → Option Shape
rotate_result [] t = None
rotate_result (side ∷ path) t = result_at (rotate_result_at (last_step side path)) (parent_path side path) t

-- a move one step further down
abbrev pub below : Side → PlainMove → PlainMove
below side (rotate_at path) = rotate_at (side ∷ path)
below side (switch_at path u v) = switch_at (side ∷ path) u v

-- the union of two sets as a rising list
abbrev pub union_list : ℕ → List ℕ → List ℕ → List ℕ
union_list n x y = rising_list n (union (mem x) (mem y))

-- what of x is not in y
abbrev pub minus_list : ℕ → List ℕ → List ℕ → List ℕ
minus_list n x y = rising_list n (minus (mem x) (mem y))

-- what both hold
abbrev pub meet_list : ℕ → List ℕ → List ℕ → List ℕ
meet_list n x y = rising_list n (meet (mem x) (mem y))

-- the shore x without u
abbrev pub inner_rest : ℕ → (x u : List ℕ) → List ℕ
inner_rest n x u = minus_list n x u

-- the complement of x without v
abbrev pub outer_rest : ℕ → (x v : List ℕ) → List ℕ
outer_rest n x v = minus_list n (complement_of n x) v

-- a set where a test holds, and the empty set else
abbrev pub list_if : Bool → List ℕ → List ℕ
list_if t x = cond t x []

-- below `kept`, where the greatest vertex comes: a shore that contains u gains the rest of the
-- outer side
abbrev pub kept_if_greatest_comes : ℕ → (x u v : List ℕ) → Shape → Shape
kept_if_greatest_comes n x u v leaf = leaf
kept_if_greatest_comes n x u v (cut s a b) = cut (if is_subset u s then union_list n s (outer_rest n x v) else s) (kept_if_greatest_comes n x u v a) (kept_if_greatest_comes n x u v b)

-- below `merged`, where the greatest vertex comes: a shore that contains x has u in its place
abbrev pub merged_if_greatest_comes : ℕ → (x u : List ℕ) → Shape → Shape
merged_if_greatest_comes n x u leaf = leaf
merged_if_greatest_comes n x u (cut s a b) = cut (if is_subset x s then union_list n (minus_list n s x) u else s) (merged_if_greatest_comes n x u a) (merged_if_greatest_comes n x u b)

-- below `kept`, where the greatest vertex stays: a shore s that contains u becomes x without s,
-- with v, and its two trees change places
abbrev pub kept_if_greatest_stays : ℕ → (x u v : List ℕ) → Shape → Shape
kept_if_greatest_stays n x u v leaf = leaf
kept_if_greatest_stays n x u v (cut s a b) =
    if is_subset u s
    then cut (union_list n (minus_list n x s) v) (kept_if_greatest_stays n x u v b) (kept_if_greatest_stays n x u v a)
    else cut s (kept_if_greatest_stays n x u v a) (kept_if_greatest_stays n x u v b)

-- below `merged`, where the greatest vertex stays: what of s is outside x and v, with u if s
-- contains x, and with v and the rest of x if s contains v
abbrev pub merged_shore_if_greatest_stays : ℕ → (x u v s : List ℕ) → List ℕ
merged_shore_if_greatest_stays n x u v s = union_list n (minus_list n (minus_list n s x) v) (union_list n (list_if (is_subset x s) u) (list_if (is_subset v s) (union_list n (inner_rest n x u) v)))

-- each shore below `merged` so
abbrev pub merged_if_greatest_stays : ℕ → (x u v : List ℕ) → Shape → Shape
merged_if_greatest_stays n x u v leaf = leaf
merged_if_greatest_stays n x u v (cut s a b) = cut (merged_shore_if_greatest_stays n x u v s) (merged_if_greatest_stays n x u v a) (merged_if_greatest_stays n x u v b)

-- a nonempty proper subset
abbrev pub is_proper : List ℕ → List ℕ → Bool
is_proper u x = not (is_subset u []) && is_subset u x && not (is_subset x u)

-- Switch at its node
abbrev pub switch_result_at : ℕ → (u v : List ℕ) → Shape → Option Shape
switch_result_at n u v leaf = None
switch_result_at n u v (cut x a b) =
    if is_proper u x && is_proper v (complement_of n x)
    then Some (if mem v n
    then cut (union_list n (outer_rest n x v) u) (merged_if_greatest_comes n x u b) (kept_if_greatest_comes n x u v a)
    else cut (union_list n (inner_rest n x u) v) (kept_if_greatest_stays n x u v a) (merged_if_greatest_stays n x u v b))
    else None

-- Switch with a path to its node
abbrev pub switch_result : ℕ → List Side → (u v : List ℕ) → Shape → Option Shape
switch_result n path u v t = result_at (switch_result_at n u v) path t

-- what a move makes of a tree over 1 to n
abbrev pub move_result : ℕ → Shape → PlainMove → Option Shape
move_result n t (rotate_at path) = rotate_result path t
move_result n t (switch_at path u v) = switch_result n path u v t

-- the script turns s into t, and each tree that it makes is a derivation of g
abbrev pub TurnsThrough : Graph → Shape → List PlainMove → Shape → Type 0
TurnsThrough g s [] t = s ≡ t
TurnsThrough g s (m ∷ ms) t = (r : Shape) × (move_result g.order s m ≡ Some r) × IsDerivation g r × TurnsThrough g r ms t

-- u is one block of p, the one that holds the vertex s
pub record IsBlockOf (n : ℕ) (p : List (List ℕ)) (u : Set) (s : ℕ) : Type 0 where
  pub closed : IsUnion n p u
  pub within : Within n s
  pub holds : u s ≡ true
  pub one : (v : ℕ) → Within n v → u v ≡ true → place p v ≡ place p s

-- u and v are blocks, as rising lists, at the node where the path leads
abbrev pub BlocksAt : ℕ → List (List ℕ) → List Side → (u v : List ℕ) → Shape → Type 0
BlocksAt n p [] u v t = (IsRisingIn n u × IsRisingIn n v) × ((s : ℕ) × IsBlockOf n p (mem u) s) × ((s : ℕ) × IsBlockOf n p (mem v) s)
BlocksAt n p (side ∷ path) u v leaf = Unit {0}
BlocksAt n p (Kept ∷ path) u v (cut x a b) = BlocksAt n (kept_at n p x) path u v a
BlocksAt n p (Merged ∷ path) u v (cut x a b) = BlocksAt n (merged_at n p x) path u v b

-- a proper move on a tree at p: a Rotate, or a Switch whose two sets are blocks at its node
abbrev pub IsProper : ℕ → List (List ℕ) → Shape → PlainMove → Type 0
IsProper n p t (rotate_at path) = Unit {0}
IsProper n p t (switch_at path u v) = BlocksAt n p path u v t
