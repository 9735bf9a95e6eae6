-- The moves of a script through derivations may be written. A path along which a tree changes is
-- shorter than the tree has nodes; the sets of a Switch are not empty and lie within 1 to n,
-- since they are proper subsets of the shore and of its complement; and a derivation of a graph
-- within the limits has few cuts.
use Rattle.move_text.proofs.from_counting.Common.{◌≡◌, ℕ, suc, ◌*◌, ◌<◌, ◌≤◌, Bool, true, false, ◌&&◌, List, [], ◌∷◌, length, Option, Some, None, option_map, if◌then◌else◌, refl, sym, arith, mul-le, none-some, and_parts, true≢false, AllByRecursion}
use Rattle.graph_core.proofs.Common.{Graph, IsGraph, complement_of}
use Rattle.tree_core.proofs.Common.{IsDerivation, PlainMove, rotate_at, switch_at, TurnsThrough, is_proper, move_result, parent_path, result_at, switch_result_at, Shape, leaf, cut, Fits, cut_count, node_count, fits-derivation, node_count-cuts, proper_outside-within, proper_part-within, few-nodes}
use Rattle.tree_core.specs.declared.path.Side.{Side}
use Rattle.tree_core.specs.declared.path.Side.TheVariants.{Kept, Merged}
use Rattle.move_text.specs.Common.{HasSets, HasShortPath}

-- a path along which a tree changes
path-short : (f : Shape → Option Shape) (path : List Side) (t r : Shape) → result_at f path t ≡ Some r → length path < node_count t
path-short f [] leaf r e = omega arith
path-short f [] (cut x a b) r e = omega arith
path-short f (side ∷ path) leaf r e = absurd (none-some _ e)
path-short f (Kept ∷ path) (cut x a b) r e = go (result_at f path a) refl e (path-short f path a)
  where
    go : (o : Option Shape) → result_at f path a ≡ o → option_map (λ c. cut x c b) o ≡ Some r → ((c : Shape) → result_at f path a ≡ Some c → length path < node_count a) → suc (length path) < node_count (cut x a b)
    go o is e below = grind arith
path-short f (Merged ∷ path) (cut x a b) r e = go (result_at f path b) refl e (path-short f path b)
  where
    go : (o : Option Shape) → result_at f path b ≡ o → option_map (λ c. cut x a c) o ≡ Some r → ((c : Shape) → result_at f path b ≡ Some c → length path < node_count b) → suc (length path) < node_count (cut x a b)
    go o is e below = grind arith

-- a path without its last step
length-parent_path : (side : Side) (path : List Side) → length (parent_path side path) ≡ length path
length-parent_path side [] = refl
length-parent_path side (next ∷ path) = let below = length-parent_path next path in omega arith

-- the path of a move that has a result
move-path : (n : ℕ) (t r : Shape) (m : PlainMove) → node_count t ≤ 127 → move_result n t m ≡ Some r → HasShortPath m
move-path n t r m few e = grind (arith, none-some, path-short, length-parent_path)

-- a proper subset is not empty
proper-nonempty : (u x : List ℕ) → is_proper u x ≡ true → 0 < length u
proper-nonempty [] x proper = absurd (true≢false (sym proper))
proper-nonempty (v ∷ u) x proper = omega arith

-- the sets of a Switch at its node
switch-sets : (n : ℕ) (path : List Side) (u v : List ℕ) (t r : Shape) → Fits n t → switch_result_at n u v t ≡ Some r → HasSets n (switch_at path u v)
switch-sets n path u v leaf r fits e = absurd (none-some _ e)
switch-sets n path u v (cut x a b) r fits e = go (is_proper u x && is_proper v (complement_of n x)) _ refl e
  where
    go : (t : Bool) (made : Shape) → (is_proper u x && is_proper v (complement_of n x)) ≡ t → (if t then Some made else None) ≡ Some r → HasSets n (switch_at path u v)
    go false made is e = absurd (none-some _ e)
    go true made is e =
        let proper = and_parts (is_proper u x) (is_proper v (complement_of n x)) is in
        ((proper-nonempty u x proper.0, proper_part-within n u x proper.0 fits.0), (proper-nonempty v (complement_of n x) proper.1, proper_outside-within n v x proper.1))

-- and along its path
path-sets : (n : ℕ) (whole : List Side) (u v : List ℕ) (path : List Side) (t r : Shape) → Fits n t → result_at (switch_result_at n u v) path t ≡ Some r → HasSets n (switch_at whole u v)
path-sets n whole u v [] t r fits e = switch-sets n whole u v t r fits e
path-sets n whole u v (side ∷ path) leaf r fits e = absurd (none-some _ e)
path-sets n whole u v (Kept ∷ path) (cut x a b) r fits e = go (result_at (switch_result_at n u v) path a) refl e (path-sets n whole u v path a)
  where
    go : (o : Option Shape) → result_at (switch_result_at n u v) path a ≡ o → option_map (λ c. cut x c b) o ≡ Some r → ((c : Shape) → Fits n a → result_at (switch_result_at n u v) path a ≡ Some c → HasSets n (switch_at whole u v)) → HasSets n (switch_at whole u v)
    go o is e below = grind arith
path-sets n whole u v (Merged ∷ path) (cut x a b) r fits e = go (result_at (switch_result_at n u v) path b) refl e (path-sets n whole u v path b)
  where
    go : (o : Option Shape) → result_at (switch_result_at n u v) path b ≡ o → option_map (λ c. cut x a c) o ≡ Some r → ((c : Shape) → Fits n b → result_at (switch_result_at n u v) path b ≡ Some c → HasSets n (switch_at whole u v)) → HasSets n (switch_at whole u v)
    go o is e below = grind arith

-- the sets of a move that has a result
move-sets : (n : ℕ) (t r : Shape) (m : PlainMove) → Fits n t → move_result n t m ≡ Some r → HasSets n m
move-sets n t r (rotate_at path) fits e = tt
move-sets n t r (switch_at path u v) fits e = path-sets n path u v path t r fits e

-- the paths and the sets of a script
pub script-paths : (g : Graph) (s t : Shape) (moves : List PlainMove) → IsGraph g → g.order ≤ 128 → IsDerivation g s → TurnsThrough g s moves t → AllByRecursion HasShortPath moves
script-paths g s t [] is few derived turns = tt
script-paths g s t (m ∷ moves) is few derived turns =
    (move-path g.order s turns.0 m (few-nodes g s is few derived) turns.1, script-paths g turns.0 t moves is few turns.2 turns.3)

pub script-sets : (g : Graph) (s t : Shape) (moves : List PlainMove) → IsDerivation g s → TurnsThrough g s moves t → AllByRecursion (HasSets g.order) moves
script-sets g s t [] derived turns = tt
script-sets g s t (m ∷ moves) derived turns = (move-sets g.order s turns.0 m (fits-derivation g s derived) turns.1, script-sets g turns.0 t moves turns.2 turns.3)

-- there are few moves
pub few-moves : (g : Graph) (s : Shape) (k : ℕ) → IsGraph g → g.order ≤ 128 → IsDerivation g s → k ≤ 5 * (cut_count s * cut_count s) → k ≤ 20000
few-moves g s k is few derived bound = grind (arith, few-nodes g s is few derived, node_count-cuts s, mul-le (cut_count s) (cut_count s) 63 63)
