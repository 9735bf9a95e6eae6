-- A move keeps the form of a tree: if the shores are rising lists below the greatest vertex, so
-- are those of its result. Each new shore is written as a rising list, and each other one stays.
use Rattle.tree_check.proofs.from_counting.Common.{◌≡◌, ℕ, Bool, true, false, ◌&&◌, List, [], ◌∷◌, Option, Some, None, option_map, if◌then◌else◌, refl, subst, IsStrictlyIncreasing, none-some, same_Some, rising_list-rises, is_apart, is_subset, mem, union}
use Rattle.graph_core.proofs.Common.{complement_of}
use Rattle.tree_check.proofs.MovesFit.{move-fits}
use Rattle.tree_check.specs.Common.{HasShores}
use Rattle.tree_core.proofs.Common.{PlainMove, rotate_at, switch_at, inner_rest, is_proper, kept_if_greatest_comes, kept_if_greatest_stays, last_step, list_if, merged_if_greatest_comes, merged_if_greatest_stays, minus_list, move_result, outer_rest, parent_path, result_at, rotate_result_at, switch_result_at, union_list, Shape, leaf, cut, Fits}
use Rattle.tree_core.specs.declared.path.Side.{Side}
use Rattle.tree_core.specs.declared.path.Side.TheVariants.{Kept, Merged}
use Rattle.move_text.specs.from_tree_text.Common.{ShoresRise}

rises : (n : ℕ) (x y : List ℕ) → IsStrictlyIncreasing (union_list n x y)
rises n x y = (rising_list-rises n (union (mem x) (mem y))).rising

-- the trees below a Switch
kept_comes-rises : (n : ℕ) (x u v : List ℕ) (t : Shape) → ShoresRise t → ShoresRise (kept_if_greatest_comes n x u v t)
kept_comes-rises n x u v leaf is = tt
kept_comes-rises n x u v (cut s a b) is = (go (is_subset u s), kept_comes-rises n x u v a is.1, kept_comes-rises n x u v b is.2)
  where
    go : (t : Bool) → IsStrictlyIncreasing (if t then union_list n s (outer_rest n x v) else s)
    go true = rises n s (outer_rest n x v)
    go false = is.0

merged_comes-rises : (n : ℕ) (x u : List ℕ) (t : Shape) → ShoresRise t → ShoresRise (merged_if_greatest_comes n x u t)
merged_comes-rises n x u leaf is = tt
merged_comes-rises n x u (cut s a b) is = (go (is_subset x s), merged_comes-rises n x u a is.1, merged_comes-rises n x u b is.2)
  where
    go : (t : Bool) → IsStrictlyIncreasing (if t then union_list n (minus_list n s x) u else s)
    go true = rises n (minus_list n s x) u
    go false = is.0

kept_stays-rises : (n : ℕ) (x u v : List ℕ) (t : Shape) → ShoresRise t → ShoresRise (kept_if_greatest_stays n x u v t)
kept_stays-rises n x u v leaf is = tt
kept_stays-rises n x u v (cut s a b) is = go (is_subset u s) (kept_stays-rises n x u v a is.1) (kept_stays-rises n x u v b is.2)
  where
    go : (t : Bool) → ShoresRise (kept_if_greatest_stays n x u v a) → ShoresRise (kept_if_greatest_stays n x u v b) → ShoresRise (if t then cut (union_list n (minus_list n x s) v) (kept_if_greatest_stays n x u v b) (kept_if_greatest_stays n x u v a) else cut s (kept_if_greatest_stays n x u v a) (kept_if_greatest_stays n x u v b))
    go true first second = (rises n (minus_list n x s) v, second, first)
    go false first second = (is.0, first, second)

merged_stays-rises : (n : ℕ) (x u v : List ℕ) (t : Shape) → ShoresRise t → ShoresRise (merged_if_greatest_stays n x u v t)
merged_stays-rises n x u v leaf is = tt
merged_stays-rises n x u v (cut s a b) is = (
  rises n (minus_list n (minus_list n s x) v) (union_list n (list_if (is_subset x s) u) (list_if (is_subset v s) (union_list n (inner_rest n x u) v))),
  merged_stays-rises n x u v a is.1,
  merged_stays-rises n x u v b is.2,
)

-- Switch at its node
abbrev switched : ℕ → (u v x : List ℕ) → (a b : Shape) → Bool → Shape
switched n u v x a b t =
    if t
    then cut (union_list n (outer_rest n x v) u) (merged_if_greatest_comes n x u b) (kept_if_greatest_comes n x u v a)
    else cut (union_list n (inner_rest n x u) v) (kept_if_greatest_stays n x u v a) (merged_if_greatest_stays n x u v b)

switch-rises : (n : ℕ) (u v : List ℕ) (t r : Shape) → ShoresRise t → switch_result_at n u v t ≡ Some r → ShoresRise r
switch-rises n u v leaf r is e = absurd (none-some _ e)
switch-rises n u v (cut x a b) r is e = go (is_proper u x && is_proper v (complement_of n x)) e
  where
    which : (t : Bool) → ShoresRise (switched n u v x a b t)
    which true = (rises n (outer_rest n x v) u, merged_comes-rises n x u b is.2, kept_comes-rises n x u v a is.1)
    which false = (rises n (inner_rest n x u) v, kept_stays-rises n x u v a is.1, merged_stays-rises n x u v b is.2)

    go : (t : Bool) → (if t then Some (switched n u v x a b (mem v n)) else None) ≡ Some r → ShoresRise r
    go false e = absurd (none-some _ e)
    go true e = subst ShoresRise (same_Some _ _ e) (which (mem v n))

-- Rotate at the parent of its node
rotate-rises : (side : Side) (t r : Shape) → ShoresRise t → rotate_result_at side t ≡ Some r → ShoresRise r
rotate-rises Kept leaf r is e = absurd (none-some _ e)
rotate-rises Merged leaf r is e = absurd (none-some _ e)
rotate-rises Kept (cut x leaf c) r is e = absurd (none-some _ e)
rotate-rises Kept (cut x (cut y a b) c) r is e = let lower = is.1 in subst ShoresRise (same_Some _ _ e) (lower.0, lower.1, (is.0, lower.2, is.2))
rotate-rises Merged (cut x a leaf) r is e = absurd (none-some _ e)
rotate-rises Merged (cut x a (cut y b c)) r is e = go (is_subset x y) (is_apart x y) e
  where
    go : (inside apart : Bool) → (if inside then Some (cut y (cut x a b) c) else (if apart then Some (cut y b (cut x a c)) else None)) ≡ Some r → ShoresRise r
    go true apart e = let lower = is.2 in subst ShoresRise (same_Some _ _ e) (lower.0, (is.0, is.1, lower.1), lower.2)
    go false true e = let lower = is.2 in subst ShoresRise (same_Some _ _ e) (lower.0, lower.1, (is.0, is.1, lower.2))
    go false false e = absurd (none-some _ e)

-- along a path
path-rises : (f : Shape → Option Shape) → ((t r : Shape) → ShoresRise t → f t ≡ Some r → ShoresRise r) → (path : List Side) (t r : Shape) → ShoresRise t → result_at f path t ≡ Some r → ShoresRise r
path-rises f keeps [] t r is e = keeps t r is e
path-rises f keeps (side ∷ path) leaf r is e = absurd (none-some _ e)
path-rises f keeps (Kept ∷ path) (cut x a b) r is e = go (result_at f path a) refl e (path-rises f keeps path a)
  where
    go : (o : Option Shape) → result_at f path a ≡ o → option_map (λ c. cut x c b) o ≡ Some r → ((c : Shape) → ShoresRise a → result_at f path a ≡ Some c → ShoresRise c) → ShoresRise r
    go None made e below = absurd (none-some _ e)
    go (Some c) made e below = subst ShoresRise (same_Some _ _ e) (is.0, below c is.1 made, is.2)
path-rises f keeps (Merged ∷ path) (cut x a b) r is e = go (result_at f path b) refl e (path-rises f keeps path b)
  where
    go : (o : Option Shape) → result_at f path b ≡ o → option_map (λ c. cut x a c) o ≡ Some r → ((c : Shape) → ShoresRise b → result_at f path b ≡ Some c → ShoresRise c) → ShoresRise r
    go None made e below = absurd (none-some _ e)
    go (Some c) made e below = subst ShoresRise (same_Some _ _ e) (is.0, is.1, below c is.2 made)

move-rises : (n : ℕ) (t r : Shape) (m : PlainMove) → ShoresRise t → move_result n t m ≡ Some r → ShoresRise r
move-rises n t r (rotate_at []) is e = absurd (none-some _ e)
move-rises n t r (rotate_at (side ∷ path)) is e = path-rises (rotate_result_at (last_step side path)) (rotate-rises (last_step side path)) (parent_path side path) t r is e
move-rises n t r (switch_at path u v) is e = path-rises (switch_result_at n u v) (switch-rises n u v) path t r is e

-- both together
fits-shores : (n : ℕ) (t : Shape) → HasShores n t → Fits n t
fits-shores n leaf shores = tt
fits-shores n (cut x a b) shores = (shores.0.within, fits-shores n a shores.1, fits-shores n b shores.2)

rising-shores : (n : ℕ) (t : Shape) → HasShores n t → ShoresRise t
rising-shores n leaf shores = tt
rising-shores n (cut x a b) shores = (shores.0.rising, rising-shores n a shores.1, rising-shores n b shores.2)

pub shores-both : (n : ℕ) (t : Shape) → Fits n t → ShoresRise t → HasShores n t
shores-both n leaf fits rise = tt
shores-both n (cut x a b) fits rise = (record { rising = rise.0; within = fits.0 }, shores-both n a fits.1 rise.1, shores-both n b fits.2 rise.2)

pub moved-shores : (n : ℕ) (t r : Shape) (m : PlainMove) → HasShores n t → move_result n t m ≡ Some r → HasShores n r
moved-shores n t r m shores e = shores-both n r (move-fits n t r m (fits-shores n t shores) e) (move-rises n t r m (rising-shores n t shores) e)
