-- A move on a tree that fits makes a tree that fits: each new shore is put together from numbers
-- below n. If the greatest vertex is in v, the rest of the outer side does not hold it; else v
-- does not.
use Rattle.graph_core.proofs.from_counting.Common.{◌≡◌, ℕ, ◌-◌, Bool, true, false, not, List, [], ◌∷◌, All, get_or, Option, Some, option_map, if◌then◌else◌, inl, inr, refl, sym, subst, arith, and_parts, both_ways, not-true, or_cases, none-some, same_Some, rising_only, mem-item, Within, is_subset, mem, minus, union}
use Rattle.graph_core.proofs.Common.{complement_of}
use Rattle.tree_core.proofs.Common.{each-member, proper-within, proper_outside-within, PlainMove, inner_rest, is_proper, kept_if_greatest_stays, kept_if_greatest_comes, list_if, merged_if_greatest_stays, merged_if_greatest_comes, minus_list, move_result, outer_rest, result_at, rotate_result_at, switch_result_at, union_list, Shape, leaf, cut, Fits}
use Rattle.tree_core.specs.declared.path.Side.{Side}
use Rattle.tree_core.specs.declared.path.Side.TheVariants.{Kept, Merged}

-- all numbers lie below n
abbrev IsBelow : ℕ → List ℕ → Type 0
IsBelow n xs = All (Within (n - 1)) xs

below : (n : ℕ) (xs : List ℕ) → ((v : ℕ) → mem xs v ≡ true → Within (n - 1) v) → IsBelow n xs
below n xs each k d less = each (get_or xs k d) (mem-item xs k d less)

union-below : (n : ℕ) (x y : List ℕ) → IsBelow n x → IsBelow n y → IsBelow n (union_list n x y)
union-below n x y first second =
    below n (union_list n x y) (λ v m. elim (or_cases (mem x v) (mem y v) (rising_only n (union (mem x) (mem y)) v m).1) [
      | inl t ↦ each-member (Within (n - 1)) x first v t
      | inr t ↦ each-member (Within (n - 1)) y second v t
    ])

minus-below : (n : ℕ) (x y : List ℕ) → IsBelow n x → IsBelow n (minus_list n x y)
minus-below n x y first =
    below n (minus_list n x y) (λ v m. each-member (Within (n - 1)) x first v (and_parts (mem x v) (not (mem y v)) (rising_only n (minus (mem x) (mem y)) v m).1).0)

list_if-below : (n : ℕ) (t : Bool) (x : List ℕ) → IsBelow n x → IsBelow n (list_if t x)
list_if-below n t x all = grind arith

-- a vertex other than the greatest
without-greatest : (n v : ℕ) → Within n v → (v ≡ n → ⊥) → Within (n - 1) v
without-greatest n v within other = let low = within.0 in let high = within.1 in (omega arith, omega (arith, other))

outer-below : (n : ℕ) (x v : List ℕ) → mem v n ≡ true → IsBelow n (outer_rest n x v)
outer-below n x v greatest =
    below n (outer_rest n x v) (λ w m.
    let is = rising_only n (minus (mem (complement_of n x)) (mem v)) w m in
    let apart = (and_parts (mem (complement_of n x) w) (not (mem v w)) is.1).1 in
    without-greatest n w is.0 (λ same. both_ways (mem v w) (not-true _ apart) (subst (λ j. mem v j ≡ true) (sym same) greatest)))

part-below : (n : ℕ) (u x : List ℕ) → is_proper u x ≡ true → IsBelow n x → IsBelow n u
part-below n u x is all = proper-within (n - 1) u x is (each-member (Within (n - 1)) x all)

other-below : (n : ℕ) (v x : List ℕ) → is_proper v (complement_of n x) ≡ true → mem v n ≡ false → IsBelow n v
other-below n v x is out =
    below n v (λ w m. without-greatest n w (each-member (Within n) v (proper_outside-within n v x is) w m) (λ same. both_ways (mem v w) (subst (λ j. mem v j ≡ false) (sym same) out) m))

-- the trees below a Switch
kept_greatest_comes-fits : (n : ℕ) (x u v : List ℕ) (t : Shape) → mem v n ≡ true → Fits n t → Fits n (kept_if_greatest_comes n x u v t)
kept_greatest_comes-fits n x u v leaf greatest fits = tt
kept_greatest_comes-fits n x u v (cut s a b) greatest fits = (go (is_subset u s), kept_greatest_comes-fits n x u v a greatest fits.1, kept_greatest_comes-fits n x u v b greatest fits.2)
  where
    go : (t : Bool) → IsBelow n (if t then union_list n s (outer_rest n x v) else s)
    go true = union-below n s (outer_rest n x v) fits.0 (outer-below n x v greatest)
    go false = fits.0

merged_greatest_comes-fits : (n : ℕ) (x u : List ℕ) (t : Shape) → IsBelow n u → Fits n t → Fits n (merged_if_greatest_comes n x u t)
merged_greatest_comes-fits n x u leaf part fits = tt
merged_greatest_comes-fits n x u (cut s a b) part fits = (go (is_subset x s), merged_greatest_comes-fits n x u a part fits.1, merged_greatest_comes-fits n x u b part fits.2)
  where
    go : (t : Bool) → IsBelow n (if t then union_list n (minus_list n s x) u else s)
    go true = union-below n (minus_list n s x) u (minus-below n s x fits.0) part
    go false = fits.0

kept_greatest_stays-fits : (n : ℕ) (x u v : List ℕ) (t : Shape) → IsBelow n x → IsBelow n v → Fits n t → Fits n (kept_if_greatest_stays n x u v t)
kept_greatest_stays-fits n x u v leaf whole other fits = tt
kept_greatest_stays-fits n x u v (cut s a b) whole other fits = go (is_subset u s) (kept_greatest_stays-fits n x u v a whole other fits.1) (kept_greatest_stays-fits n x u v b whole other fits.2)
  where
    go : (t : Bool) → Fits n (kept_if_greatest_stays n x u v a) → Fits n (kept_if_greatest_stays n x u v b) → Fits n (if t then cut (union_list n (minus_list n x s) v) (kept_if_greatest_stays n x u v b) (kept_if_greatest_stays n x u v a) else cut s (kept_if_greatest_stays n x u v a) (kept_if_greatest_stays n x u v b))
    go t first second = grind (arith, union-below n (minus_list n x s) v (minus-below n x s whole) other, minus-below n x s whole)

merged_greatest_stays-fits : (n : ℕ) (x u v : List ℕ) (t : Shape) → IsBelow n x → IsBelow n u → IsBelow n v → Fits n t → Fits n (merged_if_greatest_stays n x u v t)
merged_greatest_stays-fits n x u v leaf whole part other fits = tt
merged_greatest_stays-fits n x u v (cut s a b) whole part other fits = (
  union-below n (minus_list n (minus_list n s x) v) (union_list n (list_if (is_subset x s) u) (list_if (is_subset v s) (union_list n (inner_rest n x u) v))) (minus-below n (minus_list n s x) v (minus-below n s x fits.0))
      (union-below n (list_if (is_subset x s) u) (list_if (is_subset v s) (union_list n (inner_rest n x u) v)) (list_if-below n (is_subset x s) u part) (list_if-below n (is_subset v s) (union_list n (inner_rest n x u) v) (union-below n (inner_rest n x u) v (minus-below n x u whole) other))),
  merged_greatest_stays-fits n x u v a whole part other fits.1,
  merged_greatest_stays-fits n x u v b whole part other fits.2,
)

-- Switch at its node
abbrev switched : ℕ → (u v x : List ℕ) → (a b : Shape) → Bool → Shape
switched n u v x a b t =
    if t
    then cut (union_list n (outer_rest n x v) u) (merged_if_greatest_comes n x u b) (kept_if_greatest_comes n x u v a)
    else cut (union_list n (inner_rest n x u) v) (kept_if_greatest_stays n x u v a) (merged_if_greatest_stays n x u v b)

switch-fits : (n : ℕ) (u v : List ℕ) (t r : Shape) → Fits n t → switch_result_at n u v t ≡ Some r → Fits n r
switch-fits n u v leaf r fits e = absurd (none-some _ e)
switch-fits n u v (cut x a b) r fits e = grind (arith, none-some, and_parts, same_Some, which)
  where
    which : (t : Bool) → mem v n ≡ t → is_proper u x ≡ true → is_proper v (complement_of n x) ≡ true → Fits n (switched n u v x a b t)
    which true greatest inner outer =
        let part = part-below n u x inner fits.0 in
        (union-below n (outer_rest n x v) u (outer-below n x v greatest) part, merged_greatest_comes-fits n x u b part fits.2, kept_greatest_comes-fits n x u v a greatest fits.1)
    which false greatest inner outer =
        let part = part-below n u x inner fits.0 in
        let other = other-below n v x outer greatest in
        (union-below n (inner_rest n x u) v (minus-below n x u fits.0) other, kept_greatest_stays-fits n x u v a fits.0 other fits.1, merged_greatest_stays-fits n x u v b fits.0 part other fits.2)

-- Rotate at the parent of its node
rotate-fits : (n : ℕ) (side : Side) (t r : Shape) → Fits n t → rotate_result_at side t ≡ Some r → Fits n r
rotate-fits n Kept leaf r fits e = absurd (none-some _ e)
rotate-fits n Merged leaf r fits e = absurd (none-some _ e)
rotate-fits n Kept (cut x leaf c) r fits e = absurd (none-some _ e)
rotate-fits n Kept (cut x (cut y a b) c) r fits e = grind arith
rotate-fits n Merged (cut x a leaf) r fits e = absurd (none-some _ e)
rotate-fits n Merged (cut x a (cut y b c)) r fits e = grind arith

-- along a path
path-fits : (n : ℕ) (f : Shape → Option Shape) → ((t r : Shape) → Fits n t → f t ≡ Some r → Fits n r) → (path : List Side) (t r : Shape) → Fits n t → result_at f path t ≡ Some r → Fits n r
path-fits n f keeps [] t r fits e = keeps t r fits e
path-fits n f keeps (side ∷ path) leaf r fits e = absurd (none-some _ e)
path-fits n f keeps (Kept ∷ path) (cut x a b) r fits e = go (result_at f path a) refl e (path-fits n f keeps path a)
  where
    go : (o : Option Shape) → result_at f path a ≡ o → option_map (λ c. cut x c b) o ≡ Some r → ((c : Shape) → Fits n a → result_at f path a ≡ Some c → Fits n c) → Fits n r
    go o is e below = grind arith
path-fits n f keeps (Merged ∷ path) (cut x a b) r fits e = go (result_at f path b) refl e (path-fits n f keeps path b)
  where
    go : (o : Option Shape) → result_at f path b ≡ o → option_map (λ c. cut x a c) o ≡ Some r → ((c : Shape) → Fits n b → result_at f path b ≡ Some c → Fits n c) → Fits n r
    go o is e below = grind arith

-- a move
pub move-fits : (n : ℕ) (t r : Shape) (m : PlainMove) → Fits n t → move_result n t m ≡ Some r → Fits n r
move-fits n t r m fits e = grind (arith, none-some, path-fits n, rotate-fits n, switch-fits n)
