-- The pairs of vertices that edges join, in lexicographic order: the rows of later neighbours
-- give them, none comes twice, and there are no more than edges. A pair goes to its least edge,
-- and no other pair goes there.
use Rattle.graph_core.proofs.from_counting.Common.{◌≡◌, ℕ, ◌+◌, ◌-◌, ◌*◌, ◌≤◌, ◌<◌, ◌==◌, Bool, true, false, cond, ◌&&◌, List, [], ◌∷◌, ◌++◌, length, refl, sym, ap, ap₂, ◌∙◌, arith, ◌⊎◌, inl, inr, filter, map, flat_map, nat_lt, get_or, eq-eqb, suc, zero, filter-append, list_any, both_ways, cases_lt, cases_order, and_parts, or_left, or_right, false_from_ne_true, nat_tests, map-append, Rises, mem_low, rises-from_set, rising_only, HasPair, at_pair, pair_filter, rows_only, map_pair, mem-outside, mem-rising_list, rising_list-mem, rising_list-rises, same_rising_list, set-wider, least_of, least_of_is, some_true, total_le, Within, bit, total, IsRisingIn, item, mem, pair_with, rising_list, rising_pairs, Set, everything, some}
use Rattle.graph_core.proofs.Common.{image, total_image, some-graph_of, has_ends-cases, Graph, IsGraph, first_end, has_ends, second_end, size, IsWithinLimits, are_ends, graph_of}
use Rattle.graph_core.specs.declared.ends.Ends.{Ends}
use Rattle.contraction.proofs.PairLists.{Once, each-once}
use Rattle.contraction.specs.Pairs.{EachOnce, joined_pairs}

filter-rows : {X Y : Type 0} (t : Y → Bool) (f : X → List Y) (xs : List X) → filter t (flat_map f xs) ≡ flat_map (λ x. filter t (f x)) xs
filter-rows t f [] = refl
filter-rows t f (x ∷ xs) = filter-append t (f x) (flat_map f xs) ∙ ap (λ zs. filter t (f x) ++ zs) (filter-rows t f xs)

rows-congr : {Y : Type 0} (f h : ℕ → List Y) (xs : List ℕ) → ((x : ℕ) → mem xs x ≡ true → f x ≡ h x) → flat_map f xs ≡ flat_map h xs
rows-congr f h [] e = refl
rows-congr f h (x ∷ xs) e = ap₂ ◌++◌ (e x (or_left (x == x) (mem xs x) (eq-eqb x x refl))) (rows-congr f h xs (λ y m. e y (or_right (x == y) (mem xs y) m)))

-- a row's pairs that pass are the pairs with those that pass
row-filter : (n a : ℕ) (t : ℕ → ℕ → Bool) (s : Set) → ((j : ℕ) → s j ≡ (nat_lt a j && t a j)) → map (pair_with a) (rising_list n s) ≡ filter (λ k. t k.0 k.1) (map (pair_with a) (rising_list n (nat_lt a)))
row-filter zero a t s h = refl
row-filter (suc n) a t s h =
    map-append (pair_with a) (rising_list n s) (cond (s (suc n)) (suc n ∷ []) [])
    ∙ ap₂ ◌++◌ (row-filter n a t s h) (ap (λ b. map (pair_with a) (cond b (suc n ∷ []) [])) (h (suc n)) ∙ (grind arith))
    ∙ sym (filter-append (λ k. t k.0 k.1) (map (pair_with a) (rising_list n (nat_lt a))) (map (pair_with a) (cond (nat_lt a (suc n)) (suc n ∷ []) [])))
    ∙ ap (filter (λ k. t k.0 k.1)) (sym (map-append (pair_with a) (rising_list n (nat_lt a)) (cond (nat_lt a (suc n)) (suc n ∷ []) [])))

-- a set of numbers 1 to n is listed by 1 to n
rising-narrower : (n m : ℕ) (s : Set) → n ≤ m → ((j : ℕ) → (Within n j → ⊥) → s j ≡ false) → rising_list m s ≡ rising_list n s
rising-narrower n m s l h = same_rising_list m (rising_list m s) (rising_list n s) (rising_list-rises m s) (set-wider n m (rising_list n s) l (rising_list-rises n s)) each
  where
    each : (v : ℕ) → Within m v → mem (rising_list m s) v ≡ mem (rising_list n s) v
    each v w = grind (arith, mem-rising_list m s v w, cases_lt n v, mem-rising_list n s v, mem-outside n (rising_list n s) (rising_list-rises n s) v, rising_list-rises n s)

-- some edge joins a and b
abbrev adj : Graph → ℕ → ℕ → Bool
adj g a b = some (size g) (has_ends g a b)

-- the rows of later neighbours, in order, are the pairs that edges join
pub rows-joined : (n m : ℕ) (ends : List Ends) (rows : List (List ℕ)) → IsGraph (graph_of n ends) → n ≤ m → length rows ≡ n → ((i : ℕ) → Within n i → IsRisingIn m (item rows i)) → ((i j : ℕ) → Within n i → mem (item rows i) j ≡ (nat_lt i j && list_any (are_ends i j) ends)) →
    flat_map (λ a. map (pair_with a) (item rows a)) (rising_list (length rows) everything) ≡ joined_pairs (graph_of n ends)
unfolding joined_pairs
rows-joined n m ends rows is few len rise later =
    ap (λ k. flat_map (λ a. map (pair_with a) (item rows a)) (rising_list k everything)) len
    ∙ rows-congr _ _ (rising_list n everything) (λ a h. row a (rising_only n everything a h).0)
    ∙ sym (filter-rows (λ (k : ℕ × ℕ). adj (graph_of n ends) k.0 k.1) (λ a. map (pair_with a) (rising_list n (nat_lt a))) (rising_list n everything))
  where
    row : (a : ℕ) → Within n a → map (pair_with a) (item rows a) ≡ filter (λ k. adj (graph_of n ends) k.0 k.1) (map (pair_with a) (rising_list n (nat_lt a)))
    row a w = ap (map (pair_with a)) (sym (rising_list-mem m (item rows a) (rise a w)) ∙ rising-narrower n m (mem (item rows a)) few outside) ∙ row-filter n a (adj (graph_of n ends)) (mem (item rows a)) test
      where
        test : (j : ℕ) → mem (item rows a) j ≡ (nat_lt a j && adj (graph_of n ends) a j)
        test j = later a j w ∙ ap (λ b. nat_lt a j && b) (sym (some-graph_of n ends a j))

        outside : (j : ℕ) → (Within n j → ⊥) → mem (item rows a) j ≡ false
        outside j out = grind (arith, false_from_ne_true, some_true, and_parts, nat_lt, test, has_ends-cases)

-- no pair comes twice
once-append : (xs ys : List (ℕ × ℕ)) → Once xs → Once ys → ((a b : ℕ) → HasPair xs a b → HasPair ys a b → ⊥) → Once (xs ++ ys)
once-append [] ys o q d = q
once-append (k ∷ xs) ys o q d = (λ h. split h, once-append xs ys o.1 q (λ a b h. d a b (inr h)))
  where
    parts : (zs : List (ℕ × ℕ)) → HasPair (zs ++ ys) k.0 k.1 → HasPair zs k.0 k.1 ⊎ HasPair ys k.0 k.1
    parts [] h = inr h
    parts (z ∷ zs) (inl h) = inl (inl h)
    parts (z ∷ zs) (inr h) = elim (parts zs h) [ inl a ↦ inl (inr a) | inr b ↦ inr b ]

    split : HasPair (xs ++ ys) k.0 k.1 → ⊥
    split h = elim (parts xs h) [ inl a ↦ o.0 a | inr b ↦ d k.0 k.1 (inl (refl, refl)) b ]

once-row : (low n a : ℕ) (xs : List ℕ) → Rises low n xs → Once (map (pair_with a) xs)
once-row low n a [] r = tt
once-row low n a (x ∷ xs) r = (λ h. both_ways (mem xs x) (mem_low (x + 1) n xs r.2 x (omega arith)) (map_pair a xs a x h).1, once-row (x + 1) n a xs r.2)

once-rows : (low n : ℕ) (xs : List ℕ) → Rises low n xs → Once (flat_map (λ a. map (pair_with a) (rising_list n (nat_lt a))) xs)
once-rows low n [] r = tt
once-rows low n (x ∷ xs) r =
    once-append (map (pair_with x) (rising_list n (nat_lt x))) (flat_map (λ a. map (pair_with a) (rising_list n (nat_lt a))) xs)
    (once-row 1 n x (rising_list n (nat_lt x)) (rises-from_set n (rising_list n (nat_lt x)) (rising_list-rises n (nat_lt x)))) (once-rows (x + 1) n xs r.2)
    (λ a b h k. both_ways (mem xs a) (mem_low (x + 1) n xs r.2 a (let e = (map_pair x (rising_list n (nat_lt x)) a b h).0 in omega arith)) (rows_only n a b xs k).0)

once-filter : (t : ℕ → ℕ → Bool) (ks : List (ℕ × ℕ)) → Once ks → Once (filter (λ k. t k.0 k.1) ks)
once-filter t [] o = tt
once-filter t (k ∷ ks) o = go (t k.0 k.1) (once-filter t ks o.1)
  where
    go : (b : Bool) → Once (filter (λ k. t k.0 k.1) ks) → Once (cond b (k ∷ filter (λ k. t k.0 k.1) ks) (filter (λ k. t k.0 k.1) ks))
    go b ih = grind (arith, pair_filter t ks k.0 k.1)

pub joined-once : (g : Graph) → EachOnce (joined_pairs g)
unfolding joined_pairs
joined-once g = each-once (joined_pairs g) (once-filter (λ a b. some (size g) (has_ends g a b)) (rising_pairs g.order) (once-rows 1 g.order (rising_list g.order everything) (rises-from_set g.order (rising_list g.order everything) (rising_list-rises g.order everything))))

-- each joins two vertices in increasing order by some edge
pub joined-at : (g : Graph) (i : ℕ) → i < length (joined_pairs g) →
    Within g.order (get_or (joined_pairs g) i (0, 0)).0 × Within g.order (get_or (joined_pairs g) i (0, 0)).1 × ((get_or (joined_pairs g) i (0, 0)).0 < (get_or (joined_pairs g) i (0, 0)).1) × (some (size g) (has_ends g (get_or (joined_pairs g) i (0, 0)).0 (get_or (joined_pairs g) i (0, 0)).1) ≡ true)
unfolding joined_pairs
joined-at g i l =
    let k = get_or (joined_pairs g) i (0, 0) in
    let h = pair_filter (λ a b. some (size g) (has_ends g a b)) (rising_pairs g.order) k.0 k.1 (at_pair (joined_pairs g) i l) in
    let r = rows_only g.order k.0 k.1 (rising_list g.order everything) h.0 in
    ((rising_only g.order everything k.0 r.0).0, r.1, grind (arith, nat_tests, h), h.1)

-- the least edge that joins pair i, counted from 1
abbrev pick : Graph → ℕ → ℕ
pick g i = least_of (size g) (has_ends g (get_or (joined_pairs g) (i - 1) (0, 0)).0 (get_or (joined_pairs g) (i - 1) (0, 0)).1)

-- there are no more pairs than edges
pub joined-few : (g : Graph) → length (joined_pairs g) ≤ size g
unfolding image
joined-few g =
    let all = total_image (length (joined_pairs g)) (size g) everything (pick g) (λ i. 1) (λ i w h. (least g i w).0) (λ d e wd we hd he q. apart d e wd we q) in
    let less : total (size g) (λ i. bit (some (length (joined_pairs g)) (λ e. true && (pick g e == i))) * 1) ≤ total (size g) (λ i. 1) = total_le (size g) _ _ (λ i w. grind arith) in
    let a = ones (length (joined_pairs g)) in let b = ones (size g) in omega arith
  where
    ones : (k : ℕ) → total k (λ i. 1) ≡ k
    ones zero = refl
    ones (suc k) = let h = ones k in omega arith

    least : (g : Graph) (i : ℕ) → Within (length (joined_pairs g)) i → Within (size g) (pick g i) × (has_ends g (get_or (joined_pairs g) (i - 1) (0, 0)).0 (get_or (joined_pairs g) (i - 1) (0, 0)).1 (pick g i) ≡ true)
    least g i w = least_of_is (size g) (has_ends g (get_or (joined_pairs g) (i - 1) (0, 0)).0 (get_or (joined_pairs g) (i - 1) (0, 0)).1) (joined-at g (i - 1) (omega arith)).3

    same_pair : (a b c d x y : ℕ) → a < b → c < d → ((x ≡ a) × (y ≡ b)) ⊎ ((x ≡ b) × (y ≡ a)) → ((x ≡ c) × (y ≡ d)) ⊎ ((x ≡ d) × (y ≡ c)) → (a ≡ c) × (b ≡ d)
    same_pair a b c d x y l m h k = grind arith

    pairs : (d e : ℕ) → Within (length (joined_pairs g)) d → Within (length (joined_pairs g)) e → pick g d ≡ pick g e → get_or (joined_pairs g) (d - 1) (0, 0) ≡ get_or (joined_pairs g) (e - 1) (0, 0)
    pairs d e wd we q = grind (arith, get_or, joined-at, same_pair, first_end, second_end, has_ends-cases, least, has_ends)

    apart : (d e : ℕ) → Within (length (joined_pairs g)) d → Within (length (joined_pairs g)) e → pick g d ≡ pick g e → d ≡ e
    apart d e wd we q = grind (arith, cases_order, joined-once, pairs)

-- so they are the edges of a multigraph within the limits
pub joined-limits : (g : Graph) → g.order ≤ 128 → size g ≤ 2048 → IsWithinLimits (record { order = g.order; ends = joined_pairs g })
joined-limits g few edges = grind (arith, joined-few g, joined-at g)
