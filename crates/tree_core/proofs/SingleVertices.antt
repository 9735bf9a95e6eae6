-- Names of blocks. The greatest vertex is in the last block; a partition with as many blocks as
-- vertices is the one into single vertices: its names are all vertices, so each vertex names its
-- own block, and no block has a second one.
use Rattle.graph_core.proofs.from_counting.Common.{◌≡◌, ℕ, suc, ◌+◌, ◌-◌, ◌≤◌, ◌<◌, true, false, ◌||◌, List, [], ◌∷◌, ◌++◌, length, get_or, refl, sym, ap, ◌∙◌, arith, subst, zero, eq-eqb, ext_get_or, same_tests, get_or-map, length-map, map-append, only_one, last_is_greatest, mem-all, rising_list-rises, length-rising_list, same_rising_list, set-one, true_all_in, mem-item, same_set-from_size, mem-within, Within, count, IsRisingIn, last_of, mem, rising_list, everything}
use Rattle.graph_core.proofs.Common.{place_in, place_is, mem_last, block-singles, length-singles, IsPartition, block, names_of, place, singles}

-- the last of a list by its place
last-item : (xs : List ℕ) → 0 < length xs → last_of xs ≡ get_or xs (length xs - 1) 0
last-item [] some = absurd (omega arith)
last-item (x ∷ []) some = refl
last-item (x ∷ y ∷ xs) some = grind (arith, last-item (y ∷ xs) (omega arith))

count-all : (n : ℕ) → count n everything ≡ n
count-all zero = refl
count-all (suc n) = let a = count-all n in omega arith

module _ (n : ℕ) (p : List (List ℕ)) (is : IsPartition n p) where
  -- block i has its name
  named : (i : ℕ) → Within (length p) i → Within n (last_of (block p i)) × (mem (block p i) (last_of (block p i)) ≡ true)
  named i w =
      let f = is.partition.full i w in
      let m = mem_last (block p i) f.0 f.2 in
      (is.partition.within i (last_of (block p i)) w m, m)

  name-at : (k d : ℕ) → k < length p → get_or (names_of p) k d ≡ last_of (block p (k + 1))
  name-at k d l = let e : k ≡ k + 1 - 1 = omega arith in get_or-map last_of p k [] d l ∙ ap (λ j. last_of (get_or p j [])) e

  pub names-rise : IsRisingIn n (names_of p)
  names-rise = grind (arith, length-map, last_of, name-at, named)

  block-rises : (i : ℕ) → Within (length p) i → IsRisingIn n (block p i)
  block-rises i w = grind (arith, mem-item (block p i))

  -- a vertex is at most the name of its block
  at-most-name : (v : ℕ) → Within n v → v ≤ last_of (block p (place p v))
  at-most-name v w = let r = place_in n p is.partition v w in last_is_greatest n (block p (place p v)) (block-rises (place p v) r.0) v r.1

  -- the greatest vertex is in the last block
  pub last-place : 1 ≤ n → place p n ≡ length p
  last-place some =
      let w : Within n n = (omega arith, omega arith) in
      let r = place_in n p is.partition n w in
      let filled : 0 < length p = omega arith in
      let before : length p - 1 + 1 ≡ length p = omega arith in
      let names = names-rise in
      let l : place p n - 1 < length (names_of p) = let e = length-map p last_of in omega arith in
      let high = last_is_greatest n (names_of p) names (get_or (names_of p) (place p n - 1) 0) (mem-item (names_of p) (place p n - 1) 0 l) in
      let back : place p n - 1 + 1 ≡ place p n = omega arith in
      let own : get_or (names_of p) (place p n - 1) 0 ≡ last_of (block p (place p n)) = name-at (place p n - 1) 0 (omega arith) ∙ ap (λ i. last_of (block p i)) back in
      let tops = at-most-name n w in
      let e = length-map p last_of in
      let final : last_of (names_of p) ≡ last_of (block p (length p)) = last-item (names_of p) (omega arith) ∙ ap (λ k. get_or (names_of p) (k - 1) 0) e ∙ name-at (length p - 1) 0 (omega arith) ∙ ap (λ i. last_of (block p i)) before in
      let m = named (length p) (omega arith, omega arith) in
      let same : last_of (block p (length p)) ≡ n = omega arith in
      sym (place_is n p is.partition n (length p) w (omega arith, omega arith) (subst (λ v. mem (block p (length p)) v ≡ true) same m.1))

  -- as many blocks as vertices
  module _ (many : length p ≡ n) where
    all-names : names_of p ≡ rising_list n everything
    all-names = same_set-from_size n (names_of p) (rising_list n everything) names-rise (rising_list-rises n everything)
        (true_all_in (names_of p) (mem (rising_list n everything)) (λ v m. (mem-all n v).1 (mem-within n (names_of p) names-rise v m)))
        (let a = length-rising_list n everything in let b = length-map p last_of in let c = count-all n in omega arith)

    name-singles : (m k : ℕ) → k < m → get_or (names_of (singles m)) k 0 ≡ k + 1
    name-singles m k l =
        let e : k ≡ k + 1 - 1 = omega arith in
        let s = length-singles m in
        get_or-map last_of (singles m) k [] 0 (omega arith) ∙ ap (λ j. last_of (get_or (singles m) j [])) e ∙ ap last_of (block-singles m (k + 1) (omega arith, omega arith))

    listed-singles : (m : ℕ) → names_of (singles m) ≡ rising_list m everything
    listed-singles zero = refl
    listed-singles (suc m) = map-append last_of (singles m) ((suc m ∷ []) ∷ []) ∙ ap (λ names. names ++ suc m ∷ []) (listed-singles m)

    own-name : (i : ℕ) → Within n i → last_of (block p i) ≡ i
    own-name i w = grind (arith, name-at (i - 1) 0, all-names, listed-singles n, name-singles n (i - 1))

    alone : (i : ℕ) → Within n i → block p i ≡ i ∷ []
    alone i w =
        let wi : Within (length p) i = (omega arith, omega arith) in
        let holds : mem (block p i) i ≡ true = subst (λ v. mem (block p i) v ≡ true) (own-name i w) (named i wi).1 in
        same_rising_list n (block p i) (i ∷ []) (block-rises i wi) (set-one n i w) (λ v wv.
        same_tests (mem (block p i) v) (mem (i ∷ []) v) (λ m. only i v w wv wi m) (λ m. subst (λ u. mem (block p i) u ≡ true) (grind arith) holds))
      where
        only : (i v : ℕ) → Within n i → Within n v → Within (length p) i → mem (block p i) v ≡ true → mem (i ∷ []) v ≡ true
        only i v w wv wi m =
            let wl : Within (length p) v = (omega arith, omega arith) in
            let own : mem (block p v) v ≡ true = subst (λ u. mem (block p v) u ≡ true) (own-name v wv) (named v wl).1 in
            let same : i ≡ v = only_one (length p) (λ j. mem (block p j) v) (is.partition.once v wv) i v wi wl m own in
            ap (λ b. b || false) (eq-eqb i v same)

    pub as_many-singles : p ≡ singles n
    as_many-singles = ext_get_or [] p (singles n) (many ∙ sym (length-singles n)) (λ k l.
        let e : k ≡ k + 1 - 1 = omega arith in
        let w : Within n (k + 1) = (omega arith, omega arith) in
        ap (λ j. get_or p j []) e ∙ alone (k + 1) w ∙ sym (block-singles n (k + 1) w) ∙ ap (λ j. get_or (singles n) j []) (sym e))
