-- Each vertex outside the removed set is in exactly one listed component, and each vertex of a
-- covered graph in exactly one listed class. The list of the least vertices holds the one that
-- represents it, once.
use Rattle.counting.proofs.Common.{◌≡◌, ℕ, suc, ◌<◌, true, false, List, [], ◌∷◌, length, map, refl, sym, ap, ◌∙◌, arith, inl, inr, ◌&&◌, ◌==◌, not, eqb-true, nat_lt, lt-ltb, ltb-true, Any, ◌-◌, slice_index_or, AllPairs-from_increasing, and_from, and_parts, both_ways, cases_order, false_from_ne_true, or_cases, true≢false, not-true, get_or-map, length-map, rising_holds, rising_only, mem-item, rising_list-rises, least_true, some_true, true_some, Within, IsRisingIn, item, mem, rising_list, Set, some}
use Rattle.barrier_kit.proofs.Common.{equivalent_back, equivalent_on}
use Rattle.graph_core.proofs.Common.{joined_walk, walk_joined, is_equivalent_found, is_equivalent_says, least_same, joined_back, joined_on, components, is_least, IsCovered, Graph, IsGraph, Equivalent, classes, is_equivalent, is_least_of_class, joined}
use Rattle.definition_laws.proofs.Leaders.{leader}

-- a number of a list is at some place
item_at : (xs : List ℕ) (u : ℕ) → mem xs u ≡ true → (k : ℕ) × (k < length xs) × ((d : ℕ) → slice_index_or xs k d ≡ u)
item_at [] u h = absurd (true≢false (sym h))
item_at (x ∷ xs) u h = elim (or_cases (x == u) (mem xs u) h) [
  | inl e ↦ (0, omega arith, λ d. eqb-true x u e)
  | inr t ↦ let r = item_at xs u t in (suc r.0, (let a = r.1 in omega arith), r.2)
]

-- where v is in the list of u, it is in one of the lists
any_mapped : (f : ℕ → List ℕ) (xs : List ℕ) (u v : ℕ) → mem xs u ≡ true → mem (f u) v ≡ true → Any (λ (c : List ℕ). mem c v ≡ true) (map f xs)
any_mapped f xs u v h m = grind (arith, item_at xs u h, length-map xs f, get_or-map f xs)

-- each vertex outside s is in a component of the list
pub components-cover : (g : Graph) (s : Set) → IsGraph g → (v : ℕ) → Within g.order v → s v ≡ false → Any (λ (c : List ℕ). mem c v ≡ true) (components g s)
unfolding components
components-cover g s is v w out =
    let l = leader g s is v w out in
    any_mapped (λ u. rising_list g.order (joined g s u)) (rising_list g.order (is_least g s)) l.0 v (rising_holds g.order (is_least g s) l.0 l.1 l.2) (rising_holds g.order (joined g s l.0) v w (walk_joined g s is l.0 v l.1 l.3))

-- each vertex of a covered graph is in a class of the list: the least vertex equivalent to it is
-- the least of its class
pub classes-cover : (g : Graph) → IsGraph g → IsCovered g → (a : ℕ) → Within g.order a → Any (λ (c : List ℕ). mem c a ≡ true) (classes g)
unfolding classes
classes-cover g is cov a w =
    let l = least_true g.order (λ b. is_equivalent g b a) (true_some g.order (λ b. is_equivalent g b a) a w (is_equivalent_found g a a (inl refl))) in
    let first : is_least_of_class g l.0 ≡ true = ap not (false_from_ne_true (some g.order (λ b. nat_lt b l.0 && is_equivalent g b l.0)) (λ t.
    let r = some_true g.order (λ b. nat_lt b l.0 && is_equivalent g b l.0) t in
    let b = and_parts (nat_lt r.0 l.0) (is_equivalent g r.0 l.0) r.2 in
    both_ways (is_equivalent g r.0 a) (l.3 r.0 r.1 (ltb-true r.0 l.0 b.0))
    (is_equivalent_found g r.0 a (equivalent_on g r.0 l.0 a is cov r.1 l.1 w (is_equivalent_says g r.0 l.0 b.1) (is_equivalent_says g l.0 a l.2))))) in
    any_mapped (λ b. rising_list g.order (is_equivalent g b)) (rising_list g.order (is_least_of_class g)) l.0 a
    (rising_holds g.order (is_least_of_class g) l.0 l.1 first) (rising_holds g.order (is_equivalent g l.0) a w l.2)

-- equal items of an increasing list are at one place
place_one : (n : ℕ) (xs : List ℕ) (i j : ℕ) → IsRisingIn n xs → i < length xs → j < length xs → slice_index_or xs i 0 ≡ slice_index_or xs j 0 → i ≡ j
place_one n xs i j r li lj e = elim (cases_order i j) [
  | inl q ↦ q
  | inr o ↦ elim o [
    | inl l ↦ let a : slice_index_or xs i 0 < slice_index_or xs j 0 = AllPairs-from_increasing xs r.rising i j 0 l lj in absurd (omega arith)
    | inr l ↦ let a : slice_index_or xs j 0 < slice_index_or xs i 0 = AllPairs-from_increasing xs r.rising j i 0 l li in absurd (omega arith)
  ]
]

-- the lists of the sets f u, for u in the set `first`, of which no two have a number in common
module _ (n : ℕ) (f : ℕ → Set) (first : Set)
    (apart : (u w v : ℕ) → Within n u → Within n w → Within n v → first u ≡ true → first w ≡ true → f u v ≡ true → f w v ≡ true → u ≡ w) where
  -- what the number at place k of the list of `first` is
  leader_at : (v k : ℕ) → k < length (rising_list n first) → mem (slice_index_or (map (λ u. rising_list n (f u)) (rising_list n first)) k []) v ≡ true →
      Within n (slice_index_or (rising_list n first) k 0) × (first (slice_index_or (rising_list n first) k 0) ≡ true) × Within n v × (f (slice_index_or (rising_list n first) k 0) v ≡ true)
  leader_at v k l h =
      let m = rising_only n first (slice_index_or (rising_list n first) k 0) (mem-item (rising_list n first) k 0 l) in
      let q = get_or-map (λ u. rising_list n (f u)) (rising_list n first) k 0 [] l in
      let j = rising_only n (f (slice_index_or (rising_list n first) k 0)) v (ap (λ (c : List ℕ). mem c v) (sym q) ∙ h) in
      (m.0, m.1, j.0, j.1)

  -- no number is in two of the lists
  listed-once : (i j v : ℕ) → Within (length (map (λ u. rising_list n (f u)) (rising_list n first))) i → Within (length (map (λ u. rising_list n (f u)) (rising_list n first))) j →
      mem (item (map (λ u. rising_list n (f u)) (rising_list n first)) i) v ≡ true → mem (item (map (λ u. rising_list n (f u)) (rising_list n first)) j) v ≡ true → i ≡ j
  listed-once i j v wi wj hi hj =
      let e = length-map (rising_list n first) (λ u. rising_list n (f u)) in
      let li : i - 1 < length (rising_list n first) = omega arith in
      let lj : j - 1 < length (rising_list n first) = omega arith in
      let u = leader_at v (i - 1) li hi in
      let w = leader_at v (j - 1) lj hj in
      let same = apart (slice_index_or (rising_list n first) (i - 1) 0) (slice_index_or (rising_list n first) (j - 1) 0) v u.0 w.0 u.2 u.1 w.1 u.3 w.3 in
      let p = place_one n (rising_list n first) (i - 1) (j - 1) (rising_list-rises n first) li lj same in
      omega arith

-- no vertex is in two components of the list
pub components-once : (g : Graph) (s : Set) → IsGraph g → (i j v : ℕ) → Within (length (components g s)) i → Within (length (components g s)) j →
    mem (item (components g s) i) v ≡ true → mem (item (components g s) j) v ≡ true → i ≡ j
unfolding components
components-once g s is = grind (arith, listed-once g.order (joined g s) (is_least g s), least_same g s is, joined_on g s, joined_walk g s, joined_back g s)

-- the least vertex of a class has no equivalent vertex below it
least-none_below : (g : Graph) (u w : ℕ) → Within g.order u → is_least_of_class g w ≡ true → u < w → Equivalent g u w → ⊥
least-none_below g u w wu lw l e = both_ways (some g.order (λ b. nat_lt b w && is_equivalent g b w)) (not-true (some g.order (λ b. nat_lt b w && is_equivalent g b w)) lw)
    (true_some g.order (λ b. nat_lt b w && is_equivalent g b w) u wu (and_from (nat_lt u w) (is_equivalent g u w) (lt-ltb u w l) (is_equivalent_found g u w e)))

-- no vertex of a covered graph is in two classes of the list
pub classes-once : (g : Graph) → IsGraph g → IsCovered g → (i j v : ℕ) → Within (length (classes g)) i → Within (length (classes g)) j →
    mem (item (classes g) i) v ≡ true → mem (item (classes g) j) v ≡ true → i ≡ j
unfolding classes
classes-once g is cov = listed-once g.order (is_equivalent g) (is_least_of_class g) (λ u w v wu ww wv lu lw hu hw.
    let q : Equivalent g u w = equivalent_on g u v w is cov wu wv ww (is_equivalent_says g u v hu) (equivalent_back g w v (is_equivalent_says g w v hw)) in
    elim (cases_order u w) [
      | inl e ↦ e
      | inr o ↦ grind (arith, least-none_below g u w wu lw, least-none_below g w u ww lu, equivalent_back g u w q)
    ])
