-- What trying all sets of edges says about the tests that quantify over sets: a matching is on the
-- list as its increasing list, and a test of a set of edges depends only on the edges.
use Rattle.allowed_edges.proofs.from_counting.Common.{◌≡◌, ℕ, ◌+◌, ◌≤◌, ◌<◌, ◌==◌, ◌&&◌, true, false, not, refl, sym, ap, ap₂, ◌∙◌, arith, List, [], length, get_or, eq-eqb, eqb-true, ne_eqb, subst, inl, inr, max, All, Contains, get_or_default, All-filter, filter_passes, Any-from_list_any, list_any_at, AllPass-from_list_all, list_all-from_AllPass, same_tests, and_from, and_left, and_parts, both_ways, cases_Bool, cases_eq, cases_lt, false_from_ne_true, count_mem_length, set_found, count_congr, length-rising_list, mem-rising_list, every_true, total_none, list_all, list_any, Within, count, is_odd, IsRisingIn, mem, rising_list, Set, complement, none, every}
use Rattle.graph_core.proofs.Common.{Graph, edges_in_cut, size, IsMatching, IsPerfect, has_matching_of, has_perfect, is_allowed, is_matching, is_perfect, is_tight, has_perfect_found, has_perfect_says, is_allowed_found, is_allowed_says, is_matching_congr, is_perfect_congr, is_perfect_true, is_tight_found, is_tight_says, none_matching, true_is_matching, true_is_perfect}
use Rattle.plain_graph.specs.Cuts.{has_odd_sides}
use Rattle.plain_graph.specs.Subsets.{perfect_matchings_of, subsets}
use Rattle.plain_graph.proofs.Subsets.{Contains-filter, subsets-all, subsets-rising}

-- one that fails shows that not each passes
pub every_not : (n : ℕ) (p : Set) (v : ℕ) → Within n v → p v ≡ false → every n p ≡ false
every_not n p v w f = false_from_ne_true (every n p) (λ t. both_ways (p v) f (every_true n p t v w))

-- the list of perfect matchings holds perfect matchings, as sets of edges
pub perfect_matchings-perfect : (g : Graph) (r : Set) → All (λ m. IsRisingIn (size g) m × IsPerfect g r (mem m)) (perfect_matchings_of g r)
perfect_matchings-perfect g r k d l = (
  All-filter (λ m. is_perfect g r (mem m)) (IsRisingIn (size g)) (subsets (size g)) (subsets-rising (size g)) k d l,
  is_perfect_true g r _ (filter_passes (λ m. is_perfect g r (mem m)) (subsets (size g)) k d l),
)

-- and each of them
pub perfect_matchings-all : (g : Graph) (r m : Set) → IsPerfect g r m → Contains (perfect_matchings_of g r) (rising_list (size g) m)
perfect_matchings-all g r m p =
    Contains-filter (λ m. is_perfect g r (mem m)) (subsets (size g)) (rising_list (size g) m) (subsets-all (size g) m)
    (is_perfect_congr g r (mem (rising_list (size g) m)) m (mem-rising_list (size g) m) ∙ true_is_perfect g r m p)

-- there is a perfect matching where the list is not empty
pub has_perfect-list : (g : Graph) (r : Set) → not (length (perfect_matchings_of g r) == 0) ≡ has_perfect g r
has_perfect-list g r = elim (cases_Bool (has_perfect g r)) [
  | inl t ↦ grind (arith, has_perfect_says g r t, perfect_matchings-all g r, ne_eqb (length (perfect_matchings_of g r)) 0)
  | inr f ↦ ap not (eq-eqb (length (perfect_matchings_of g r)) 0 (empty f)) ∙ sym f
]
  where
    empty : has_perfect g r ≡ false → length (perfect_matchings_of g r) ≡ 0
    empty f = zero_from_none (length (perfect_matchings_of g r)) (λ l. both_ways (has_perfect g r) f (has_perfect_found g r (mem (get_or (perfect_matchings_of g r) 0 []), (perfect_matchings-perfect g r 0 [] l).1)))
      where
        zero_from_none : (n : ℕ) → (0 < n → ⊥) → n ≡ 0
        zero_from_none n h = omega arith

-- an edge is allowed where an item of the list contains it
pub is_allowed-list : (g : Graph) (e : ℕ) → Within (size g) e → list_any (λ m. mem m e) (perfect_matchings_of g none) ≡ is_allowed g e
is_allowed-list g e w = same_tests (list_any (λ m. mem m e) (perfect_matchings_of g none)) (is_allowed g e)
    (λ t. let a = Any-from_list_any (λ m. mem m e) (perfect_matchings_of g none) t in
    is_allowed_found g e w (mem a.1, subst (λ m. IsPerfect g none (mem m)) a.3 (perfect_matchings-perfect g none a.0 a.1 a.2).1, a.4))
    (λ t. let a = is_allowed_says g e t in let c = perfect_matchings-all g none a.0 a.1 in
    list_any_at (λ m. mem m e) (perfect_matchings_of g none) c.0 (rising_list (size g) a.0) c.1 (ap (λ m. mem m e) c.2 ∙ mem-rising_list (size g) a.0 e w ∙ a.2))

-- a shore is tight where its sides are odd and each item of the list has one edge in its cut
pub is_tight-list : (g : Graph) (x : Set) → (has_odd_sides g x && list_all (λ m. edges_in_cut g (mem m) x == 1) (perfect_matchings_of g none)) ≡ is_tight g x
is_tight-list g x = elim (cases_Bool (has_odd_sides g x)) [
  | inr f ↦ and_left (has_odd_sides g x) (list_all (λ m. edges_in_cut g (mem m) x == 1) (perfect_matchings_of g none)) f ∙ sym (and_left (has_odd_sides g x) _ f)
  | inl t ↦ ap (λ b. b && list_all (λ m. edges_in_cut g (mem m) x == 1) (perfect_matchings_of g none)) t ∙ same_tests (list_all (λ m. edges_in_cut g (mem m) x == 1) (perfect_matchings_of g none)) (is_tight g x)
      (λ h. let odd = and_parts (is_odd (count g.order x)) (is_odd (count g.order (complement x))) t in
      is_tight_found g x (record { odd = odd.0; odd_complement = odd.1; cut = λ m p. one h m p }))
      (λ h. list_all-from_AllPass (λ m. edges_in_cut g (mem m) x == 1) (perfect_matchings_of g none) (λ k d l. eq-eqb _ _ ((is_tight_says g x h).cut _ (perfect_matchings-perfect g none k d l).1)))
]
  where
    one : list_all (λ m. edges_in_cut g (mem m) x == 1) (perfect_matchings_of g none) ≡ true → (m : Set) → IsPerfect g none m → edges_in_cut g m x ≡ 1
    one h m p =
        let c = perfect_matchings-all g none m p in
        let a = eqb-true _ _ (AllPass-from_list_all (λ m. edges_in_cut g (mem m) x == 1) (perfect_matchings_of g none) h c.0 (rising_list (size g) m) c.1) in
        grind (arith, count_congr (size g), mem-rising_list (size g) m)

-- a matching shows that there is one of its size
pub matching_of-size : (g : Graph) (r m : Set) → is_matching g r m ≡ true → has_matching_of g r (count (size g) m) ≡ true
matching_of-size g r m h =
    set_found (size g) (λ k. is_matching g r k && (count (size g) k == count (size g) m))
    (record { same = λ k l e. ap₂ ◌&&◌ (is_matching_congr g r k l e) (ap (λ c. c == count (size g) m) (count_congr (size g) k l e)) }) m
    (and_from (is_matching g r m) (count (size g) m == count (size g) m) h (eq-eqb (count (size g) m) (count (size g) m) refl))

-- there is a matching without edges
pub matching_of-none : (g : Graph) (r : Set) → has_matching_of g r 0 ≡ true
matching_of-none g r = subst (λ k. has_matching_of g r k ≡ true) (total_none (size g) _ (λ e w. refl)) (matching_of-size g r none (true_is_matching g r none (none_matching g r)))

-- where no item of the list of all sets that is a matching is longer, no matching is
pub greatest-list : (g : Graph) (r : Set) (most : ℕ) → All (λ m. is_matching g r (mem m) ≡ true → length m ≤ most) (subsets (size g)) → (m : Set) → IsMatching g r m → count (size g) m ≤ most
greatest-list g r most h m p =
    let c = subsets-all (size g) m in
    let is : is_matching g r (mem (rising_list (size g) m)) ≡ true = is_matching_congr g r (mem (rising_list (size g) m)) m (mem-rising_list (size g) m) ∙ true_is_matching g r m p in
    let l = subst (λ xs. is_matching g r (mem xs) ≡ true → length xs ≤ most) c.2 (h c.0 (rising_list (size g) m) c.1) is in
    omega (arith, length-rising_list (size g) m, l)

-- the greatest size so far, after one set more
pub record IsGreatestSoFar (g : Graph) (r : Set) (sets : List (List ℕ)) (i most : ℕ) : Type 0 where
  pub reached : has_matching_of g r most ≡ true
  pub greatest : (k : ℕ) (d : List ℕ) → k < i → is_matching g r (mem (get_or sets k d)) ≡ true → length (get_or sets k d) ≤ most

pub greatest-longer : (g : Graph) (r : Set) (sets : List (List ℕ)) (i most : ℕ) (edges : List ℕ) → i < length sets → edges ≡ get_or sets i edges → IsRisingIn (size g) edges → is_matching g r (mem edges) ≡ true →
    IsGreatestSoFar g r sets i most → IsGreatestSoFar g r sets (i + 1) (max most (length edges))
greatest-longer g r sets i most edges l read rises h old = record {
  reached = elim (cases_lt most (length edges)) [
    | inl lt ↦ grind (arith, count_mem_length (size g) edges rises, matching_of-size g r (mem edges) h)
    | inr ge ↦ let e : most ≡ max most (length edges) = omega arith in subst (λ k. has_matching_of g r k ≡ true) e old.reached
  ];
  greatest = λ k d below m. elim (cases_eq k i) [
    | inl e ↦ grind (arith, get_or_default sets i d edges l)
    | inr n ↦ let b = old.greatest k d (omega arith) m in omega (arith, b)
  ];
}

pub greatest-same : (g : Graph) (r : Set) (sets : List (List ℕ)) (i most : ℕ) (edges : List ℕ) → i < length sets → edges ≡ get_or sets i edges → is_matching g r (mem edges) ≡ false →
    IsGreatestSoFar g r sets i most → IsGreatestSoFar g r sets (i + 1) most
greatest-same g r sets i most edges l read f old = grind (arith, cases_eq, get_or_default sets i, both_ways (is_matching g r (mem edges)) f)
