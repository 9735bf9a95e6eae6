-- The shores of all cut pairs as the code goes through them: the pairs in order, and at each cut
-- pair the components in order. A step of the loop is a step of the fold; a pair that is not a cut
-- pair adds nothing.
use Rattle.std.proofs.Common.{◌≡◌, ℕ, ◌+◌, ◌<◌, ◌≤◌, true, false, ◌==◌, ◌||◌, cond, not, ap, arith, List, [], ◌∷◌, ◌++◌, map, flat_map, filter, fold, length, take, get_or, append-nil, All, is_none, eqb-true}
use Rattle.graph_core.proofs.from_counting.Common.{flat_map-append, filter-append, fold-append, le-leb, or_cases, get_or-map, length-map, map-append, take_all, take_more, All-map, mem-within, list-from_test, rising_list-rises, set-narrower, Within, IsRisingIn, mem, rising_list, rising_pairs, Set, pair_set, singleton, union}
use Rattle.graph_core.proofs.Common.{has_perfect_found, components, is_least, Graph, has_perfect, IsBicritical, is_bicritical, equivalent_pair, joined, with_cut, pair_of}
use Rattle.barrier_kit.proofs.Common.{all_rising, pairs_rise, unfound_all}
use Rattle.separation_kit.specs.Common.{is_cut_pair, separation_cuts, separation_shores, shores_at_pair}
use Rattle.graph_core.specs.declared.ends.Ends.{Ends}
use Rattle.separation_kit.proofs.PairSearch.{pair_at}

-- a set with one more vertex
pub shore-with : (n a : ℕ) (part shore : List ℕ) → n ≤ 128 → Within n a → IsRisingIn n part → IsRisingIn 128 shore → ((v : ℕ) → mem shore v ≡ (mem part v || a == v)) → shore ≡ rising_list n (union (mem part) (singleton a))
shore-with n a part shore few wa rises wide same = grind (arith, list-from_test n shore (union (mem part) (singleton a)), set-narrower 128 n shore wide, or_cases, mem-within n part rises, eqb-true a)

-- one component more
pub fold-map_more : (n a i : ℕ) (d : List ℕ) (parts cuts start after : List (List ℕ)) (shore : List ℕ) → i < length parts → shore ≡ rising_list n (union (mem (get_or parts i d)) (singleton a)) →
    cuts ≡ fold (with_cut n) start (map (λ s. rising_list n (union (mem s) (singleton a))) (take i parts)) → after ≡ with_cut n cuts shore →
    after ≡ fold (with_cut n) start (map (λ s. rising_list n (union (mem s) (singleton a))) (take (i + 1) parts))
fold-map_more n a i d parts cuts start after shore l is old new = grind (arith, fold-append (with_cut n) start, map-append, take_more parts i d l)

-- the components are increasing lists
pub components-rise : (g : Graph) (s : Set) → All (IsRisingIn g.order) (components g s)
unfolding components
components-rise g s = All-map (IsRisingIn g.order) (λ u. rising_list g.order (joined g s u)) (rising_list g.order (is_least g s))
    (all_rising g.order (is_least g s) (λ u. IsRisingIn g.order (rising_list g.order (joined g s u))) (λ u w t. rising_list-rises g.order (joined g s u)))

-- one more pair
module _ (g : Graph) (i : ℕ) (items : List Ends) (l : i < length items) where
  next_pairs : filter (is_cut_pair g) (take (i + 1) (map pair_of items)) ≡ filter (is_cut_pair g) (take i (map pair_of items)) ++ cond (is_cut_pair g (pair_of (pair_at items i))) (pair_of (pair_at items i) ∷ []) []
  next_pairs =
      let m = length-map items pair_of in
      grind (arith, take_more (map pair_of items) i (0, 0), get_or-map pair_of items i, filter-append (is_cut_pair g) (take i (map pair_of items)) (pair_of (pair_at items i) ∷ []))

  pub shores-taken : (cuts after : List (List ℕ)) → cuts ≡ fold (with_cut g.order) [] (flat_map (shores_at_pair g) (filter (is_cut_pair g) (take i (map pair_of items)))) → is_cut_pair g (pair_of (pair_at items i)) ≡ true →
      after ≡ fold (with_cut g.order) cuts (shores_at_pair g (pair_of (pair_at items i))) → after ≡ fold (with_cut g.order) [] (flat_map (shores_at_pair g) (filter (is_cut_pair g) (take (i + 1) (map pair_of items))))
  shores-taken cuts after old t new = grind (arith, fold-append (with_cut g.order), append-nil, flat_map-append (shores_at_pair g), next_pairs)

  pub shores-passed : (cuts : List (List ℕ)) → cuts ≡ fold (with_cut g.order) [] (flat_map (shores_at_pair g) (filter (is_cut_pair g) (take i (map pair_of items)))) → is_cut_pair g (pair_of (pair_at items i)) ≡ false →
      cuts ≡ fold (with_cut g.order) [] (flat_map (shores_at_pair g) (filter (is_cut_pair g) (take (i + 1) (map pair_of items))))
  shores-passed cuts old f = grind (arith, append-nil, next_pairs)

-- bicritical, as the test
pub bicritical-true : (g : Graph) → IsBicritical g → is_bicritical g ≡ true
unfolding equivalent_pair
bicritical-true g bi = ap is_none (unfound_all (λ k. not (has_perfect g (pair_set k.0 k.1))) (rising_pairs g.order) (λ i d l.
    let w = pairs_rise g.order i d l in let less = w.2 in ap not (has_perfect_found g _ (bi _ _ w.0 w.1 (λ e. omega arith)))))

pub shores-all : (g : Graph) (i : ℕ) (items : List Ends) (cuts : List (List ℕ)) → IsBicritical g → 4 ≤ g.order → map pair_of items ≡ rising_pairs g.order → length items ≤ i →
    cuts ≡ fold (with_cut g.order) [] (flat_map (shores_at_pair g) (filter (is_cut_pair g) (take i (map pair_of items)))) → cuts ≡ separation_cuts g
unfolding separation_cuts separation_shores
shores-all g i items cuts bi four e l h = grind (arith, length-map items pair_of, take_all i (map pair_of items), bicritical-true g bi, le-leb 4 g.order four)
