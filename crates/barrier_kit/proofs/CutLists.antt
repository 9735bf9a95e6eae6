-- The cuts of all classes as a list, and the number of odd components off the list of all.
-- Each is an induction over the list of what gives them.
use Rattle.graph_core.proofs.from_counting.Common.{◌≡◌, ℕ, suc, zero, ◌+◌, ◌≤◌, Bool, refl, ap, ap₂, ◌∙◌, arith, ◌&&◌, cond, List, [], ◌∷◌, map, length, fold, flat_map, take, count_by, sum_by-append, map-append, take_all, length-rising_list, bit, count, is_odd, mem, rising_list, Set}
use Rattle.graph_core.proofs.Common.{components, is_least, odd_component_count, Graph, classes, joined, with_cut}
use Rattle.barrier_kit.specs.Common.{barrier_cuts, barrier_shores}

-- the odd components by their lists
count_by-least : (g : Graph) (s : Set) (n : ℕ) → count_by (λ p. is_odd (length p)) (map (λ u. rising_list g.order (joined g s u)) (rising_list n (is_least g s))) ≡ count n (λ u. is_least g s u && is_odd (count g.order (joined g s u)))
count_by-least g s zero = refl
count_by-least g s (suc n) =
    ap (count_by (λ p. is_odd (length p))) (map-append part (rising_list n (is_least g s)) (cond (is_least g s (suc n)) (suc n ∷ []) []))
    ∙ sum_by-append (λ p. cond (is_odd (length p)) 1 0) (map part (rising_list n (is_least g s))) (map part (cond (is_least g s (suc n)) (suc n ∷ []) []))
    ∙ ap₂ ◌+◌ (count_by-least g s n) (grind (arith, counted_last (is_odd (length (part (suc n)))), length-rising_list g.order (joined g s (suc n))))
  where
    part : ℕ → List ℕ
    part u = rising_list g.order (joined g s u)

    counted_last : (b : Bool) → 0 + cond b 1 0 ≡ bit b
    counted_last b = grind arith

pub odd_parts-counted : (g : Graph) (s : Set) → count_by (λ p. is_odd (length p)) (components g s) ≡ odd_component_count g s
unfolding components odd_component_count
odd_parts-counted g s = count_by-least g s g.order

-- the cuts of all classes
pub barrier_cuts-all : (g : Graph) (cuts items : List (List ℕ)) (i : ℕ) → items ≡ classes g → length items ≤ i → cuts ≡ fold (with_cut g.order) [] (flat_map (λ s. components g (mem s)) (take i items)) → cuts ≡ barrier_cuts g
unfolding barrier_cuts barrier_shores
barrier_cuts-all g cuts items i is l h = h ∙ ap (λ ss. fold (with_cut g.order) [] (flat_map (λ s. components g (mem s)) ss)) (take_all i items l ∙ is)
