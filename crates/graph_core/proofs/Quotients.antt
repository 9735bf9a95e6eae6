-- The edges of the quotient are exactly the adjacent pairs of places.
-- By the list of pairs in lexicographic order, filtered.
use Rattle.vset_core.proofs.from_counting.Common.{◌≡◌, ℕ, suc, ◌-◌, ◌<◌, true, List, length, refl, ap, ◌∙◌, arith, get_or, nat_lt, nat_tests, rising_holds, rising_only, at_pair, filter_pair, pair_at, pair_filter, rows_hold, rows_only, Within, rising_list, rising_pairs, everything}
use Rattle.graph_core.specs.Common.{Graph, first_end, second_end, size, blocks_adjacent, quotient}

-- the quotient has a vertex for each block
pub quotient-order : (g : Graph) (p : List (List ℕ)) → (quotient g p).order ≡ length p
unfolding quotient
quotient-order g p = refl

-- each edge of the quotient joins two adjacent places in increasing order
pub quotient_edge : (g : Graph) (p : List (List ℕ)) (e : ℕ) → Within (size (quotient g p)) e →
    Within (length p) (first_end (quotient g p) e) × Within (length p) (second_end (quotient g p) e) × (first_end (quotient g p) e < second_end (quotient g p) e) × (blocks_adjacent g p (first_end (quotient g p) e) (second_end (quotient g p) e) ≡ true)
unfolding quotient
quotient_edge g p e w =
    let h = pair_filter (blocks_adjacent g p) (rising_pairs (length p)) _ _ (at_pair (quotient g p).ends (e - 1) (omega arith)) in
    let r = rows_only (length p) _ _ (rising_list (length p) everything) h.0 in
    let q = rising_only (length p) everything _ r.0 in
    (q.0, r.1, grind (arith, nat_tests, h), h.1)

-- and any two adjacent places have an edge
pub edge_of_pair : (g : Graph) (p : List (List ℕ)) (i j : ℕ) → Within (length p) i → Within (length p) j → i < j → blocks_adjacent g p i j ≡ true → (e : ℕ) × Within (size (quotient g p)) e × (first_end (quotient g p) e ≡ i) × (second_end (quotient g p) e ≡ j)
unfolding quotient
edge_of_pair g p i j wi wj l h =
    let r = pair_at (quotient g p).ends i j (filter_pair (blocks_adjacent g p) (rising_pairs (length p)) i j (rows_hold (length p) i j (rising_list (length p) everything) (rising_holds (length p) everything i wi refl) wj (test i j l)) h) in
    let b = r.1 in
    let e : suc r.0 - 1 ≡ r.0 = omega arith in
    (suc r.0, (omega arith, omega arith), ap (λ k. (get_or (quotient g p).ends k (0, 0)).0) e ∙ r.2, ap (λ k. (get_or (quotient g p).ends k (0, 0)).1) e ∙ r.3)
  where
    test : (a b : ℕ) → a < b → nat_lt a b ≡ true
    test a b h = grind (arith, nat_tests, h)
