-- Each edge of the quotient has a least remembered edge, and the places that are marked row by row
-- are the lifted matching. A list of rows is read row by row; a row is found by its edge.
use Rattle.graph_core.proofs.from_counting.Common.{◌≡◌, ℕ, ◌+◌, ◌<◌, Bool, true, false, ◌&&◌, ◌||◌, ◌==◌, List, [], ◌∷◌, length, map, take, get_or, refl, ap, ◌∙◌, inl, inr, eq-eqb, eqb-true, All, Some, slice_get, slice_index, arith, slice_get_within, list_any, and_from, and_parts, both_ways, or_cases, or_right, or_left, take_more, All-head, All-tail, list_any-append, get_or_from_slice_get, rising_list-congr, some_congr, some_true, true_some, or_false, same_tests, Within, item, mem, rising_list, Set, some}
use Rattle.graph_core.proofs.Common.{Graph, size, lifted, quotient, remembered, AreBlocks}
use Rattle.match_core.proofs.MatchingEdges.{edge_of}
use Rattle.match_core.specs.declared.matching.MatchRow.{MatchRow}
use Rattle.contraction.proofs.ContractedValues.{item-remembered}
use Rattle.contraction.proofs.LiftedMatchings.{least-remembered, remembered-some}
use Rattle.contraction.specs.Contracted.{ContractedValue, KeepsContraction, contraction}
use Rattle.contraction.specs.LeastEdges.{least_at}

-- the list of remembered edges is not empty
pub some-least : (q : ContractedValue) (k : ℕ) → KeepsContraction q → Within (size q.graph) k → 0 < length (item q.edges k)
some-least q k keeps w = grind (arith, item-remembered keeps.base q.blocks q k keeps.is w, remembered-some keeps.base q.blocks keeps.limits.multigraph.ends keeps.partition.partition k)

pub least-is : (g : Graph) (p : List (List ℕ)) (q : ContractedValue) (k : ℕ) → q ≡ contraction g p → Within (size q.graph) k → least_at q k ≡ slice_index (remembered g p k) 0
least-is g p q k is w = ap (λ (es : List ℕ). slice_index es 0) (item-remembered g p q k is w)

-- the least remembered edge is an edge of the graph
pub least-within : (q : ContractedValue) (k : ℕ) → KeepsContraction q → Within (size q.graph) k → Within q.size (least_at q k)
least-within q k keeps w = grind (arith, least-remembered keeps.base q.blocks keeps.limits.multigraph.ends keeps.partition.partition k, least-is keeps.base q.blocks q k keeps.is w)

-- one more row
pub any-more : (t : MatchRow → Bool) (rows : List MatchRow) (i : ℕ) (row : MatchRow) → slice_get rows i ≡ Some row → list_any t (take (i + 1) rows) ≡ (list_any t (take i rows) || t row)
any-more t rows i row q =
    ap (list_any t) (take_more rows i row (slice_get_within rows i row q))
    ∙ list_any-append t (take i rows) (get_or rows i row ∷ [])
    ∙ ap (λ (b : Bool). list_any t (take i rows) || b) (or_false (t (get_or rows i row)) ∙ ap t (get_or_from_slice_get rows i row row q))

-- some row passes if and only if some edge of the rows does
pub any-edge : (n : ℕ) (t : ℕ → Bool) (rows : List MatchRow) → All (λ (row : MatchRow). Within n row.edge) rows → list_any (λ (row : MatchRow). t row.edge) rows ≡ some n (λ k. mem (map edge_of rows) k && t k)
any-edge n t rows all = same_tests _ _ (there rows all) (λ h. let r = some_true n (λ k. mem (map edge_of rows) k && t k) h in let b = and_parts (mem (map edge_of rows) r.0) (t r.0) r.2 in back rows r.0 b.0 b.1)
  where
    wider : (row : MatchRow) (rows : List MatchRow) → some n (λ k. mem (map edge_of rows) k && t k) ≡ true → some n (λ k. mem (map edge_of (row ∷ rows)) k && t k) ≡ true
    wider row rows h = let r = some_true n (λ k. mem (map edge_of rows) k && t k) h in let b = and_parts (mem (map edge_of rows) r.0) (t r.0) r.2 in
        true_some n (λ k. mem (map edge_of (row ∷ rows)) k && t k) r.0 r.1 (and_from (mem (map edge_of (row ∷ rows)) r.0) (t r.0) (or_right (row.edge == r.0) (mem (map edge_of rows) r.0) b.0) b.1)

    there : (rows : List MatchRow) → All (λ (row : MatchRow). Within n row.edge) rows → list_any (λ (row : MatchRow). t row.edge) rows ≡ true → some n (λ k. mem (map edge_of rows) k && t k) ≡ true
    there [] all h = absurd (both_ways false refl h)
    there (row ∷ rows) all h = elim (or_cases (t row.edge) (list_any (λ (row : MatchRow). t row.edge) rows) h) [
      | inl a ↦ true_some n (λ k. mem (map edge_of (row ∷ rows)) k && t k) row.edge (All-head (λ (row : MatchRow). Within n row.edge) row rows all)
          (and_from (mem (map edge_of (row ∷ rows)) row.edge) (t row.edge) (or_left (row.edge == row.edge) (mem (map edge_of rows) row.edge) (eq-eqb row.edge row.edge refl)) a)
      | inr b ↦ wider row rows (there rows (All-tail (λ (row : MatchRow). Within n row.edge) row rows all) b)
    ]

    back : (rows : List MatchRow) (k : ℕ) → mem (map edge_of rows) k ≡ true → t k ≡ true → list_any (λ (row : MatchRow). t row.edge) rows ≡ true
    back [] k m h = absurd (both_ways false refl m)
    back (row ∷ rows) k m h = elim (or_cases (row.edge == k) (mem (map edge_of rows) k) m) [
      | inl a ↦ or_left (t row.edge) (list_any (λ (row : MatchRow). t row.edge) rows) (ap t (eqb-true row.edge k a) ∙ h)
      | inr b ↦ or_right (t row.edge) (list_any (λ (row : MatchRow). t row.edge) rows) (back rows k b h)
    ]

-- the marked edges are the lifted matching
pub marked-lifted : (g : Graph) (p : List (List ℕ)) (q : ContractedValue) (rows : List MatchRow) (marked : Set) → q ≡ contraction g p → All (λ (row : MatchRow). Within (size q.graph) row.edge) rows →
    ((e : ℕ) → marked e ≡ list_any (λ (row : MatchRow). least_at q row.edge == e) rows) → rising_list q.size marked ≡ lifted g p (mem (map edge_of rows))
marked-lifted g p q rows marked is all each =
    ap (λ n. rising_list n marked) (ap (λ (r : ContractedValue). r.size) is)
    ∙ rising_list-congr (size g) marked _ (λ e w. each e ∙ any-edge (size q.graph) (λ k. least_at q k == e) rows all ∙ same e)
  where
    sizes : size q.graph ≡ size (quotient g p)
    sizes = ap (λ (r : ContractedValue). size r.graph) is

    same : (e : ℕ) → some (size q.graph) (λ k. mem (map edge_of rows) k && (least_at q k == e)) ≡ some (size (quotient g p)) (λ k. mem (map edge_of rows) k && (slice_index (remembered g p k) 0 == e))
    same e = some_congr (size q.graph) _ _ (λ k w. ap (λ f. mem (map edge_of rows) k && (f == e)) (least-is g p q k is w)) ∙ ap (λ n. some n (λ k. mem (map edge_of rows) k && (slice_index (remembered g p k) 0 == e))) sizes

-- the blocks of a quotient's value are a partition of the graph that it is of
pub blocks-of : (g : Graph) (p : List (List ℕ)) (q : ContractedValue) → KeepsContraction q → q ≡ contraction g p → AreBlocks g.order p
blocks-of g p q keeps is = grind arith
