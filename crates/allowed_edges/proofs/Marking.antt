-- Marks set at the places of the edges of a matching, row by row.
-- By induction on the rows, and by cases on the place that is asked for.
use Rattle.graph_core.proofs.from_counting.Common.{◌≡◌, ℕ, suc, zero, ◌<◌, Bool, true, false, ◌||◌, ◌==◌, List, [], ◌∷◌, length, map, take, ap, ◌∙◌, arith, eq-eqb, ne_eqb, rules, get_or-set_same, get_or-set_other, subst, All, Some, slice_get, slice_set, All-get_or, slice_get_within, get_or_from_slice_get, cases_eq, or_right, or_false, mem}
use Rattle.match_core.proofs.MatchingEdges.{edge_of}
use Rattle.match_core.specs.from_match_search.Common.{marks}
use Rattle.match_core.specs.declared.matching.MatchRow.{MatchRow}

-- one place more is marked
pub marks-set : (xs : List Bool) (e j : ℕ) → e < length xs → marks (slice_set xs e true) j ≡ (marks xs j || (e == j))
marks-set xs e j l = grind (arith, cases_eq, slice_set, get_or-set_same, or_right, eq-eqb, get_or-set_other, ne_eqb, or_false)

-- a row of the list has an edge below the bound of all
pub edge-below : (n : ℕ) (rows : List MatchRow) (i : ℕ) (row : MatchRow) → All (λ (r : MatchRow). r.edge < n) rows → slice_get rows i ≡ Some row → row.edge < n
edge-below n rows i row all q = subst (λ (r : MatchRow). r.edge < n) (get_or_from_slice_get rows i row row q) (All-get_or (λ (r : MatchRow). r.edge < n) rows i row (slice_get_within rows i row q) all)

-- as many marks as before
pub length-marked : (xs : List Bool) (e : ℕ) → length (slice_set xs e true) ≡ length xs
length-marked xs e = search rules

-- one more row is taken
pub edges-more : (rows : List MatchRow) (i : ℕ) (row : MatchRow) (j : ℕ) → slice_get rows i ≡ Some row → mem (map edge_of (take (suc i) rows)) j ≡ (mem (map edge_of (take i rows)) j || (row.edge == j))
edges-more [] i row j q = cc
edges-more (r ∷ rows) zero row j q = let e : r ≡ row = cc in ap (λ (r : MatchRow). (r.edge == j) || false) e ∙ (grind arith)
edges-more (r ∷ rows) (suc i) row j q = ap (λ b. (r.edge == j) || b) (edges-more rows i row j q) ∙ assoc (r.edge == j) (mem (map edge_of (take i rows)) j) (row.edge == j)
  where
    assoc : (a b d : Bool) → (a || (b || d)) ≡ ((a || b) || d)
    assoc a b d = grind arith
