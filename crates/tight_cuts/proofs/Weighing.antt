-- Counting how often the matchings of a list hold each edge, row by row.
-- Idea: the edges of a matching rise, so the edge of a row is in no earlier row.
use Rattle.graph_core.proofs.from_counting.Common.{◌≡◌, ℕ, suc, zero, ◌+◌, ◌≤◌, ◌<◌, true, false, ◌||◌, ◌==◌, List, [], ◌∷◌, length, map, take, refl, sym, ap, ◌∙◌, arith, inl, inr, eq-eqb, ne_eqb, get_or, get_or-set_same, get_or-set_other, rules, Some, slice_get, slice_set, slice_get_read, cases_eq, or_left, or_right, or_from, both_ways, sum_by-cons, Rises, mem_low, rises-from_set, bit_le_one, or_false, bit, mem}
use Rattle.std.proofs.Math.ListN.{replicate}
use Rattle.barrier_kit.proofs.from_allowed_edges.Marking.{edges-more}
use Rattle.barrier_kit.specs.from_allowed_edges.PairTables.{AreGrown, PairsValue, edge_lists}
use Rattle.graph_core.proofs.Common.{Graph, size, IsWithinLimits}
use Rattle.tight_cuts.proofs.EdgeShores.{total_small}
use Rattle.tight_cuts.proofs.LeanLists.{grown_length}
use Rattle.barrier_kit.proofs.from_match_core.MatchingEdges.{edge_of}
use Rattle.barrier_kit.specs.from_match_core.Common.{KeepsMatching, MatchingValue, edges_of}
use Rattle.barrier_kit.specs.from_match_core.declared.matching.MatchRow.{MatchRow}
use Rattle.tight_cuts.specs.Common.{at_place, weight}

-- the edge of a row is one of the edges
row-held : (rows : List MatchRow) (i : ℕ) (row : MatchRow) → slice_get rows i ≡ Some row → mem (map edge_of rows) row.edge ≡ true
row-held [] i row q = absurd cc
row-held (r ∷ rows) zero row q = let e : r ≡ row = cc in or_left (r.edge == row.edge) (mem (map edge_of rows) row.edge) (eq-eqb r.edge row.edge (ap edge_of e))
row-held (r ∷ rows) (suc i) row q = or_right (r.edge == row.edge) (mem (map edge_of rows) row.edge) (row-held rows i row q)

-- and of none before it
row-fresh : (low n : ℕ) (rows : List MatchRow) (i : ℕ) (row : MatchRow) → Rises low n (map edge_of rows) → slice_get rows i ≡ Some row → mem (map edge_of (take i rows)) row.edge ≡ false
row-fresh low n [] i row r q = absurd cc
row-fresh low n (s ∷ rows) zero row r q = refl
row-fresh low n (s ∷ rows) (suc i) row r q =
    or_from (s.edge == row.edge) (mem (map edge_of (take i rows)) row.edge)
    (ne_eqb s.edge row.edge (λ e. both_ways (mem (map edge_of rows) row.edge) (mem_low (s.edge + 1) n (map edge_of rows) r.2 row.edge (omega arith)) (row-held rows i row q)))
    (row-fresh (s.edge + 1) n rows i row r.2 q)

module _ (old now : List ℕ) (m : MatchingValue) (keeps : KeepsMatching m) (i : ℕ) (row : MatchRow) (q : slice_get m.rows i ≡ Some row)
    (h : (e : ℕ) → at_place now e ≡ at_place old e + bit (mem (map edge_of (take i m.rows)) e)) where
  -- what the row's edge had before
  pub edge-before : at_place now row.edge ≡ at_place old row.edge
  edge-before = let f = ap bit (row-fresh 1 2048 m.rows i row (rises-from_set 2048 (edges_of m) keeps.edges) q) in let e = h row.edge in omega arith

  -- one row more is counted
  pub counts-more : row.edge < length now → (e : ℕ) → at_place (slice_set now row.edge (at_place now row.edge + 1)) e ≡ at_place old e + bit (mem (map edge_of (take (i + 1) m.rows)) e)
  counts-more l e =
      let next : suc i ≡ i + 1 = omega arith in
      let more : mem (map edge_of (take (i + 1) m.rows)) e ≡ (mem (map edge_of (take i m.rows)) e || (row.edge == e)) = ap (λ k. mem (map edge_of (take k m.rows)) e) (sym next) ∙ edges-more m.rows i row e q in
      elim (cases_eq row.edge e) [
        | inl d ↦ grind (arith, slice_set, get_or-set_same, edge-before, or_right, edge_of, eq-eqb)
        | inr d ↦ grind (arith, get_or-set_other, edge_of, ne_eqb, or_false)
      ]

-- one matching more
pub weight-more : (list : List MatchingValue) (i : ℕ) (m : MatchingValue) (e : ℕ) → slice_get list i ≡ Some m → weight (map edges_of (take (suc i) list)) e ≡ weight (map edges_of (take i list)) e + bit (mem (edges_of m) e)
weight-more [] i m e q = absurd cc
weight-more (k ∷ list) zero m e q = let d : k ≡ m = cc in let s = sum_by-cons (λ es. bit (mem es e)) (edges_of k) [] in let t = ap (λ (k : MatchingValue). bit (mem (edges_of k) e)) d in omega arith
weight-more (k ∷ list) (suc i) m e q = search (rules, sum_by-cons, weight-more list i m e q)

pub weight-next : (list : List MatchingValue) (i : ℕ) (m : MatchingValue) (e : ℕ) → i < length list → m ≡ get_or list i m → weight (map edges_of (take (i + 1) list)) e ≡ weight (map edges_of (take i list)) e + bit (mem (edges_of m) e)
weight-next list i m e l is = grind (arith, weight-more list i m e (slice_get_read list (length list) i m refl l is), slice_get_read list (length list) i m refl l is)

-- nothing is counted yet
pub zeros : (n e : ℕ) → at_place (replicate n 0) e ≡ 0
zeros zero e = refl
zeros (suc n) zero = refl
zeros (suc n) (suc e) = zeros n e

-- at most one a matching
pub weight-taken : (list : List MatchingValue) (i e : ℕ) → weight (map edges_of (take i list)) e ≤ i
weight-taken list zero e = omega arith
weight-taken [] (suc i) e = omega arith
weight-taken (k ∷ list) (suc i) e = search (rules, sum_by-cons, weight-taken list i e, bit_le_one (mem (edges_of k) e))

pub take-whole : (list : List MatchingValue) (i : ℕ) → length list ≤ i → take i list ≡ list
take-whole [] zero l = refl
take-whole [] (suc i) l = refl
take-whole (k ∷ list) zero l = absurd (omega arith)
take-whole (k ∷ list) (suc i) l = ap (λ ys. k ∷ ys) (take-whole list i (omega arith))

pub map-length : (list : List MatchingValue) → length (map edges_of list) ≡ length list
map-length [] = refl
map-length (k ∷ list) = let i = map-length list in omega arith

-- as many places as before
pub length-counted : (xs : List ℕ) (e v : ℕ) → length (slice_set xs e v) ≡ length xs
length-counted xs e v = search rules

-- a lean list of perfect matchings of a graph within the limits has at most 2^22 matchings
pub list-small : (g : Graph) (pairs : PairsValue) → IsWithinLimits g → AreGrown g (edge_lists pairs) → length pairs.list ≤ 4194304
list-small g pairs lim grown = grind (arith, grown_length (edge_lists pairs) (size g) grown.rising grown.lean, total_small (size g), map-length pairs.list)
