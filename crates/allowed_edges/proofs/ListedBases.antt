-- A listed matching that contains an edge. It is one of the list, so it is perfect; and a row with
-- the edge is a place of it in the list of its edges.
use Rattle.graph_core.proofs.from_counting.Common.{◌≡◌, ℕ, suc, zero, ◌<◌, true, ◌==◌, List, [], ◌∷◌, length, get_or, map, sym, ap, ◌∙◌, arith, eq-eqb, subst, Some, slice_get, get_or-map, length-map, or_left, or_right, mem, none}
use Rattle.graph_core.proofs.Common.{Graph, IsPerfect}
use Rattle.match_core.specs.Common.{IsOf, MatchingValue, edges_of}
use Rattle.match_core.specs.declared.matching.MatchRow.{MatchRow}
use Rattle.match_core.proofs.MatchingEdges.{edge_of}
use Rattle.allowed_edges.specs.PairTables.{IsPerfectWith, PairsValue, SettlesEdges}

-- the edge of a row is one of the matching's
pub edge_held : (rows : List MatchRow) (i : ℕ) (row : MatchRow) (e : ℕ) → slice_get rows i ≡ Some row → row.edge ≡ e → mem (map edge_of rows) e ≡ true
edge_held [] i row e q h = cc
edge_held (r ∷ rows) zero row e q h = let s : r ≡ row = cc in or_left (r.edge == e) (mem (map edge_of rows) e) (eq-eqb r.edge e (ap edge_of s ∙ h))
edge_held (r ∷ rows) (suc i) row e q h = or_right (r.edge == e) (mem (map edge_of rows) e) (edge_held rows i row e q h)

-- a listed matching is perfect
pub listed_with : (g : Graph) (k e : ℕ) (p : PairsValue) → SettlesEdges g k p → (i : ℕ) (m : MatchingValue) → i < length p.list → m ≡ get_or p.list i m → mem (edges_of m) e ≡ true → IsPerfectWith g e m
listed_with g k e p s i m l q held =
    let n = length-map p.list edges_of in
    record {
      of = subst (IsOf g) (sym q) (s.of i m l);
      perfect = subst (λ (es : List ℕ). IsPerfect g none (mem es)) (get_or-map edges_of p.list i m [] l ∙ ap edges_of (sym q)) (s.grown.perfect i [] (omega arith));
      held = held;
    }
