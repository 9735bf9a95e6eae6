-- A matching with an edge more, between two vertices that it does not meet, and what a row that
-- was read says of a matching's ends.
use Rattle.graph_core.proofs.from_counting.Common.{◌≡◌, ℕ, suc, zero, ◌+◌, ◌*◌, ◌<◌, true, false, ◌==◌, ◌||◌, refl, sym, ap, ◌∙◌, arith, List, [], ◌∷◌, inl, ne_eqb, Some, length, slice_get, both_ways, set-narrower, Within, bit, Set, put, IsRisingIn, mem}
use Rattle.graph_core.proofs.Common.{Graph, IsGraph, IsMultigraph, degree, first_end, second_end, size, IsMatching, missed_count, add_edge}
use Rattle.match_core.specs.Common.{IsOf, KeepsMatching, MatchingValue, edges_of, ends_at}
use Rattle.match_core.specs.declared.matching.MatchRow.{MatchRow}
use Rattle.allowed_edges.specs.Leaving.{IsMatchingOff}
use Rattle.match_core.proofs.from_match_search.Alike.{matching_alike}
use Rattle.match_core.proofs.ClearedMatchings.{left_size}
use Rattle.match_core.proofs.from_match_search.GrownRows.{with_put}
use Rattle.match_core.proofs.MatchingEdges.{degree-ends_at, rows-rise}

-- each row has its ends in x: then no row is at a vertex outside x
abbrev pub EndsIn : Set → List MatchRow → Type 0
EndsIn x rows = (i : ℕ) (row : MatchRow) → slice_get rows i ≡ Some row → (x row.a ≡ true) × (x row.b ≡ true)

pub ends_outside : (x : Set) (rows : List MatchRow) → EndsIn x rows → (v : ℕ) → x v ≡ false → ends_at rows v ≡ 0
ends_outside x [] ends v out = refl
ends_outside x (row ∷ rows) ends v out =
    let here = ends 0 row refl in
    let a = ap bit (ne_eqb row.a v (λ q. both_ways (x v) out (sym (ap x q) ∙ here.0))) in
    let b = ap bit (ne_eqb row.b v (λ q. both_ways (x v) out (sym (ap x q) ∙ here.1))) in
    let r = ends_outside x rows (λ i d h. ends (suc i) d h) v out in
    omega arith

-- a test of a sum is one of its part
pub same_zero : (k a o : ℕ) → k + a ≡ o → (a == o) ≡ (k == 0)
same_zero k a o h = grind arith

module _ (g : Graph) (m : MatchingValue) (of : IsOf g m) (keeps : KeepsMatching m) where
  -- a vertex at which no row is has no edge
  pub no_edge : (v : ℕ) → ends_at m.rows v ≡ 0 → degree g (mem (edges_of m)) v ≡ 0
  no_edge v h = degree-ends_at g m.rows of.rows (rows-rise g m of keeps) v ∙ h

  -- the matching with an edge between two vertices outside r at which no row is
  pub longer_matching : (r : Set) (k : ℕ) (n : Set) → IsMultigraph g → IsMatching g r (mem (edges_of m)) → Within (size g) k → r (first_end g k) ≡ false → r (second_end g k) ≡ false →
      ends_at m.rows (first_end g k) ≡ 0 → ends_at m.rows (second_end g k) ≡ 0 → ((i : ℕ) → n i ≡ (mem (edges_of m) i || (k == i))) → IsMatching g r n
  longer_matching r k n is mm wk ra rb fa fb h =
      matching_alike g r (put (mem (edges_of m)) k true) n (λ e we. h e ∙ with_put (mem (edges_of m)) k e)
      (add_edge g r (mem (edges_of m)) k (first_end g k) (second_end g k) mm wk (is.no_loop k wk) ra rb (inl (refl, refl)) (no_edge (first_end g k) fa) (no_edge (second_end g k) fb)).0

-- what a matching of g - met misses, with its ends and with met, are all vertices
pub off_size : (g : Graph) (met : List ℕ) (m : MatchingValue) → IsGraph g → IsRisingIn 128 met → KeepsMatching m → IsMatchingOff g met m → missed_count g (mem met) (mem (edges_of m)) + 2 * length m.rows + length met ≡ g.order
off_size g met m is rises keeps off = left_size g met m is (set-narrower 128 g.order met rises (λ v t. (off.within v t).1)) off.of keeps off.matching

-- a matching of the graph without more vertices
pub fewer_removed : (g : Graph) (r s m : Set) → ((v : ℕ) → s v ≡ true → r v ≡ true) → IsMatching g r m → IsMatching g s m
fewer_removed g r s m h mm = record { once = mm.once; away = λ v w t. mm.away v w (h v t) }

-- a place that is read is one of the list
pub get_below : (rows : List MatchRow) (i : ℕ) (row : MatchRow) → slice_get rows i ≡ Some row → i < length rows
get_below [] i row h = cc
get_below (r ∷ rows) zero row h = omega arith
get_below (r ∷ rows) (suc i) row h = let b = get_below rows i row h in omega arith
