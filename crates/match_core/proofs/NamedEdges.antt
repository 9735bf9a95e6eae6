-- The row of mates names an edge of the matching at each vertex that it meets. What does a row say?
-- The other end of the edge at a vertex, that a perfect matching has one at each, and which
-- vertices the matching misses.
use Rattle.graph_core.proofs.from_counting.Common.{◌≡◌, ℕ, ◌-◌, ◌≢◌, true, false, cond, ◌==◌, ◌&&◌, not, arith, List, [], length, nat_lt, nat_le, lt-ltb, le-leb, and_parts, total_none, Within, Set, mem}
use Rattle.graph_core.proofs.Common.{graph_of, HasEnds, size, IsPerfect, missed_count}
use Rattle.graph_core.specs.declared.ends.Ends.{Ends}
use Rattle.match_search.specs.Common.{NamesEdges, numbers, end_a, end_b, Misses}
use Rattle.match_search.proofs.LongerPaths.{ends_by}
use Rattle.match_search.proofs.GraphRows.{free_degree, missed_degree, pair_is}

-- the row of mates names an edge of the matching at a vertex, and the vertex at its other end
pub mate_pair : (n : ℕ) (ends : List Ends) (m : Set) (at : List ℕ) → NamesEdges ends m at (length ends) → (v a w : ℕ) → a ≡ numbers at v → a ≢ 0 → w ≡ cond (end_a ends (a - 1) == v) (end_b ends (a - 1)) (end_a ends (a - 1)) →
    Within (size (graph_of n ends)) a × (m a ≡ true) × HasEnds (graph_of n ends) a v w
mate_pair n ends m at named v a w q some other = grind (arith, pair_is n ends m at named v, ends_by (graph_of n ends))

-- a perfect matching has an edge at each vertex that is not removed
pub perfect_named : (n : ℕ) (ends : List Ends) (r m : Set) (at : List ℕ) → NamesEdges ends m at (length ends) → IsPerfect (graph_of n ends) r m → (v : ℕ) → Within n v → r v ≡ false → numbers at v ≢ 0
perfect_named n ends r m at named perfect v w rv z = let a = missed_degree n ends m at named v z in let b = perfect.once v w rv in absurd (omega arith)

-- the free vertices are the missed ones
module _ (n : ℕ) (ends : List Ends) (r m : Set) (at : List ℕ) (named : NamesEdges ends m at (length ends)) (free : List ℕ) (free_is : (v : ℕ) → mem free v ≡ ((nat_lt 0 v && nat_le v n) && (not (r v) && (numbers at v == 0)))) where
  pub free_misses : (v : ℕ) → mem free v ≡ true → Misses (graph_of n ends) r m v
  free_misses v t = grind (arith, and_parts, nat_lt, nat_le, missed_degree)

  pub none_free : free ≡ [] → missed_count (graph_of n ends) r m ≡ 0
  unfolding missed_count
  none_free q = grind (arith, total_none n, free_degree n ends m at named, nat_lt 0, nat_le, lt-ltb 0, le-leb)
