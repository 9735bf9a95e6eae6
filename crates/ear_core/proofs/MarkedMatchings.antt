-- A perfect matching by marked edges, from one of the graph of these edges: it holds the edges
-- whose rank among the marked ones is an edge of that one. A perfect matching that holds them all
-- has no other edge.
use Rattle.graph_core.proofs.from_counting.Common.{◌≡◌, ℕ, suc, zero, ◌+◌, ◌==◌, ◌||◌, refl, sym, ap, ◌∙◌, arith, eq-eqb, List, [], ◌∷◌, drop, map, Some, All, get_or, slice_get, and_parts, or_left, true≢false, rising_holds, rising_only, mem-item, Within, count, mem, rising_list, Set, none}
use Rattle.graph_core.proofs.Common.{degree_congr, edge_at, Graph, IsGraph, first_end, second_end, size, with_ends, HasPerfect, IsPerfect}
use Rattle.two_ears.specs.from_match_core.declared.matching.MatchRow.{MatchRow}
use Rattle.two_ears.specs.from_match_search.Common.{HasPerfectWith, HoldsAll}
use Rattle.ear_core.proofs.EngineGraphs.{listed_degree, rank_of, same_rank}
use Rattle.ear_core.proofs.Mates.{one-at}
use Rattle.ear_core.specs.Common.{IsPerfectBy, by_rank, listed}

-- the rows from a place on, by their edges
edges-behind : (rows : List MatchRow) (i : ℕ) (row : MatchRow) (e : ℕ) → slice_get rows i ≡ Some row → mem (map (λ (r : MatchRow). r.edge) (drop i rows)) e ≡ ((row.edge == e) || mem (map (λ (r : MatchRow). r.edge) (drop (suc i) rows)) e)
edges-behind [] i row e is = cc
edges-behind (r ∷ rows) zero row e is = let same : r ≡ row = cc in ap (λ (x : MatchRow). (x.edge == e) || mem (map (λ (r : MatchRow). r.edge) rows) e) same
edges-behind (r ∷ rows) (suc i) row e is = edges-behind rows i row e is

pub edges-at : (rows : List MatchRow) (i : ℕ) (row : MatchRow) (e : ℕ) → slice_get rows i ≡ Some row → mem (map (λ (r : MatchRow). r.edge) (drop i rows)) e ≡ ((row.edge == e) || mem (map (λ (r : MatchRow). r.edge) (drop (i + 1) rows)) e)
edges-at rows i row e is = let next : suc i ≡ i + 1 = omega arith in edges-behind rows i row e is ∙ ap (λ k. (row.edge == e) || mem (map (λ (r : MatchRow). r.edge) (drop k rows)) e) next

module _ (g : Graph) (f : Set) where
  -- by rank
  pub marked-perfect : (m : Set) → IsPerfect (with_ends g (listed g f (size g))) none m → IsPerfectBy g f (by_rank f m)
  marked-perfect m p = record {
    perfect = record { once = λ v w o. sym (listed_degree g f m v (size g)) ∙ p.once v w o; away = λ v w o. absurd (true≢false (sym o)) };
    part = λ e w t. (and_parts (f e) (m (count e f)) t).0;
  }

  -- and back
  pub marked-listed : (m : Set) → IsPerfectBy g f m → HasPerfect (with_ends g (listed g f (size g))) none
  marked-listed m p = (
    rank_of g f none m,
    record {
      once = λ v w o. listed_degree g f (rank_of g f none m) v (size g) ∙ degree_congr g (by_rank f (rank_of g f none m)) m v (same_rank g f none m p.part) ∙ p.perfect.once v w o;
      away = λ v w o. absurd (true≢false (sym o));
    },
  )

  module _ (m : Set) (perfect : IsPerfect (with_ends g (listed g f (size g))) none m) where
    -- the list of these edges
    pub listed-within : All (Within (size g)) (rising_list (size g) (by_rank f m))
    listed-within k d less = let r = rising_only (size g) (by_rank f m) (get_or (rising_list (size g) (by_rank f m)) k d) (mem-item (rising_list (size g) (by_rank f m)) k d less) in r.0

    pub listed-found : HasPerfectWith g (rising_list (size g) (by_rank f m))
    listed-found = (by_rank f m, (marked-perfect m perfect).perfect, λ e t. (rising_only (size g) (by_rank f m) e t).1)

    -- a perfect matching that holds all of them
    pub held-marked : IsGraph g → (k : Set) → IsPerfect g none k → HoldsAll (rising_list (size g) (by_rank f m)) k → IsPerfectBy g f k
    held-marked is k whole holds = record {
      perfect = whole;
      part = λ e w t.
          let p = marked-perfect m perfect in
          let v = first_end g e in
          let d = edge_at g (by_rank f m) v (let a = p.perfect.once v (is e w).0 refl in omega arith) in
          let held = holds d.0 (rising_holds (size g) (by_rank f m) d.0 d.1 d.2) in
          ap f (one-at g k whole v e d.0 (is e w).0 w d.1 t held (or_left (first_end g e == v) (second_end g e == v) (eq-eqb v v refl)) (grind arith)) ∙ p.part d.0 d.1 d.2;
    }
