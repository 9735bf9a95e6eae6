-- The edges of the rows of a matching are a matching: a vertex occurs in the rows as often as edges
-- meet it. A degree is a sum over the edges in the set, and that sum goes along the increasing list
-- of the rows.
use Rattle.graph_core.proofs.from_counting.Common.{length, inr, eqb-true, ◌||◌, ◌≡◌, ℕ, suc, ◌+◌, ◌≤◌, Bool, false, ◌==◌, refl, sym, ap, ap₂, ◌∙◌, arith, List, [], ◌∷◌, ◌++◌, map, filter, cond, subst, inl, All, sum_by, slice_index_or, rules, All-filter, both_ways, cases_Bool, false_from_ne_true, or_cases, map-append, All-map, sum_by-cons, Rises, total_mem, rises-from_set, rising_holds, rising_only, mem-within, set-from_rises, rising_list-rises, mem-rising_list, Within, bit, Set, none, mem, rising_list, IsRisingIn}
use Rattle.graph_core.proofs.Common.{degree_congr, degree_sum, ends_of, Graph, IsGraph, degree, size, IsMatching, graph_of}
use Rattle.graph_core.specs.declared.ends.Ends.{Ends}
use Rattle.match_search.proofs.WholeGraphs.{whole_graph, whole_size}
use Rattle.match_core.specs.Common.{MatchingValue, KeepsMatching, IsOf, IsRowOf, edges_of, ends_at, row_at}
use Rattle.match_core.specs.declared.matching.MatchRow.{MatchRow}

-- the edge of a row
abbrev pub edge_of : MatchRow → ℕ
edge_of row = row.edge

pub edges-row_at : (g : Graph) (es : List ℕ) → map edge_of (map (row_at g) es) ≡ es
edges-row_at g [] = refl
edges-row_at g (e ∷ es) = ap (λ t. e ∷ t) (edges-row_at g es)

-- the rows in the edges' own words
ends_at-sum : (g : Graph) (rows : List MatchRow) (v : ℕ) → All (IsRowOf g) rows → ends_at rows v ≡ sum_by (λ e. ends_of g e v) (map edge_of rows)
unfolding ends_of
ends_at-sum g [] v all = refl
ends_at-sum g (row ∷ rows) v all =
    let is = all 0 row (omega arith) in
    ap₂ ◌+◌ (ap₂ (λ a b. bit (a == v) + bit (b == v)) is.first is.second) (ends_at-sum g rows v (λ k d h. all (suc k) d (omega arith))) ∙ sym (sum_by-cons (λ e. ends_of g e v) row.edge (map edge_of rows))

pub degree-ends_at : (g : Graph) (rows : List MatchRow) → All (IsRowOf g) rows → IsRisingIn (size g) (map edge_of rows) → (v : ℕ) → degree g (mem (map edge_of rows)) v ≡ ends_at rows v
degree-ends_at g rows all rises v = grind (arith, degree_sum g (mem (map edge_of rows)) v, total_mem 1 (size g), ends_of g, rises-from_set (size g) (map edge_of rows) rises, ends_at-sum g rows v all)

-- the edges of rows of g are edges of g
pub rows-rise : (g : Graph) (m : MatchingValue) → IsOf g m → KeepsMatching m → IsRisingIn (size g) (edges_of m)
rows-rise g m of keeps = record { rising = keeps.edges.rising; within = All-map (Within (size g)) edge_of m.rows (λ k d h. (of.rows k d h).edge) }

-- the edges of a matching of g are a matching of g
pub rows-matching : (g : Graph) (m : MatchingValue) → IsOf g m → KeepsMatching m → IsMatching g none (mem (edges_of m))
rows-matching g m of keeps = record {
  once = λ v w. let a = degree-ends_at g m.rows of.rows (rows-rise g m of keeps) v in let o = of.order in let b = keeps.once v (omega arith) in omega arith;
  away = λ v w q. cc;
}

-- the marked edges as rows
abbrev pub marked_matching : Graph → Set → MatchingValue
marked_matching g m = record { order = g.order; rows = map (row_at g) (rising_list (size g) m) }

pub marked-of : (g : Graph) (m : Set) → IsOf g (marked_matching g m)
marked-of g m = record {
  order = refl;
  rows = All-map (IsRowOf g) (row_at g) (rising_list (size g) m) (λ k d h. record { edge = (rising_list-rises (size g) m).within k d h; first = refl; second = refl });
}

pub marked-edges : (g : Graph) (m : Set) → edges_of (marked_matching g m) ≡ rising_list (size g) m
marked-edges g m = edges-row_at g (rising_list (size g) m)

pub marked-keeps : (g : Graph) (m : Set) → IsGraph g → g.order ≤ 128 → size g ≤ 2048 → IsMatching g none m → KeepsMatching (marked_matching g m)
marked-keeps g m is few short mm = record {
  few = few;
  edges = subst (IsRisingIn 2048) (sym (marked-edges g m)) (record { rising = (rising_list-rises (size g) m).rising; within = λ k d h. let w = (rising_list-rises (size g) m).within k d h in (w.0, omega arith) });
  within = All-map (λ (row : MatchRow). Within g.order row.a × Within g.order row.b) (row_at g) (rising_list (size g) m) (λ k d h. is (slice_index_or (rising_list (size g) m) k d) ((rising_list-rises (size g) m).within k d h));
  once = λ v w.
      let a = degree-ends_at g (map (row_at g) (rising_list (size g) m)) (marked-of g m).rows (subst (IsRisingIn (size g)) (sym (marked-edges g m)) (rising_list-rises (size g) m)) v in
      let b : degree g (mem (map edge_of (map (row_at g) (rising_list (size g) m)))) v ≡ degree g m v = ap (λ (es : List ℕ). degree g (mem es) v) (marked-edges g m) ∙ degree_congr g (mem (rising_list (size g) m)) m v (λ e we. mem-rising_list (size g) m e we) in
      let o = mm.once v w in omega arith;
}

-- one more edge, if it is marked
pub marked_more : (g : Graph) (m : Set) (k : ℕ) (rows : List MatchRow) (b : Bool) → m (suc k) ≡ b → rows ≡ map (row_at g) (rising_list k m) → rows ++ cond b (row_at g (suc k) ∷ []) [] ≡ map (row_at g) (rising_list (suc k) m)
marked_more g m k rows b h is = grind (arith, map-append (row_at g) (rising_list k m) (cond (m (suc k)) (suc k ∷ []) []))

pub marked_none : (g : Graph) (m : Set) (k : ℕ) (rows : List MatchRow) → m (suc k) ≡ false → rows ≡ map (row_at g) (rising_list k m) → rows ≡ map (row_at g) (rising_list (suc k) m)
marked_none g m k rows h is = search (rules, marked_more g m k rows false h is)

-- a part of the rows is increasing too
rises-lower : (low high n : ℕ) (xs : List ℕ) → low ≤ high → Rises high n xs → Rises low n xs
rises-lower low high n [] l r = tt
rises-lower low high n (x ∷ xs) l r = let a = r.0 in (omega arith, r.1, r.2)

filter-rises : (p : MatchRow → Bool) (low n : ℕ) (rows : List MatchRow) → Rises low n (map edge_of rows) → Rises low n (map edge_of (filter p rows))
filter-rises p low n [] r = tt
filter-rises p low n (row ∷ rows) r = go (p row) (filter-rises p (row.edge + 1) n rows r.2)
  where
    go : (b : Bool) → Rises (row.edge + 1) n (map edge_of (filter p rows)) → Rises low n (map edge_of (cond b (row ∷ filter p rows) (filter p rows)))
    go b rest = grind (arith, rises-lower low (row.edge + 1) n (map edge_of (filter p rows)))

filter-ends_at : (p : MatchRow → Bool) (rows : List MatchRow) (v : ℕ) → ends_at (filter p rows) v ≤ ends_at rows v
filter-ends_at p [] v = omega arith
filter-ends_at p (row ∷ rows) v = go (p row) (filter-ends_at p rows v)
  where
    go : (b : Bool) → ends_at (filter p rows) v ≤ ends_at rows v → ends_at (cond b (row ∷ filter p rows) (filter p rows)) v ≤ bit (row.a == v) + bit (row.b == v) + ends_at rows v
    go b h = grind arith

pub keeps-filter : (p : MatchRow → Bool) (m : MatchingValue) → KeepsMatching m → KeepsMatching (record { order = m.order; rows = filter p m.rows })
keeps-filter p m keeps = record {
  few = keeps.few;
  edges = set-from_rises 2048 (map edge_of (filter p m.rows)) (filter-rises p 1 2048 m.rows (rises-from_set 2048 (edges_of m) keeps.edges));
  within = All-filter p (λ (row : MatchRow). Within m.order row.a × Within m.order row.b) m.rows keeps.within;
  once = λ v w. let a = filter-ends_at p m.rows v in let b = keeps.once v w in omega arith;
}

-- an edge more in the increasing list of a set
pub joined_edges : (n : ℕ) (es : List ℕ) (x : Set) (e : ℕ) → Within n e → IsRisingIn n es → ((i : ℕ) → x i ≡ (mem es i || (e == i))) → (i : ℕ) → mem (rising_list n x) i ≡ (mem es i || (e == i))
joined_edges n es x e we rises h i = elim (cases_Bool (mem es i || (e == i))) [
  | inl t ↦ rising_holds n x i (grind (arith, or_cases (mem es i) (e == i) t, mem-within n es rises i, eqb-true e i)) (h i ∙ t) ∙ sym t
  | inr f ↦ false_from_ne_true (mem (rising_list n x) i) (λ q. both_ways (mem es i || (e == i)) f (sym (h i) ∙ (rising_only n x i q).1)) ∙ sym f
]

module _ (g : Graph) (n : ℕ) (ends : List Ends) (order : n ≡ g.order) (same : graph_of g.order ends ≡ g) where
  -- the marked edges of the ends are those of the graph
  pub whole_marked : (m : Set) (rows : List MatchRow) → rows ≡ map (row_at (graph_of n ends)) (rising_list (length ends) m) → record { order = n; rows = rows } ≡ marked_matching g m
  whole_marked m rows rows_is = grind (arith, whole_graph g n ends order same, whole_size g n ends order same)
