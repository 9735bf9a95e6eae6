-- The rows of a matching with one row more, in the order of their edges. Idea: their edges are an
-- increasing list with the same members as that of the marked edges, so the two are one list.
use Rattle.graph_core.proofs.from_counting.Common.{◌≡◌, ℕ, suc, ◌+◌, ◌≤◌, ◌<◌, ◌==◌, ◌||◌, ◌&&◌, List, [], ◌∷◌, ◌++◌, Bool, true, nat_lt, filter, map, All, refl, sym, ◌∙◌, ap, ap₂, subst, inl, inr, arith, lt-ltb, eq-eqb, ne_eqb, All-cons, All-append, All-filter, cases_lt, cases_eq, list-from_test, map-append, mem-append, rising_list, rises-from_set, set-from_rises, Rises, Within, mem, put}
use Rattle.graph_core.proofs.Common.{Graph, first_end, second_end, size}
use Rattle.match_core.specs.Common.{MatchingValue, IsOf, IsRowOf, KeepsMatching, edges_of, inserted, row_at}
use Rattle.match_core.specs.declared.matching.MatchRow.{MatchRow}
use Rattle.match_core.proofs.MatchingEdges.{edge_of, marked_matching, rows-rise}
use Rattle.match_search.proofs.GrownRows.{with_put}

-- below the edge of each row, no row is lower, and all are higher
none_lower : (new : MatchRow) (low n : ℕ) (rows : List MatchRow) → new.edge < low → Rises low n (map edge_of rows) → inserted rows new ≡ new ∷ rows
none_lower new low n rows l r = ap₂ (λ xs ys. xs ++ new ∷ ys) (no_lower rows low l r) (all_higher rows low l r)
  where
    no_lower : (rows : List MatchRow) (low : ℕ) → new.edge < low → Rises low n (map edge_of rows) → filter (λ row. nat_lt row.edge new.edge) rows ≡ []
    no_lower [] low l r = refl
    no_lower (row ∷ rows) low l r = grind (arith, no_lower rows (row.edge + 1) (omega arith) r.2)

    all_higher : (rows : List MatchRow) (low : ℕ) → new.edge < low → Rises low n (map edge_of rows) → filter (λ row. nat_lt new.edge row.edge) rows ≡ rows
    all_higher [] low l r = refl
    all_higher (row ∷ rows) low l r = grind (arith, all_higher rows (row.edge + 1) (omega arith) r.2)

-- the edges are increasing
inserted-rises : (new : MatchRow) (low n : ℕ) (rows : List MatchRow) → low ≤ new.edge → new.edge ≤ n → Rises low n (map edge_of rows) → Rises low n (map edge_of (inserted rows new))
inserted-rises new low n [] l k r = (l, k, tt)
inserted-rises new low n (row ∷ rows) l k r = elim (cases_lt row.edge new.edge) [
  | inl h ↦ subst (λ xs. Rises low n (map edge_of xs)) (sym (below h)) (r.0, r.1, inserted-rises new (row.edge + 1) n rows (omega arith) k r.2)
  | inr g ↦ elim (cases_eq row.edge new.edge) [
    | inl e ↦ subst (λ xs. Rises low n (map edge_of xs)) (sym (here e)) (l, k, subst (λ d. Rises (d + 1) n (map edge_of rows)) e r.2)
    | inr d ↦ subst (λ xs. Rises low n (map edge_of xs)) (sym (none_lower new (new.edge + 1) n (row ∷ rows) (omega arith) (omega arith, r.1, r.2))) (l, k, (omega arith, r.1, r.2))
  ]
]
  where
    below : row.edge < new.edge → inserted (row ∷ rows) new ≡ row ∷ inserted rows new
    below h = grind (arith, lt-ltb row.edge new.edge h)

    here : row.edge ≡ new.edge → inserted (row ∷ rows) new ≡ new ∷ rows
    here e = grind (arith, none_lower new (row.edge + 1) n rows (omega arith) r.2)

-- the members of a part
mem-part : (p : ℕ → Bool) (rows : List MatchRow) (v : ℕ) → mem (map edge_of (filter (λ row. p row.edge) rows)) v ≡ (p v && mem (map edge_of rows) v)
mem-part p [] v = grind arith
mem-part p (row ∷ rows) v = elim (cases_eq row.edge v) [
  | inl e ↦ grind (arith, mem-part p rows v, eq-eqb row.edge v e)
  | inr d ↦ grind (arith, mem-part p rows v, ne_eqb row.edge v d)
]

-- the members of all
mem-inserted : (new : MatchRow) (rows : List MatchRow) (v : ℕ) → mem (map edge_of (inserted rows new)) v ≡ (mem (map edge_of rows) v || (new.edge == v))
mem-inserted new rows v =
    ap (λ xs. mem xs v) (map-append edge_of (filter (λ row. nat_lt row.edge new.edge) rows) (new ∷ filter (λ row. nat_lt new.edge row.edge) rows))
    ∙ mem-append (map edge_of (filter (λ row. nat_lt row.edge new.edge) rows)) (map edge_of (new ∷ filter (λ row. nat_lt new.edge row.edge) rows)) v
    ∙ ap₂ (λ a b. a || ((new.edge == v) || b)) (mem-part (λ e. nat_lt e new.edge) rows v) (mem-part (λ e. nat_lt new.edge e) rows v)
    ∙ both (mem (map edge_of rows) v)
  where
    both : (b : Bool) → ((nat_lt v new.edge && b) || ((new.edge == v) || (nat_lt new.edge v && b))) ≡ (b || (new.edge == v))
    both b = elim (cases_lt v new.edge) [
      | inl l ↦ grind (arith, lt-ltb v new.edge l)
      | inr g ↦ elim (cases_eq new.edge v) [
        | inl e ↦ grind (arith, eq-eqb new.edge v e)
        | inr d ↦ grind (arith, ne_eqb new.edge v d, lt-ltb new.edge v (omega arith))
      ]
    ]

-- rows of g are those of their edges
rows_named : (g : Graph) (rows : List MatchRow) → All (IsRowOf g) rows → rows ≡ map (row_at g) (map edge_of rows)
rows_named g [] all = refl
rows_named g (row ∷ rows) all =
    let is = all 0 row (omega arith) in
    ap₂ (λ r rs. r ∷ rs) (ap₂ (λ a b. let row : MatchRow = record { edge = row.edge; a = a; b = b } in row) is.first is.second) (rows_named g rows (λ k d h. all (suc k) d (omega arith)))

inserted-of : (g : Graph) (new : MatchRow) (rows : List MatchRow) → All (IsRowOf g) rows → IsRowOf g new → All (IsRowOf g) (inserted rows new)
inserted-of g new rows all own = All-append (IsRowOf g) (filter (λ row. nat_lt row.edge new.edge) rows) (new ∷ filter (λ row. nat_lt new.edge row.edge) rows)
    (All-filter (λ row. nat_lt row.edge new.edge) (IsRowOf g) rows all) (All-cons (IsRowOf g) new (filter (λ row. nat_lt new.edge row.edge) rows) own (All-filter (λ row. nat_lt new.edge row.edge) (IsRowOf g) rows all))

-- the matching with an edge more
pub inserted_is : (g : Graph) (m : MatchingValue) (new : MatchRow) → IsOf g m → KeepsMatching m → IsRowOf g new → record { order = m.order; rows = inserted m.rows new } ≡ marked_matching g (put (mem (edges_of m)) new.edge true)
inserted_is g m new of keeps own = ap₂ (λ n rows. let m : MatchingValue = record { order = n; rows = rows } in m) of.order (rows_named g (inserted m.rows new) (inserted-of g new m.rows of.rows own) ∙ ap (map (row_at g)) edges)
  where
    edges : map edge_of (inserted m.rows new) ≡ rising_list (size g) (put (mem (edges_of m)) new.edge true)
    edges = list-from_test (size g) (map edge_of (inserted m.rows new)) (put (mem (edges_of m)) new.edge true)
        (set-from_rises (size g) (map edge_of (inserted m.rows new)) (inserted-rises new 1 (size g) m.rows own.edge.0 own.edge.1 (rises-from_set (size g) (edges_of m) (rows-rise g m of keeps))))
        (λ v w. mem-inserted new m.rows v ∙ with_put (mem (edges_of m)) new.edge v)

-- the same for the rows of the code
pub joined_is : (g : Graph) (m : MatchingValue) (e a b n : ℕ) (rows items : List MatchRow) → IsOf g m → KeepsMatching m → Within (size g) e → a ≡ first_end g e → b ≡ second_end g e → record { order = n; rows = rows } ≡ m
    → items ≡ inserted rows (record { edge = e; a = a; b = b }) → record { order = n; rows = items } ≡ marked_matching g (put (mem (edges_of m)) e true)
joined_is g m e a b n rows items of keeps we first second view is = grind (arith, inserted_is)
