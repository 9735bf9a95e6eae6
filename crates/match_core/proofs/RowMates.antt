-- The mates that a pass over the rows of a matching names, where it leaves out the rows that meet a
-- set, are those of the edges that it does not leave out. Idea: an edge that is left is the edge of
-- a row, and the row names its ends.
use Rattle.graph_core.proofs.from_counting.Common.{◌≡◌, ℕ, ◌<◌, List, Some, true, refl, inl, inr, sym, ap, ◌∙◌, arith, not, length, map, suc, ◌∷◌, [], ◌==◌, false, zero, ◌≤◌, ◌+◌, eqb-true, slice_get, get_or_from_slice_get, fun_ext, Set, mem, and_from, and_parts, or_cases, cases_eq, or_right, both_ways}
use Rattle.graph_core.proofs.Common.{Graph, HasEnds, IsMatching, degree, edge_at, first_end, second_end}
use Rattle.match_search.specs.Common.{HasMates, numbers, with_mate, with_pair}
use Rattle.match_search.proofs.MatePairs.{with_here, with_there}
use Rattle.match_core.specs.Common.{IsOf, IsRowOf, KeepsMatching, MatchingValue, edges_of, is_clear, left_over, has_end_in, NamesRows}
use Rattle.match_core.specs.declared.matching.MatchRow.{MatchRow}
use Rattle.match_core.proofs.ClearedMatchings.{left_matching}
use Rattle.match_core.proofs.MatchingEdges.{edge_of, rows-matching}

-- a row has each edge of a list of rows
row_with : (rows : List MatchRow) (e : ℕ) → mem (map edge_of rows) e ≡ true → (j : ℕ) × (row : MatchRow) × (j < length rows) × (slice_get rows j ≡ Some row) × (row.edge ≡ e)
row_with [] e h = absurd (cc)
row_with (row ∷ rows) e h = elim (or_cases (row.edge == e) (mem (map edge_of rows) e) h) [
  | inl q ↦ (0, row, omega arith, refl, eqb-true row.edge e q)
  | inr q ↦ let r = row_with rows e q in let l = r.2 in (suc r.0, r.1, omega arith, r.3, r.4)
]

-- a row of a list has an edge of the list
with_row : (rows : List MatchRow) (j : ℕ) (row : MatchRow) → slice_get rows j ≡ Some row → mem (map edge_of rows) row.edge ≡ true
with_row [] j row h = absurd (cc)
with_row (d ∷ rows) zero row h = grind arith
with_row (d ∷ rows) (suc j) row h = or_right (d.edge == row.edge) (mem (map edge_of rows) row.edge) (with_row rows j row h)

-- one row more, which meets no vertex of x and whose ends become a pair
pub names_more : (x : Set) (rows : List MatchRow) (mate after : List ℕ) (i : ℕ) (row : MatchRow) → slice_get rows i ≡ Some row → NamesRows x rows mate i → is_clear x row ≡ true → 1 ≤ row.a → 1 ≤ row.b → ((u : ℕ) → numbers after u ≡ with_pair (numbers mate) row.a row.b u) → NamesRows x rows after (i + 1)
names_more x rows mate after i row at named clear a b pair = record {
  met = λ v q. elim (cases_eq v row.b) [
    | inl e ↦ let here = pair v ∙ with_here (with_mate (numbers mate) row.a row.b) row.b row.a v e in (i, row, omega arith, at, clear, inr (sym here, sym e))
    | inr n ↦ elim (cases_eq v row.a) [
      | inl e ↦ let here = pair v ∙ with_there (with_mate (numbers mate) row.a row.b) row.b row.a v n ∙ with_here (numbers mate) row.a row.b v e in (i, row, omega arith, at, clear, inl (sym e, sym here))
      | inr o ↦
          let here = pair v ∙ with_there (with_mate (numbers mate) row.a row.b) row.b row.a v n ∙ with_there (numbers mate) row.a row.b v o in
          let old = named.met v (λ z. q (here ∙ z)) in
          let l = old.2 in
          (old.0, old.1, omega arith, old.3, old.4, elim old.5 [ inl t ↦ inl (t.0, t.1 ∙ sym here) | inr t ↦ inr (t.0 ∙ sym here, t.1) ])
    ]
  ];
  missed = λ v z j d l got c. elim (cases_eq v row.b) [
    | inl e ↦ let here = pair v ∙ with_here (with_mate (numbers mate) row.a row.b) row.b row.a v e in absurd (omega arith)
    | inr n ↦ elim (cases_eq v row.a) [
      | inl e ↦ let here = pair v ∙ with_there (with_mate (numbers mate) row.a row.b) row.b row.a v n ∙ with_here (numbers mate) row.a row.b v e in absurd (omega arith)
      | inr o ↦
          let here = pair v ∙ with_there (with_mate (numbers mate) row.a row.b) row.b row.a v n ∙ with_there (numbers mate) row.a row.b v o in
          elim (cases_eq j i) [
            | inl s ↦ let same : Some d ≡ Some row = sym got ∙ ap (slice_get rows) s ∙ at in (λ t. o (sym t ∙ ap (λ (r : MatchRow). r.a) (some_is same)), λ t. n (sym t ∙ ap (λ (r : MatchRow). r.b) (some_is same)))
            | inr s ↦ named.missed v (sym here ∙ z) j d (omega arith) got c
          ]
    ]
  ];
}
  where
    some_is : {p q : MatchRow} → Some p ≡ Some q → p ≡ q
    some_is h = cc

-- one row more, which meets a vertex of x
pub names_none : (x : Set) (rows : List MatchRow) (mate : List ℕ) (i : ℕ) (row : MatchRow) → slice_get rows i ≡ Some row → NamesRows x rows mate i → is_clear x row ≡ false → NamesRows x rows mate (i + 1)
names_none x rows mate i row at named met = record {
  met = λ v q. let old = named.met v q in let l = old.2 in (old.0, old.1, omega arith, old.3, old.4, old.5);
  missed = λ v z j d l got c. elim (cases_eq j i) [
    | inl s ↦ let same : Some d ≡ Some row = sym got ∙ ap (slice_get rows) s ∙ at in absurd (both_ways (is_clear x row) met (ap (is_clear x) (some_is same) ∙ c))
    | inr s ↦ named.missed v z j d (omega arith) got c
  ];
}
  where
    some_is : {p q : MatchRow} → Some p ≡ Some q → q ≡ p
    some_is h = cc

module _ (g : Graph) (x : Set) (m : MatchingValue) (mate : List ℕ) (of : IsOf g m) (keeps : KeepsMatching m) (named : NamesRows x m.rows mate (length m.rows)) where
  abbrev left : Set
  left = left_over g x (mem (edges_of m))

  -- a row of the matching is an edge of the graph, and is left if it meets no vertex of x
  row_left : (j : ℕ) (row : MatchRow) → j < length m.rows → slice_get m.rows j ≡ Some row → IsRowOf g row × (is_clear x row ≡ not (has_end_in g x row.edge))
  row_left j row l at = grind (arith, get_or_from_slice_get)

  -- a vertex with the mate 0 meets no edge that is left
  no_edge : (v e o : ℕ) → numbers mate v ≡ 0 → left e ≡ true → HasEnds g e v o → ⊥
  no_edge v e o z le ends = grind (arith, and_parts, mem, row_with, row_left, first_end, second_end)

  none_there : (d : ℕ) → (0 < d → ⊥) → d ≡ 0
  none_there d h = grind arith

  pub named_rows : HasMates g x left (numbers mate)
  named_rows = record {
    matching = left_matching g x (mem (edges_of m)) (rows-matching g m of keeps);
    exposed = λ v w z. none_there (degree g left v) (λ p. let d = edge_at g left v p in no_edge v d.0 d.3.0 z d.2 d.3.1);
    paired = λ v w n.
        let t = named.met v n in
        let is = row_left t.0 t.1 t.2 t.3 in
        let held = and_from (mem (edges_of m) t.1.edge) (not (has_end_in g x t.1.edge)) (with_row m.rows t.0 t.1 t.3) (sym is.1 ∙ t.4) in
        (t.1.edge, is.0.edge, held, elim t.5 [ inl s ↦ inl (sym is.0.first ∙ s.0, sym is.0.second ∙ s.1) | inr s ↦ inr (sym is.0.first ∙ s.0, sym is.0.second ∙ s.1) ]);
  }

-- the mates of all edges of a matching of g - r, read with no vertex removed, are its mates in g -
-- r
pub mates_beside : (g : Graph) (r x m : Set) (mate : ℕ → ℕ) → IsMatching g r m → ((v : ℕ) → x v ≡ false) → HasMates g x (left_over g x m) mate → HasMates g r m mate
mates_beside g r x m mate mm nothing has = grind (arith, fun_ext, first_end, second_end)
