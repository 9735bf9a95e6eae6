-- One more perfect matching in a list of them, each of which holds something new; and what such a
-- list settles. What a list contains it still holds when it is longer; the new matching holds a
-- pair that no listed one holds.
use Rattle.std.proofs.Common.{◌≡◌, ◌≢◌, ℕ, ◌+◌, ◌-◌, ◌<◌, true, false, ◌&&◌, ◌||◌, ◌==◌, ◌↔◌, List, [], ◌∷◌, ◌++◌, length, get_or, map, filter, refl, sym, ap, ap₂, ◌∙◌, arith, inl, inr, subst, eqb-true, length-append, All, Any}
use Rattle.graph_core.proofs.from_counting.Common.{All-push, Any-from_list_any, list_any_at, and_from, and_parts, both_ways, cases_eq, cases_order, false_from_ne_true, or_cases, or_left, or_right, get_or_append_left, map-append, list_any-append, or_false, get_or-append_seam, Within, IsRisingIn, mem, none}
use Rattle.graph_core.proofs.Common.{Graph, IsGraph, first_end, second_end, size, IsEnd, IsPerfect, Together, IsLean, IsPairList, two_ends_le_degree}
use Rattle.match_core.specs.Common.{IsOf, KeepsMatching, MatchingValue, edges_of, is_clear}
use Rattle.match_core.specs.declared.matching.MatchRow.{MatchRow}
use Rattle.match_core.proofs.ClearedMatchings.{end_at}
use Rattle.match_core.proofs.MatchingEdges.{rows-rise}
use Rattle.allowed_edges.specs.Leaving.{share_end}
use Rattle.allowed_edges.specs.PairTables.{AreGrown, PairsValue, SettlesEdges, SettlesPairs, Sought, edge_lists, holds_both}

-- what a longer list holds
pub held_more : (ms : List (List ℕ)) (es : List ℕ) (e f : ℕ) → holds_both (ms ++ es ∷ []) e f ≡ (holds_both ms e f || (mem es e && mem es f))
held_more ms es e f = list_any-append (λ m. mem m e && mem m f) ms (es ∷ []) ∙ ap (λ b. holds_both ms e f || b) (or_false (mem es e && mem es f))

pub still_held : (ms : List (List ℕ)) (es : List ℕ) (e f : ℕ) → holds_both ms e f ≡ true → holds_both (ms ++ es ∷ []) e f ≡ true
still_held ms es e f h = held_more ms es e f ∙ or_left (holds_both ms e f) (mem es e && mem es f) h

pub now_held : (ms : List (List ℕ)) (es : List ℕ) (e f : ℕ) → mem es e ≡ true → mem es f ≡ true → holds_both (ms ++ es ∷ []) e f ≡ true
now_held ms es e f he hf = held_more ms es e f ∙ or_right (holds_both ms e f) (mem es e && mem es f) (and_from (mem es e) (mem es f) he hf)

-- a list of matchings that contains both edges of no pair is not part of what holds them
not_held : (ms : List (List ℕ)) (e f : ℕ) → holds_both ms e f ≡ false → (j : ℕ) → j < length ms → (mem (get_or ms j []) e && mem (get_or ms j []) f) ≡ false
not_held ms e f h j l = false_from_ne_true (mem (get_or ms j []) e && mem (get_or ms j []) f) (λ t. both_ways (holds_both ms e f) h (list_any_at (λ m. mem m e && mem m f) ms j [] l t))

-- one more matching, which holds a pair that no listed one holds
pub lean_more : (ms : List (List ℕ)) (es : List ℕ) (e f : ℕ) → IsLean ms → mem es e ≡ true → mem es f ≡ true → holds_both ms e f ≡ false → IsLean (ms ++ es ∷ [])
lean_more ms es e f lean he hf new k w = elim (cases_eq k (length ms + 1)) [
  | inl q ↦ record {
    one = e;
    other = f;
    holds = (ap (λ m. mem m e) (last q) ∙ he, ap (λ m. mem m f) (last q) ∙ hf);
    new = λ j wj. let l : j - 1 < length ms = omega arith in ap (λ m. mem m e && mem m f) (get_or_append_left ms (es ∷ []) [] (j - 1) l) ∙ not_held ms e f new (j - 1) l;
  }
  | inr d ↦
      let n = length-append ms (es ∷ []) in
      let l : k - 1 < length ms = omega arith in
      let old = lean k (w.0, omega arith) in
      let here = get_or_append_left ms (es ∷ []) [] (k - 1) l in
      grind (arith, get_or_append_left ms (es ∷ []))
]
  where
    last : k ≡ length ms + 1 → get_or (ms ++ es ∷ []) (k - 1) [] ≡ es
    last q = ap (λ i. get_or (ms ++ es ∷ []) i []) (let r : k - 1 ≡ length ms = omega arith in r) ∙ get_or-append_seam ms es [] []

pub grown_more : (g : Graph) (ms : List (List ℕ)) (es : List ℕ) (e f : ℕ) → AreGrown g ms → IsRisingIn (size g) es → IsPerfect g none (mem es) → mem es e ≡ true → mem es f ≡ true → holds_both ms e f ≡ false → AreGrown g (ms ++ es ∷ [])
grown_more g ms es e f grown rises perfect he hf new = record {
  rising = All-push (IsRisingIn (size g)) ms es grown.rising rises;
  perfect = All-push (λ (m : List ℕ). IsPerfect g none (mem m)) ms es grown.perfect perfect;
  lean = lean_more ms es e f grown.lean he hf new;
}

-- the values with one more matching
pub lists_more : (p q : PairsValue) (m : MatchingValue) → q.list ≡ p.list ++ m ∷ [] → edge_lists q ≡ edge_lists p ++ edges_of m ∷ []
lists_more p q m list = ap (λ (ms : List MatchingValue). map edges_of ms) list ∙ map-append edges_of p.list (m ∷ [])

-- one more matching, which holds a pair that no listed one holds, settles no less
pub settles_more : (g : Graph) (e : ℕ) (p q : PairsValue) (m : MatchingValue) (a b : ℕ) → SettlesEdges g e p → q.size ≡ p.size → q.list ≡ p.list ++ m ∷ [] → IsOf g m → KeepsMatching m → IsPerfect g none (mem (edges_of m)) →
    mem (edges_of m) a ≡ true → mem (edges_of m) b ≡ true → holds_both (edge_lists p) a b ≡ false → SettlesEdges g e q
settles_more g e p q m a b s same list of keeps perfect ha hb new = record {
  edge_count = same ∙ s.edge_count;
  of = subst (All (IsOf g)) (sym list) (All-push (IsOf g) p.list m s.of of);
  grown = subst (AreGrown g) (sym (lists_more p q m list)) (grown_more g (edge_lists p) (edges_of m) a b s.grown (rows-rise g m of keeps) perfect ha hb new);
  done = λ x y wx wy l k t. ap (λ ms. holds_both ms x y) (lists_more p q m list) ∙ still_held (edge_lists p) (edges_of m) x y (s.done x y wx wy l k t);
}

-- one more pair that is held, or that does not lie together
pub settles_pair : (g : Graph) (e f : ℕ) (p : PairsValue) → SettlesPairs g e f p → (Together g e f → holds_both (edge_lists p) e f ≡ true) → SettlesPairs g e (f + 1) p
settles_pair g e f p s h = grind arith

pub settles_found : (g : Graph) (e f : ℕ) (p q : PairsValue) (m : MatchingValue) → SettlesPairs g e f p → q.size ≡ p.size → q.list ≡ p.list ++ m ∷ [] → IsOf g m → KeepsMatching m → IsPerfect g none (mem (edges_of m)) →
    mem (edges_of m) e ≡ true → mem (edges_of m) f ≡ true → holds_both (edge_lists p) e f ≡ false → SettlesPairs g e (f + 1) q
settles_found g e f p q m s same list of keeps perfect he hf new = settles_pair g e f q (record {
  edges = settles_more g e p q m e f s.edges same list of keeps perfect he hf new;
  done = λ b wb above below t. ap (λ ms. holds_both ms e b) (lists_more p q m list) ∙ still_held (edge_lists p) (edges_of m) e b (s.done b wb above below t);
}) (λ t. ap (λ ms. holds_both ms e f) (lists_more p q m list) ∙ now_held (edge_lists p) (edges_of m) e f he hf)

-- seeking a pair settles no less, and that pair
pub settles_sought : (g : Graph) (e a b : ℕ) (p q : PairsValue) → SettlesEdges g e p → holds_both (edge_lists p) a b ≡ false → Sought g a b p q → SettlesEdges g e q
settles_sought g e a b p q s new h = grind (arith, settles_more g e p q)

-- where none is listed after the search, the two edges do not lie together
pub sought_apart : (g : Graph) (e f : ℕ) (p q : PairsValue) → Sought g e f p q → holds_both (edge_lists q) e f ≡ false → Together g e f → ⊥
sought_apart g e f p q s new together = grind (arith, lists_more p q, now_held (edge_lists p))

pub settles_sought_pair : (g : Graph) (e f : ℕ) (p q : PairsValue) → SettlesPairs g e f p → holds_both (edge_lists p) e f ≡ false → Sought g e f p q → SettlesPairs g e (f + 1) q
settles_sought_pair g e f p q s new h = grind (arith, settles_found g e f p q, settles_pair g e f p s)

-- without a matching nothing before edge 1 is to be settled
pub settles_nothing : (g : Graph) (p : PairsValue) → p.size ≡ size g → p.list ≡ [] → SettlesEdges g 1 p
settles_nothing g p same empty = grind arith

-- an edge with all its pairs
pub settles_edge : (g : Graph) (e : ℕ) (p : PairsValue) → SettlesPairs g e (size g + 1) p → (Together g e e → holds_both (edge_lists p) e e ≡ true) → SettlesEdges g (e + 1) p
settles_edge g e p s h = grind arith

pub settles_last : (g : Graph) (e : ℕ) (p q : PairsValue) (m : MatchingValue) → SettlesPairs g e (size g + 1) p → q.size ≡ p.size → q.list ≡ p.list ++ m ∷ [] → IsOf g m → KeepsMatching m → IsPerfect g none (mem (edges_of m)) →
    mem (edges_of m) e ≡ true → holds_both (edge_lists p) e e ≡ false → SettlesEdges g (e + 1) q
settles_last g e p q m s same list of keeps perfect he new = settles_edge g e q (record {
  edges = settles_more g e p q m e e s.edges same list of keeps perfect he he new;
  done = λ b wb above below t. ap (λ ms. holds_both ms e b) (lists_more p q m list) ∙ still_held (edge_lists p) (edges_of m) e b (s.done b wb above below t);
}) (λ t. ap (λ ms. holds_both ms e e) (lists_more p q m list) ∙ now_held (edge_lists p) (edges_of m) e e he he)

-- the test of a common end
pub share_some : (g : Graph) (e f : ℕ) → IsGraph g → Within (size g) e → share_end g e f ≡ true → (v : ℕ) × Within g.order v × IsEnd g e v × IsEnd g f v
share_some g e f is we t = elim (or_cases (((first_end g e == first_end g f) || (first_end g e == second_end g f)) || (second_end g e == first_end g f)) (second_end g e == second_end g f) t) [
  | inr q ↦ (second_end g e, (is e we).1, inr refl, inr (sym (eqb-true (second_end g e) (second_end g f) q)))
  | inl t ↦ elim (or_cases ((first_end g e == first_end g f) || (first_end g e == second_end g f)) (second_end g e == first_end g f) t) [
    | inr q ↦ (second_end g e, (is e we).1, inr refl, inl (sym (eqb-true (second_end g e) (first_end g f) q)))
    | inl t ↦ elim (or_cases (first_end g e == first_end g f) (first_end g e == second_end g f) t) [
      | inl q ↦ (first_end g e, (is e we).0, inl refl, inl (sym (eqb-true (first_end g e) (first_end g f) q)))
      | inr q ↦ (first_end g e, (is e we).0, inl refl, inr (sym (eqb-true (first_end g e) (second_end g f) q)))
    ]
  ]
]

-- two edges with a common end do not lie together
pub apart_shared : (g : Graph) (e f v : ℕ) → e ≢ f → Within (size g) e → Within (size g) f → Within g.order v → IsEnd g e v → IsEnd g f v → Together g e f → ⊥
apart_shared g e f v d we wf wv pe pf t = grind (arith, two_ends_le_degree g t.0 e f v we wf d t.2 t.3, end_at g e v pe, end_at g f v pf)

-- lying together does not depend on the order
turned : (g : Graph) (e f : ℕ) → Together g e f → Together g f e
turned g e f t = (t.0, t.1, t.3, t.2)

held_turned : (ms : List (List ℕ)) (e f : ℕ) → holds_both ms e f ≡ holds_both ms f e
held_turned ms e f = grind arith

-- some listed matching has both
one_holds : (p : PairsValue) (e f : ℕ) → holds_both (edge_lists p) e f ≡ true → Any (λ (m : List ℕ). (mem m e ≡ true) × (mem m f ≡ true)) (edge_lists p)
one_holds p e f h =
    let a = Any-from_list_any (λ m. mem m e && mem m f) (edge_lists p) h in
    (a.0, a.1, a.2, a.3, and_parts (mem a.1 e) (mem a.1 f) a.4)

-- edges that a listed matching holds lie together
pub held_together : (g : Graph) (k : ℕ) (p : PairsValue) → SettlesEdges g k p → (e f : ℕ) → holds_both (edge_lists p) e f ≡ true → Together g e f
held_together g k p s e f h = let a = one_holds p e f h in (mem a.1, subst (λ (m : List ℕ). IsPerfect g none (mem m)) a.3 (s.grown.perfect a.0 a.1 a.2), a.4.0, a.4.1)

-- all edges
module _ (g : Graph) (p : PairsValue) (s : SettlesEdges g (size g + 1) p) where
  together_held : (e f : ℕ) → Within (size g) e → Within (size g) f → Together g e f → holds_both (edge_lists p) e f ≡ true
  together_held e f we wf t = grind (arith, cases_order e f, held_turned (edge_lists p) e f, turned g e f t)

  pub settled_pairs : IsPairList g (edge_lists p)
  settled_pairs = grind (arith, one_holds p, together_held)

  pub settled_both : (e f : ℕ) → Within (size g) e → Within (size g) f → (holds_both (edge_lists p) e f ≡ true) ↔ Together g e f
  settled_both e f we wf = (held_together g (size g + 1) p s e f, together_held e f we wf)

-- with no vertex taken out the same rows are left
clear_of_none : (rows : List MatchRow) → filter (is_clear none) rows ≡ rows
clear_of_none [] = refl
clear_of_none (row ∷ rows) = ap (λ (rs : List MatchRow). row ∷ rs) (clear_of_none rows)

pub same_matching : (m n : MatchingValue) (x : List ℕ) → x ≡ [] → n.order ≡ m.order → n.rows ≡ filter (is_clear (mem x)) m.rows → n ≡ m
same_matching m n x empty order rows = ap₂ (λ (k : ℕ) (rs : List MatchRow). let v : MatchingValue = record { order = k; rows = rs } in v) order (rows ∙ ap (λ (xs : List ℕ). filter (is_clear (mem xs)) m.rows) empty ∙ clear_of_none m.rows)
