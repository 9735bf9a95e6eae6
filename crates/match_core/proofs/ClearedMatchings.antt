-- What is left of a matching when the edges with an end in a set are taken out, and how many
-- vertices it then misses. A row is left if and only if its edge has no end in the set. If the set
-- contains the ends of edges of a perfect matching and of one more edge, then at most one more edge
-- is taken out than there are such edges, since that one has two ends.
use Rattle.graph_core.proofs.from_counting.Common.{◌≡◌, ℕ, suc, ◌+◌, ◌*◌, ◌≤◌, ◌≢◌, Bool, true, false, ◌==◌, ◌&&◌, ◌||◌, ◌⊎◌, not, refl, ap, ap₂, ◌∙◌, arith, List, [], ◌∷◌, length, map, filter, cond, inl, inr, All, All-filter, both_ways, cases_Bool, cases_eq, and_parts, or_cases, or_left, or_right, not-true, length-map, count_put, count_complement, count_mem_length, count_split, total_add, total_congr, total_le, total_none, bit_le_one, Within, bit, count, total, IsRisingIn, mem, Set, none, put, meet}
use Rattle.graph_core.proofs.Common.{Graph, IsGraph, degree, first_end, second_end, size, IsMatching, IsPerfect, missed_count, edge_at, ends_of, missed_edges, sum_degrees, two_ends_le_degree, perfect_matching, perfect_misses}
use Rattle.match_core.specs.Common.{IsOf, IsRowOf, KeepsMatching, MatchingValue, edges_of, has_end_in, is_clear, left_over}
use Rattle.match_search.specs.Common.{MeetOnce}
use Rattle.match_core.specs.declared.matching.MatchRow.{MatchRow}
use Rattle.match_search.proofs.Alike.{matching_alike}
use Rattle.match_core.proofs.MatchingEdges.{edge_of, rows-matching, rows-rise}
use Rattle.match_search.proofs.NearPerfectSets.{degree_split}

-- the rows that meet no vertex of x
abbrev pub cleared : Set → MatchingValue → MatchingValue
cleared x m = record { order = m.order; rows = filter (is_clear x) m.rows }

-- they are rows of the same graph
pub cleared_of : (g : Graph) (x : Set) (m : MatchingValue) → IsOf g m → IsOf g (cleared x m)
cleared_of g x m of = record { order = of.order; rows = All-filter (is_clear x) (IsRowOf g) m.rows of.rows }

-- their edges are those with no end in x
rows_left : (g : Graph) (x : Set) (rows : List MatchRow) → All (IsRowOf g) rows → (i : ℕ) → mem (map edge_of (filter (is_clear x) rows)) i ≡ (mem (map edge_of rows) i && not (has_end_in g x i))
rows_left g x [] all i = refl
rows_left g x (row ∷ rows) all i =
    let is = all 0 row (omega arith) in
    let here : is_clear x row ≡ not (has_end_in g x row.edge) = ap₂ (λ a b. not (x a) && not (x b)) is.first is.second ∙ (grind arith) in
    go (is_clear x row) here (rows_left g x rows (λ k d h. all (suc k) d (omega arith)) i)
  where
    go : (b : Bool) → b ≡ not (has_end_in g x row.edge) → mem (map edge_of (filter (is_clear x) rows)) i ≡ (mem (map edge_of rows) i && not (has_end_in g x i)) →
        mem (map edge_of (cond b (row ∷ filter (is_clear x) rows) (filter (is_clear x) rows))) i ≡ (((row.edge == i) || mem (map edge_of rows) i) && not (has_end_in g x i))
    go b q h = grind arith

pub cleared_edges : (g : Graph) (x : Set) (m : MatchingValue) → IsOf g m → (i : ℕ) → mem (edges_of (cleared x m)) i ≡ left_over g x (mem (edges_of m)) i
cleared_edges g x m of i = rows_left g x m.rows of.rows i

-- the edges of a matching with no end in x are a matching of g - x
pub left_matching : (g : Graph) (x m : Set) → IsMatching g none m → IsMatching g x (left_over g x m)
left_matching g x m mm = grind (arith, degree_split g m (left_over g x m) (meet m (has_end_in g x)), edge_at g (left_over g x m), and_parts, not-true, both_ways, or_left, or_right)

pub cleared_matching : (g : Graph) (x : Set) (m : MatchingValue) → IsOf g m → KeepsMatching m → IsMatching g x (mem (edges_of (cleared x m)))
cleared_matching g x m of keeps = matching_alike g x (left_over g x (mem (edges_of m))) (mem (edges_of (cleared x m))) (λ e w. cleared_edges g x m of e) (left_matching g x (mem (edges_of m)) (rows-matching g m of keeps))

-- the vertices of a matching's rows, those outside and those it misses are all
pub left_size : (g : Graph) (x : List ℕ) (m : MatchingValue) → IsGraph g → IsRisingIn g.order x → IsOf g m → KeepsMatching m → IsMatching g (mem x) (mem (edges_of m)) →
    missed_count g (mem x) (mem (edges_of m)) + 2 * length m.rows + length x ≡ g.order
left_size g x m is rises of keeps mm =
    let a = missed_edges g (mem x) (mem (edges_of m)) is mm in
    let b = count_mem_length (size g) (edges_of m) (rows-rise g m of keeps) in
    let l = length-map m.rows edge_of in
    let c = count_mem_length g.order x rises in
    let d = count_complement g.order (mem x) in
    omega arith

-- an edge with an end at v
pub end_at : (g : Graph) (k v : ℕ) → (first_end g k ≡ v) ⊎ (second_end g k ≡ v) → 1 ≤ ends_of g k v
unfolding ends_of
end_at g k v h = grind arith

-- p is perfect, the edges c share no vertex, met are their ends, and all of c but e, which is one
-- of them, are in p
module _ (g : Graph) (is : IsGraph g) (p c met : Set) (e : ℕ) (perfect : IsPerfect g none p) (once : MeetOnce g c met) (we : Within (size g) e) (ce : c e ≡ true) (others : (i : ℕ) → Within (size g) i → c i ≡ true → i ≢ e → p i ≡ true) where
  abbrev taken : Set
  taken = meet p (has_end_in g met)

  -- an edge that is taken out is one of c but e, or has an end of e
  taken_is : (i : ℕ) → Within (size g) i → bit (taken i) ≤ bit (put c e false i) + ((bit (p i && (first_end g i == first_end g e)) + bit (p i && (second_end g i == first_end g e))) + (bit (p i && (first_end g i == second_end g e)) + bit (p i && (second_end g i == second_end g e))))
  taken_is i wi = elim (cases_Bool (taken i)) [
    | inr f ↦ let z = ap bit f in omega arith
    | inl t ↦
        let b = and_parts (p i) (has_end_in g met i) t in
        elim (or_cases (met (first_end g i)) (met (second_end g i)) b.1) [
          | inl m ↦ at (first_end g i) (is i wi).0 m b.0 (inl refl)
          | inr m ↦ at (second_end g i) (is i wi).1 m b.0 (inr refl)
        ]
  ]
    where
      -- i has the end v, which is met
      at : (v : ℕ) → Within g.order v → met v ≡ true → p i ≡ true → (first_end g i ≡ v) ⊎ (second_end g i ≡ v) → bit (taken i) ≤ bit (put c e false i) + ((bit (p i && (first_end g i == first_end g e)) + bit (p i && (second_end g i == first_end g e))) + (bit (p i && (first_end g i == second_end g e)) + bit (p i && (second_end g i == second_end g e))))
      at v wv m pi end =
          let o = once v wv in
          let q = ap bit m in
          let d = edge_at g c v (omega arith) in
          let few : bit (taken i) ≤ 1 = bit_le_one (taken i) in
          elim (cases_eq d.0 e) [
            | inl same ↦ grind arith
            | inr other ↦ elim (cases_eq i d.0) [
              | inl here ↦ grind arith
              | inr away ↦
                  let two = two_ends_le_degree g p i d.0 v wi d.1 away pi (others d.0 d.1 d.2 other) in
                  let one = perfect.once v wv refl in
                  let a = end_at g i v end in
                  let b = end_at g d.0 v (end_of (first_end g d.0) (second_end g d.0) v d.3.0 d.3.1) in
                  absurd (omega arith)
            ]
          ]
        where
          end_of : (x y v o : ℕ) → ((x ≡ v) × (y ≡ o)) ⊎ ((x ≡ o) × (y ≡ v)) → (x ≡ v) ⊎ (y ≡ v)
          end_of x y v o h = elim h [ inl q ↦ inl q.0 | inr q ↦ inr q.1 ]

  taken_few : count (size g) taken ≤ count (size g) c + 1
  taken_few =
      let f : ℕ → ℕ = λ i. bit (p i && (first_end g i == first_end g e)) + bit (p i && (second_end g i == first_end g e)) in
      let h : ℕ → ℕ = λ i. bit (p i && (first_end g i == second_end g e)) + bit (p i && (second_end g i == second_end g e)) in
      let a = total_le (size g) (λ i. bit (taken i)) (λ i. bit (put c e false i) + (f i + h i)) taken_is in
      let b = total_add (size g) (λ i. bit (put c e false i)) (λ i. f i + h i) in
      let d = total_add (size g) f h in
      let x = total_add (size g) (λ i. bit (p i && (first_end g i == first_end g e))) (λ i. bit (p i && (second_end g i == first_end g e))) in
      let y = total_add (size g) (λ i. bit (p i && (first_end g i == second_end g e))) (λ i. bit (p i && (second_end g i == second_end g e))) in
      let u = perfect.once (first_end g e) (is e we).0 refl in
      let v = perfect.once (second_end g e) (is e we).1 refl in
      let z = count_put (size g) c e false we in
      let w = ap bit ce in
      omega arith

  -- what is left misses no vertex outside met, or two
  pub left_misses : (missed_count g met (left_over g met p) ≡ 0) ⊎ (missed_count g met (left_over g met p) ≡ 2)
  left_misses =
      let a = missed_edges g met (left_over g met p) is (left_matching g met p (perfect_matching g none p perfect)) in
      let b = missed_edges g none p is (perfect_matching g none p perfect) in
      let d = perfect_misses g none p perfect in
      let k = count_complement g.order none in
      let l : count g.order none ≡ 0 = total_none g.order (λ v. bit (none v)) (λ v w. refl) in
      let s = sum_degrees g c is in
      let t : total g.order (λ v. degree g c v) ≡ count g.order met = total_congr g.order (λ v. degree g c v) (λ v. bit (met v)) once in
      let m = count_complement g.order met in
      let split = count_split (size g) p (has_end_in g met) in
      let few = taken_few in
      (grind arith)
