-- An elementary component as a graph of its own is simple: the new numbers of two vertices differ,
-- so two edges with the same ends would be two edges of the graph with the same ends.
use Rattle.allowed_edges.proofs.from_counting.Common.{◌≡◌, ℕ, ◌+◌, ◌≤◌, ◌<◌, Bool, true, inl, inr, ◌==◌, ◌&&◌, ◌||◌, List, [], ◌++◌, length, drop, get_or, sym, ap, ap₂, ◌∙◌, arith, eq-eqb, ne_eqb, All, Some, slice_get, subst, cond, drop_more, All-get_or, slice_get_within, Within, and_parts, at_le_total, bit, both_ways, cases_Bool, cases_eq, count, count_mem_length, count_up, false_from_ne_true, get_or_from_slice_get, IsRisingIn, length-rising_list, length-within, list-from_test, mem, mem-within, none, rank_once, Set, set-narrower}
use Rattle.graph_core.proofs.Common.{components, Graph, HasPerfect, IsSimple, first_end, has_ends, has_perfect, has_perfect_found, has_perfect_says, inside, is_allowed, joins, second_end, size}
use Rattle.graph6_text.proofs.DistinctPairs.{simple_from_distinct}
use Rattle.leaf_kinds.proofs.from_separation_kit.PairShores.{components-rise}
use Rattle.mcg6_lines.specs.Elementary.{allowed_subgraph, component_graph, component_line, component_lines, elementary_lines, elementary_parts, number_in}
use Rattle.mcg6_lines.proofs.TakenEdges.{distinct_taken}

-- the new number of a vertex
pub number_within : (n v : ℕ) (vs : List ℕ) → IsRisingIn n vs → mem vs v ≡ true → Within (length vs) (number_in vs v)
number_within n v vs rises t =
    let w = mem-within n vs rises v t in
    let a = at_le_total v (λ k. bit (mem vs k)) v (omega arith) in
    let b = ap bit t in
    let c = count_up (mem vs) v n (omega arith) in
    let d = count_mem_length n vs rises in omega arith

pub few_vertices : (n : ℕ) (vs : List ℕ) → IsRisingIn n vs → length vs ≤ n
few_vertices n vs rises = length-within n vs rises

pub vertex_few : (n v : ℕ) (vs : List ℕ) → IsRisingIn n vs → mem vs v ≡ true → v ≤ n
vertex_few n v vs rises t = (mem-within n vs rises v t).1

-- two vertices have the same number only if they are one
pub number_once : (vs : List ℕ) (u v : ℕ) → mem vs u ≡ true → mem vs v ≡ true → number_in vs u ≡ number_in vs v → u ≡ v
number_once vs u v mu mv same = rank_once (mem vs) u v mu mv same

pub same_number : (vs : List ℕ) (u v : ℕ) → mem vs u ≡ true → mem vs v ≡ true → (number_in vs u == number_in vs v) ≡ (u == v)
same_number vs u v mu mv = grind (arith, cases_eq u v, eq-eqb (count u (mem vs)) (count v (mem vs)), eq-eqb u v, ne_eqb (count u (mem vs)) (count v (mem vs)), rank_once (mem vs) u v mu mv, ne_eqb u v)

-- how many vertices are at most v
pub number_counted : (m v k : ℕ) (full vs below : List ℕ) → IsRisingIn m below → ((w : ℕ) → (mem full w ≡ true) → Within v w) → ((w : ℕ) → Within v w → mem full w ≡ true) →
    ((w : ℕ) → mem below w ≡ (mem full w && mem vs w)) → k ≡ length below → k ≡ number_in vs v
number_counted m v k full vs below rises sound complete is long =
    long ∙ ap length (list-from_test v below (mem vs) narrow (λ w ww. is w ∙ ap (λ (b : Bool). b && mem vs w) (complete w ww))) ∙ length-rising_list v (mem vs)
  where
    narrow : IsRisingIn v below
    narrow = set-narrower m v below rises (λ w t. let h = and_parts (mem full w) (mem vs w) (sym (is w) ∙ t) in let x = sound w h.0 in omega arith)

-- the same two ends in the component are the same two ends in the graph
same_ends : (g : Graph) (vs : List ℕ) (d e : ℕ) → inside g (mem vs) d ≡ true → inside g (mem vs) e ≡ true →
    joins (number_in vs (first_end g d)) (number_in vs (second_end g d)) (number_in vs (first_end g e), number_in vs (second_end g e)) ≡ has_ends g (first_end g d) (second_end g d) e
same_ends g vs d e id ie =
    let a = and_parts (mem vs (first_end g d)) (mem vs (second_end g d)) id in
    let b = and_parts (mem vs (first_end g e)) (mem vs (second_end g e)) ie in
    let ff = same_number vs (first_end g e) (first_end g d) b.0 a.0 in
    let ss = same_number vs (second_end g e) (second_end g d) b.1 a.1 in
    let fs = same_number vs (first_end g e) (second_end g d) b.0 a.1 in
    let sf = same_number vs (second_end g e) (first_end g d) b.1 a.0 in
    ap₂ ◌||◌ (ap₂ ◌&&◌ ff ss) (ap₂ ◌&&◌ fs sf)

pub simple_component : (g : Graph) (vs : List ℕ) → IsSimple g → IsSimple (component_graph g vs)
unfolding component_graph
simple_component g vs simple =
    simple_from_distinct (component_graph g vs)
    (distinct_taken (λ e. (number_in vs (first_end g e), number_in vs (second_end g e))) (λ e. is_allowed g e && inside g (mem vs) e) (size g)
    (λ d e wd we l td te.
    let a = and_parts (is_allowed g d) (inside g (mem vs) d) td in
    let b = and_parts (is_allowed g e) (inside g (mem vs) e) te in
    same_ends g vs d e a.1 b.1 ∙ false_from_ne_true (has_ends g (first_end g d) (second_end g d) e) (λ t. let same = simple d e wd we t in absurd (omega arith))))

-- the vertex sets are increasing lists
pub parts_rise : (g h : Graph) (s : Set) (parts : List (List ℕ)) → h ≡ allowed_subgraph g → parts ≡ components h s → All (IsRisingIn g.order) parts
unfolding allowed_subgraph
parts_rise g h s parts same is =
    subst (All (IsRisingIn g.order)) (sym is) (subst (λ (k : Graph). All (IsRisingIn k.order) (components h s)) same (components-rise h s))

pub part_rises : (n : ℕ) (parts : List (List ℕ)) (i : ℕ) (part : List ℕ) → All (IsRisingIn n) parts → slice_get parts i ≡ Some part → IsRisingIn n part
part_rises n parts i part rise is =
    subst (IsRisingIn n) (get_or_from_slice_get parts i part [] is) (All-get_or (IsRisingIn n) parts i [] (slice_get_within parts i part is) rise)

-- the lines from a place on are the line there and those after it
pub components_next : (number : ℕ) (g : Graph) (parts : List (List ℕ)) (i : ℕ) → i < length parts →
    component_lines number g (drop i parts) ≡ component_line number g (get_or parts i []) ++ component_lines number g (drop (i + 1) parts)
components_next number g parts i listed = ap (component_lines number g) (drop_more parts i [] listed)

-- a graph with a perfect matching has these lines, another one has none
pub matched_lines : (number : ℕ) (g : Graph) → ¬ (¬ (HasPerfect g none)) → component_lines number g (elementary_parts g) ≡ elementary_lines number g
unfolding elementary_lines
matched_lines number g some = elim (cases_Bool (has_perfect g none)) [
  | inl t ↦ sym (ap (λ (b : Bool). cond b (component_lines number g (elementary_parts g)) []) t)
  | inr f ↦ absurd (some (λ p. both_ways (has_perfect g none) f (has_perfect_found g none p)))
]

pub unmatched_lines : (number : ℕ) (g : Graph) → ¬ (HasPerfect g none) → [] ≡ elementary_lines number g
unfolding elementary_lines
unmatched_lines number g none_has = elim (cases_Bool (has_perfect g none)) [
  | inl t ↦ absurd (none_has (has_perfect_says g none t))
  | inr f ↦ sym (ap (λ (b : Bool). cond b (component_lines number g (elementary_parts g)) []) f)
]
