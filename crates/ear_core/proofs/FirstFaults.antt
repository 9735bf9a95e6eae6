-- What the code's tests of an ear say of the definitions: the first test that fails, the vertices
-- met by marks, and inner vertices that are free.
use Rattle.graph_core.proofs.from_counting.Common.{◌≡◌, ℕ, suc, true, false, ◌==◌, refl, sym, ap, ap₂, ◌∙◌, arith, ◌&&◌, ◌||◌, not, eq-eqb, ne_eqb, Some, None, [], ◌∷◌, List, length, All, subst, inl, inr, same_tests, and_parts, and_from, both_ways, or_cases, or_left, or_right, false_from_ne_true, true≢false, some_true, true_some, bit, mem, Set, some}
use Rattle.graph_core.proofs.Common.{ends_of, edge_at, ends_le_degree, Graph, size, first_end, second_end}
use Rattle.ear_core.specs.Common.{last_vertex, is_met, inner_on_stage, edge_used, is_path, has_odd_length, has_good_ends, has_free_inner, has_new_edges, ear_fault, inner_vertices, no_member}
use Rattle.ear_core.proofs.TraceEdges.{met-some, some-met}
use Rattle.ear_core.proofs.EarTests.{no_member_at, at_no_member}

-- the vertices that f meets are the ends of its edges
pub met-ends : (g : Graph) (f : Set) (v : ℕ) → some (size g) (λ e. f e && (first_end g e == v || second_end g e == v)) ≡ is_met g f v
unfolding ends_of
met-ends g f v = same_tests (some (size g) (λ e. f e && (first_end g e == v || second_end g e == v))) (is_met g f v)
    (λ h. let e = some_true (size g) (λ e. f e && (first_end g e == v || second_end g e == v)) h in
    let b = and_parts (f e.0) (first_end g e.0 == v || second_end g e.0 == v) e.2 in
    let d = ends_le_degree g f e.0 v e.1 b.0 in
    some-met g f v (elim (or_cases (first_end g e.0 == v) (second_end g e.0 == v) b.1) [ inl i ↦ let k = ap bit i in omega arith | inr i ↦ let k = ap bit i in omega arith ]))
    (λ h. let e = edge_at g f v (met-some g f v h) in
    true_some (size g) (λ e. f e && (first_end g e == v || second_end g e == v)) e.0 e.1
    (and_from (f e.0) (first_end g e.0 == v || second_end g e.0 == v) e.2 (elim e.3.1 [
      | inl p ↦ or_left (first_end g e.0 == v) (second_end g e.0 == v) (eq-eqb (first_end g e.0) v p.0)
      | inr p ↦ or_right (first_end g e.0 == v) (second_end g e.0 == v) (eq-eqb (second_end g e.0) v p.1)
    ])))

module _ (g : Graph) (f : Set) (xs ds : List ℕ) (v : ℕ) (es : List ℕ) where
  pub fault-inner : is_path g v es ≡ true → has_odd_length es ≡ true → has_good_ends g f v es ≡ true → has_free_inner g f xs v es ≡ false → ear_fault g f xs ds v es ≡ Some inner_on_stage
  fault-inner a b c d = rw (a, b, c, d) refl

  pub fault-edge : is_path g v es ≡ true → has_odd_length es ≡ true → has_good_ends g f v es ≡ true → has_free_inner g f xs v es ≡ true → has_new_edges f ds es ≡ false → ear_fault g f xs ds v es ≡ Some edge_used
  fault-edge a b c d e = rw (a, b, c, d, e) refl

  pub fault-none : is_path g v es ≡ true → has_odd_length es ≡ true → has_good_ends g f v es ≡ true → has_free_inner g f xs v es ≡ true → has_new_edges f ds es ≡ true → ear_fault g f xs ds v es ≡ None
  fault-none a b c d e = rw (a, b, c, d, e) refl

  -- the tests of the code
  pub ends-same : (met : List ℕ) (last : ℕ) → ((w : ℕ) → mem met w ≡ is_met g f w) → last ≡ last_vertex g v es → (mem met v && (mem met last && not (v == last))) ≡ has_good_ends g f v es
  ends-same met last are is = ap₂ (λ a b. a && (b && not (v == last))) (are v) (are last) ∙ ap (λ y. is_met g f v && (is_met g f y && not (v == y))) is

  pub free-same : (inner met taken : List ℕ) → ((w : ℕ) → mem inner w ≡ mem (inner_vertices g v es) w) → ((w : ℕ) → mem met w ≡ is_met g f w) → ((w : ℕ) → mem taken w ≡ (mem met w || mem xs w)) → no_member (mem taken) inner ≡ has_free_inner g f xs v es
  free-same inner met taken is_inner are_met are_taken = grind (arith, same_tests, at_no_member, no_member_at)

-- no number is in both lists
pub free-length : (inner taken common : List ℕ) → ((w : ℕ) → mem common w ≡ (mem inner w && mem taken w)) → (length common == 0) ≡ no_member (mem taken) inner
free-length inner taken [] is = sym (at_no_member (mem taken) inner (λ w m. false_from_ne_true (mem taken w) (λ t. true≢false (sym (is w ∙ and_from (mem inner w) (mem taken w) m t)))))
free-length inner taken (x ∷ common) is =
    let b = and_parts (mem inner x) (mem taken x) (sym (is x) ∙ or_left (x == x) (mem common x) (eq-eqb x x refl)) in
    ne_eqb (length (x ∷ common)) 0 (λ z. absurd (omega arith)) ∙ sym (false_from_ne_true (no_member (mem taken) inner) (λ h. both_ways (mem taken x) (no_member_at (mem taken) inner h x b.0) b.1))

-- what holds of all items holds of the first one, and of those after it
pub first-item : (P : ℕ → Type 0) (e : ℕ) (rest others : List ℕ) → rest ≡ e ∷ others → All P rest → P e
first-item P e rest others begins all = subst (All P) begins all 0 0 (omega arith)

pub items-behind : (P : ℕ → Type 0) (e : ℕ) (rest others : List ℕ) → rest ≡ e ∷ others → All P rest → All P others
items-behind P e rest others begins all k d less = subst (All P) begins all (suc k) d (omega arith)
