-- A graph with a fractional edge colouring with r colours is an r-graph: the edges at a vertex, and
-- those in the cut of an odd set, are counted over the list of perfect matchings. And an r-graph has
-- one: else, by Farkas' lemma, integer weights of the edges are not positive on each perfect
-- matching, but positive on all edges together; and made whole numbers, by one more number at each
-- edge, they are against the bound on averages.
use Rattle.tree_check.proofs.from_counting.Common.{◌≡◌, ℕ, zero, suc, ◌+◌, ◌-◌, ◌*◌, ◌≤◌, ◌<◌, ◌==◌, Bool, true, false, ◌&&◌, cond, List, [], length, refl, sym, ap, ap₂, ◌∙◌, subst, arith, inl, inr, All, All-nil, All-weaker, le_of_mul-le-mul_left, cases_lt, mul-add, mul_comm, at_le_total, half, total_add, total_congr, total_mul, ℤ, pos, ◌+ℤ◌, ◌≤ℤ◌, ◌<ℤ◌, ints, Within, bit, count, total, Set, everything, none}
use Rattle.std.proofs.Common.{◌*ℤ◌}
use borrow.Author.Differences.{up, down}
use Rattle.quick_kinds.proofs.from_brick_kit.SetSums.{sum_plus}
use Rattle.quick_kinds.specs.from_brick_kit.Weights.{sum_over, weight_of}
use Rattle.graph_core.proofs.Common.{is_perfect_congr, is_perfect_true, odd_meets, true_is_perfect, first_end, in_cut, second_end, size, Graph, IsGraph, IsPerfect, degree, edges_in_cut, is_perfect}
use Rattle.theorems.proofs.FarkasLemma.{farkas}
use Rattle.theorems.proofs.FractionalBounds.{light_on_average}
use Rattle.theorems.proofs.IntegerVectors.{integer_total-congr}
use Rattle.theorems.proofs.ListedSets.{members_even, repeated, repeated_all, repeated_sum, sets_with, sum_flat, sum_least}
use Rattle.theorems.proofs.NumberedSets.{number_of, numbered, set_total}
use Rattle.theorems.proofs.RegularDegrees.{order_is_even, some_degree}
use Rattle.theorems.specs.Inequalities.{Combination, Separator, integer_total, scalar_product}
use Rattle.theorems.specs.Colourings.{FractionalColouring}
use Rattle.theorems.specs.RegularGraphs.{HasWideOddCuts, IsRegular, cut_size}

-- Σ over the list of the degrees of a vertex
degrees_even : (g : Graph) (k : ℕ) (ms : List Set) (v : ℕ) → ((e : ℕ) → Within (size g) e → sets_with ms e ≡ k) → sum_over (λ m. degree g m v) ms ≡ k * degree g everything v
degrees_even g k ms v equal =
    sum_plus (λ m. count (size g) (λ e. m e && (first_end g e == v))) (λ m. count (size g) (λ e. m e && (second_end g e == v))) ms
    ∙ ap₂ ◌+◌ (members_even (size g) k (λ e. first_end g e == v) ms equal) (members_even (size g) k (λ e. second_end g e == v) ms equal)
    ∙ sym (mul-add k (count (size g) (λ e. first_end g e == v)) (count (size g) (λ e. second_end g e == v)))

-- the list has r k members, where r edges are at some vertex
listed_degrees : (g : Graph) (k : ℕ) (ms : List Set) (v : ℕ) → Within g.order v → All (IsPerfect g none) ms → ((e : ℕ) → Within (size g) e → sets_with ms e ≡ k) → length ms ≡ k * degree g everything v
listed_degrees g k ms v w all equal =
    let s = sum_flat (λ m. degree g m v) 1 ms (All-weaker (IsPerfect g none) (λ m. degree g m v ≡ 1) (λ m p. p.once v w refl) ms all) in
    let d = degrees_even g k ms v equal in
    settle (length ms) (sum_over (λ m. degree g m v) ms) (k * degree g everything v) s d
  where
    settle : (a b c : ℕ) → b ≡ 1 * a → b ≡ c → a ≡ c
    settle a b c s d = omega arith

cancel : (k a b : ℕ) → 1 ≤ k → k * a ≤ k * b → a ≤ b
cancel k a b some l = le_of_mul-le-mul_left l some

module _ (r : ℕ) (g : Graph) (is : IsGraph g) (c : FractionalColouring r g) where
  pub coloured_regular : IsRegular r g
  coloured_regular v w =
      let l = listed_degrees g c.times c.matchings v w c.perfect c.equal in
      let e : c.times * degree g everything v ≡ c.times * r = sym l ∙ c.many ∙ mul_comm r c.times in
      even (degree g everything v) r (cancel c.times (degree g everything v) r c.some (below (c.times * degree g everything v) (c.times * r) e)) (cancel c.times r (degree g everything v) c.some (below (c.times * r) (c.times * degree g everything v) (sym e)))
    where
      even : (a b : ℕ) → a ≤ b → b ≤ a → a ≡ b
      even a b h k = omega arith

      below : (a b : ℕ) → a ≡ b → a ≤ b
      below a b h = omega arith

  pub coloured_wide : HasWideOddCuts r g
  coloured_wide x odd =
      let s = sum_least (λ m. edges_in_cut g m x) 1 c.matchings (All-weaker (IsPerfect g none) (λ m. 1 ≤ edges_in_cut g m x) (λ m p. odd_meets g m x is p odd) c.matchings c.perfect) in
      let t = members_even (size g) c.times (in_cut g x) c.matchings c.equal in
      cancel c.times r (cut_size g x) c.some (settle (length c.matchings) (sum_over (λ m. edges_in_cut g m x) c.matchings) (c.times * cut_size g x) (r * c.times) (c.times * r) s t c.many (mul_comm r c.times))
    where
      settle : (a b c d e : ℕ) → 1 * a ≤ b → b ≡ c → a ≡ d → d ≡ e → e ≤ c
      settle a b c d e h i j k = omega arith

-- the case of some edges at each vertex, and an even number of vertices
module _ (r : ℕ) (g : Graph) (is : IsGraph g) (regular : IsRegular r g) (wide : HasWideOddCuts r g) (h : ℕ) (even : h + h ≡ g.order) (some : 1 ≤ g.order) where
  abbrev is_right : ℕ → Bool
  is_right i = is_perfect g none (numbered (size g) i)

  -- the perfect matchings among all edge sets, and 0 for the others
  abbrev vectors : ℕ → ℕ → ℤ
  vectors i e = pos (bit (is_right i && numbered (size g) i e))

  abbrev ones : ℕ → ℤ
  ones e = pos 1

  module _ (c : Combination (set_total (size g)) (size g) vectors ones) where
    -- the list: each perfect matching as often as the combination takes it
    abbrev used : ℕ → ℕ
    used i = cond (is_right i) (c.times i) 0

    abbrev taken : ℕ → List Set
    taken zero = []
    taken (suc i) = repeated (used (suc i)) (numbered (size g) (suc i)) (taken i)

    kept : (b : Bool) (t : ℕ) (x : Set) (ms : List Set) → (b ≡ true → IsPerfect g none x) → All (IsPerfect g none) ms → All (IsPerfect g none) (repeated (cond b t 0) x ms)
    kept true t x ms p a = repeated_all (IsPerfect g none) t x ms (p refl) a
    kept false t x ms p a = a

    taken_perfect : (i : ℕ) → All (IsPerfect g none) (taken i)
    taken_perfect zero = All-nil (IsPerfect g none)
    taken_perfect (suc i) = kept (is_right (suc i)) (c.times (suc i)) (numbered (size g) (suc i)) (taken i) (is_perfect_true g none (numbered (size g) (suc i))) (taken_perfect i)

    part : (b d : Bool) (t : ℕ) → cond b t 0 * bit d ≡ t * bit (b && d)
    part true d t = refl
    part false d t = omega arith

    taken_sum : (i e : ℕ) → sets_with (taken i) e ≡ total i (λ i. c.times i * bit (is_right i && numbered (size g) i e))
    taken_sum zero e = refl
    taken_sum (suc i) e = settle (sets_with (taken (suc i)) e) (used (suc i) * bit (numbered (size g) (suc i) e)) (sets_with (taken i) e)
        (total i (λ i. c.times i * bit (is_right i && numbered (size g) i e))) (c.times (suc i) * bit (is_right (suc i) && numbered (size g) (suc i) e))
        (repeated_sum (λ m. bit (m e)) (used (suc i)) (numbered (size g) (suc i)) (taken i))
        (taken_sum i e)
        (part (is_right (suc i)) (numbered (size g) (suc i) e) (c.times (suc i)))
      where
        settle : (a b c d f : ℕ) → a ≡ b + c → c ≡ d → b ≡ f → a ≡ d + f
        settle a b c d f h i j = omega arith

    whole_total : (n : ℕ) (f : ℕ → ℕ) → integer_total n (λ i. pos (f i)) ≡ pos (total n f)
    whole_total zero f = refl
    whole_total (suc n) f = ap (λ t. t +ℤ pos (f (suc n))) (whole_total n f)

    equal : (e : ℕ) → Within (size g) e → sets_with (taken (set_total (size g))) e ≡ c.multiple
    equal e w =
        taken_sum (set_total (size g)) e
        ∙ same (total (set_total (size g)) (λ i. c.times i * bit (is_right i && numbered (size g) i e))) c.multiple
        (sym (whole_total (set_total (size g)) (λ i. c.times i * bit (is_right i && numbered (size g) i e))) ∙ c.equal e w)
      where
        same : (a b : ℕ) → pos a ≡ pos b *ℤ pos 1 → a ≡ b
        same a b h = omega (arith, ints)

    colouring_from : FractionalColouring r g
    colouring_from = record {
      matchings = taken (set_total (size g));
      times = c.multiple;
      some = c.positive;
      perfect = taken_perfect (set_total (size g));
      equal = equal;
      many = listed_degrees g c.multiple (taken (set_total (size g))) 1 (omega arith) (taken_perfect (set_total (size g))) equal ∙ ap (λ k. c.multiple * k) (regular 1 (omega arith)) ∙ mul_comm c.multiple r;
    }

  module _ (s : Separator (set_total (size g)) (size g) vectors ones) where
    -- what is added at each edge
    abbrev most : ℕ
    most = total (size g) (λ e. down (s.normal e))

    abbrev weight : ℕ → ℕ
    weight e = up (s.normal e) + (most - down (s.normal e))

    -- the weight of a set, in three ways
    abbrev ups : Set → ℕ
    ups m = total (size g) (λ e. bit (m e) * up (s.normal e))

    abbrev downs : Set → ℕ
    downs m = total (size g) (λ e. bit (m e) * down (s.normal e))

    raised : (m : Set) → weight_of g weight m + downs m ≡ ups m + most * count (size g) m
    raised m =
        sym (total_add (size g) (λ e. bit (m e) * weight e) (λ e. bit (m e) * down (s.normal e)))
        ∙ total_congr (size g) (λ e. bit (m e) * weight e + bit (m e) * down (s.normal e)) (λ e. bit (m e) * up (s.normal e) + most * bit (m e)) (λ e w. each (m e) (up (s.normal e)) (down (s.normal e)) (at_le_total (size g) (λ e. down (s.normal e)) e w))
        ∙ total_add (size g) (λ e. bit (m e) * up (s.normal e)) (λ e. most * bit (m e))
        ∙ ap (λ k. ups m + k) (total_mul (size g) most (λ e. bit (m e)))
      where
        each : (b : Bool) (x y : ℕ) → y ≤ most → bit b * (x + (most - y)) + bit b * y ≡ bit b * x + most * bit b
        each true x y l = omega arith
        each false x y l = omega arith

    signed_parts : (n : ℕ) (z : ℕ → ℤ) (m : Set) → scalar_product n z (λ e. pos (bit (m e))) +ℤ pos (total n (λ e. bit (m e) * down (z e))) ≡ pos (total n (λ e. bit (m e) * up (z e)))
    signed_parts zero z m = refl
    signed_parts (suc n) z m = settle (scalar_product n z (λ e. pos (bit (m e)))) (z (suc n) *ℤ pos (bit (m (suc n))))
        (total n (λ e. bit (m e) * down (z e))) (total n (λ e. bit (m e) * up (z e))) (bit (m (suc n)) * down (z (suc n))) (bit (m (suc n)) * up (z (suc n)))
        (signed_parts n z m) (each (m (suc n)) (z (suc n)))
      where
        each : (b : Bool) (z : ℤ) → z *ℤ pos (bit b) +ℤ pos (bit b * down z) ≡ pos (bit b * up z)
        each true z = omega (arith, ints)
        each false z = omega (arith, ints)

        settle : (a t : ℤ) (b c y x : ℕ) → a +ℤ pos b ≡ pos c → t +ℤ pos y ≡ pos x → (a +ℤ t) +ℤ pos (b + y) ≡ pos (c + x)
        settle a t b c y x h k = omega (arith, ints)

    low_parts : (z : ℤ) (a b : ℕ) → z +ℤ pos a ≡ pos b → z ≤ℤ pos 0 → b ≤ a
    low_parts z a b h l = omega (arith, ints)

    high_parts : (z : ℤ) (a b : ℕ) → z +ℤ pos a ≡ pos b → pos 0 <ℤ z → a < b
    high_parts z a b h l = omega (arith, ints)

    light : (p : Set) → IsPerfect g none p → weight_of g weight p ≤ most * count (size g) p
    light p pp =
        let f = number_of (size g) p in
        let right = is_perfect_congr g none (numbered (size g) f.0) p f.2 ∙ true_is_perfect g none p pp in
        let low = low_parts (scalar_product (size g) s.normal (λ e. pos (bit (p e)))) (downs p) (ups p) (signed_parts (size g) s.normal p) (subst (λ t. t ≤ℤ pos 0) (same f.0 right f.2) (s.low f.0 f.1)) in
        close (weight_of g weight p) (downs p) (ups p) (most * count (size g) p) (raised p) low
      where
        same : (i : ℕ) → is_right i ≡ true → ((e : ℕ) → Within (size g) e → numbered (size g) i e ≡ p e) → scalar_product (size g) s.normal (vectors i) ≡ scalar_product (size g) s.normal (λ e. pos (bit (p e)))
        same i right h = integer_total-congr (size g) (λ e. s.normal e *ℤ vectors i e) (λ e. s.normal e *ℤ pos (bit (p e))) (λ e w. ap (λ b. s.normal e *ℤ pos (bit b)) (ap₂ ◌&&◌ right (h e w)))

        close : (w d u k : ℕ) → w + d ≡ u + k → u ≤ d → w ≤ k
        close w d u k e l = omega arith

    clash : ⊥
    clash =
        let high = high_parts (scalar_product (size g) s.normal ones) (downs everything) (ups everything) (signed_parts (size g) s.normal everything) s.high in
        let l = light_on_average r g is regular wide h even weight most light in
        close (weight_of g weight everything) (downs everything) (ups everything) (most * count (size g) everything) (raised everything) high l
      where
        close : (w d u k : ℕ) → w + d ≡ u + k → d < u → w ≤ k → ⊥
        close w d u k e i l = omega arith

  colouring_even : FractionalColouring r g
  colouring_even = elim (farkas (set_total (size g)) (size g) vectors ones) [
    | inl c ↦ colouring_from c
    | inr s ↦ absurd (clash s)
  ]

-- no vertex: the empty set, r times
no_vertex : (r : ℕ) (g : Graph) → IsGraph g → g.order ≡ 0 → FractionalColouring r g
no_vertex r g is zero_order = record {
  matchings = repeated r none [];
  times = 1;
  some = omega arith;
  perfect = repeated_all (IsPerfect g none) r none [] (record { once = λ v w f. absurd (omega arith); away = λ v w f. absurd (omega arith) }) (All-nil (IsPerfect g none));
  many = times_length r ∙ omega arith;
  equal = λ e w. absurd (let i = (is e w).0 in omega arith);
}
  where
    times_length : (r : ℕ) → length (repeated r none []) ≡ r
    times_length zero = refl
    times_length (suc r) = ap suc (times_length r)

-- no edge: the empty list
no_edge : (g : Graph) → IsGraph g → IsRegular 0 g → FractionalColouring 0 g
no_edge g is regular = record {
  matchings = [];
  times = 1;
  some = omega arith;
  perfect = All-nil (IsPerfect g none);
  many = refl;
  equal = λ e w. absurd (let i = some_degree 0 g e is regular w in omega arith);
}

pub has_colouring : (r : ℕ) (g : Graph) → IsGraph g → IsRegular r g → HasWideOddCuts r g → FractionalColouring r g
has_colouring zero g is regular wide = no_edge g is regular
has_colouring (suc r) g is regular wide = elim (cases_lt 0 g.order) [
  | inr few ↦ no_vertex (suc r) g is (omega arith)
  | inl some ↦ let e = half g.order (order_is_even (suc r) g wide (omega arith)) in colouring_even (suc r) g is regular wide e.0 (sym e.1) some
]
