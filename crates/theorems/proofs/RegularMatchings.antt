-- In an r-graph each edge is in a perfect matching. Else the law of Tutte and Berge leaves, beside
-- the ends of an edge, a set T with as many odd components; r edges leave each of them for T,
-- which has an edge inside.
use Rattle.tree_check.proofs.from_counting.Common.{◌≡◌, ◌≢◌, ℕ, suc, zero, ◌+◌, ◌*◌, ◌≤◌, Bool, true, false, ◌==◌, ◌&&◌, ◌||◌, not, refl, sym, ap, ◌∙◌, arith, eq-eqb, inl, inr, and_parts, cases_eq, true≢false, or_left, or_right, count_congr, member_count, count_mono, total_le, total_mul, Within, bit, count, is_odd, Set, everything, none, union}
use Rattle.std.proofs.Math.Nat.{le_of_mul-le-mul_left, mul-le-mul_left}
use Rattle.barrier_kit.proofs.Common.{covers, covers_out, covers_step, cut_family, two_less, same_parity}
use Rattle.graph_core.proofs.Common.{none_missed-perfect, is_least, odd_component_count, IsConnected, IsCovered, Graph, IsGraph, IsMultigraph, edges_in_cut, first_end, in_cut, inside, second_end, size, Allowed, HasPerfect, missed_count, joined}
use Rattle.match_core.proofs.TutteBerge.{TutteBerge, tutte_berge}
use Rattle.theorems.proofs.AddedEdges.{allowed_from, ends_set}
use Rattle.theorems.proofs.RegularDegrees.{each_degree, order_is_even, some_degree}
use Rattle.theorems.proofs.TutteBergeGallai.{tutte}
use Rattle.theorems.specs.RegularGraphs.{HasWideOddCuts, IsRegular, cut_size}

module _ (r : ℕ) (g : Graph) (is : IsGraph g) (regular : IsRegular r g) (wide : HasWideOddCuts r g) where
  -- the odd components without s have r edges each that leave them for s
  module _ (s : Set) where
    abbrev leads : Set
    leads u = is_least g s u && is_odd (count g.order (joined g s u))

    least : (u : ℕ) → leads u ≡ true → is_least g s u ≡ true
    least u h = (and_parts (is_least g s u) (is_odd (count g.order (joined g s u))) h).0

    each : (u : ℕ) → (b : Bool) → leads u ≡ b → r * bit (leads u) ≤ bit (leads u) * edges_in_cut g everything (joined g s u)
    each u false h = rw h (omega arith)
    each u true h = rw h (let t = wide (joined g s u) (and_parts (is_least g s u) (is_odd (count g.order (joined g s u))) h).1 in omega arith)

    many : r * odd_component_count g s ≤ cut_size g s
    unfolding odd_component_count
    many =
        let l = total_le g.order (λ u. r * bit (leads u)) (λ u. bit (leads u) * edges_in_cut g everything (joined g s u)) (λ u w. each u (leads u) refl) in
        let k = total_mul g.order r (λ u. bit (leads u)) in
        let f = cut_family g is s leads least everything in
        let m = count_mono (size g) (λ e. everything e && in_cut g (covers g is s leads least) e) (λ e. everything e && in_cut g s e) (λ e w h.
        into (covers g is s leads least (first_end g e)) (covers g is s leads least (second_end g e)) (s (first_end g e)) (s (second_end g e))
        (covers_out g is s leads least (first_end g e) (is e w).0) (covers_out g is s leads least (second_end g e) (is e w).1) (covers_step g is s leads least e w) h) in
        omega arith
      where
        into : (a b c d : Bool) → (c ≡ true → a ≡ false) → (d ≡ true → b ≡ false) → (c ≡ false → d ≡ false → a ≡ b) → ((a && not b) || (not a && b)) ≡ true → ((c && not d) || (not c && d)) ≡ true
        into a b c d h i k l = grind arith

  -- a set with an edge inside leaves fewer odd components than it has vertices
  few : (s : Set) (e : ℕ) → Within (size g) e → s (first_end g e) ≡ true → s (second_end g e) ≡ true → count g.order s ≤ odd_component_count g s → ⊥
  few s e w sa sb le =
      let m = many s in
      let t = each_degree r g s is regular in
      let l = mul-le-mul_left r le in
      let i = member_count (size g) (λ e. everything e && inside g s e) e w (rw (sa, sb) refl) in absurd (omega arith)

  pub regular_allowed : (e : ℕ) → Within (size g) e → first_end g e ≢ second_end g e → Allowed g e
  regular_allowed e w d = elim (cases_eq (missed_count g (ends_set g e) t.m) 0) [
    | inl z ↦ allowed_from g e is w d (t.m, none_missed-perfect g (ends_set g e) t.m t.is z)
    | inr n ↦ absurd (few big e w first second (settle (missed_count g (ends_set g e) t.m) (count g.order t.s) (odd_component_count g big) (count g.order big) t.equal big_count n (same_parity g big is (order_is_even r g wide (some_degree r g e is regular w)))))
  ]
    where
      t : TutteBerge g (ends_set g e)
      t = tutte_berge g (ends_set g e) is

      big : Set
      big = union (ends_set g e) t.s

      first : union (ends_set g e) t.s (first_end g e) ≡ true
      first = or_left (ends_set g e (first_end g e)) (t.s (first_end g e)) (or_left (first_end g e == first_end g e) (second_end g e == first_end g e) (eq-eqb (first_end g e) (first_end g e) refl))

      second : union (ends_set g e) t.s (second_end g e) ≡ true
      second = or_left (ends_set g e (second_end g e)) (t.s (second_end g e)) (or_right (first_end g e == second_end g e) (second_end g e == second_end g e) (eq-eqb (second_end g e) (second_end g e) refl))

      big_count : count g.order (union (ends_set g e) t.s) ≡ count g.order t.s + 2
      big_count = two_less g.order (union (ends_set g e) t.s) (first_end g e) (second_end g e) (is e w).0 (is e w).1 d first second
          ∙ ap (λ k. k + 2) (count_congr g.order _ _ (λ v wv. drop_pair (ends_set g e v) (t.s v) (t.outside v)))
        where
          drop_pair : (x y : Bool) → (y ≡ true → x ≡ false) → ((x || y) && not x) ≡ y
          drop_pair x y h = grind arith

      settle : (k c o n : ℕ) → k + c ≡ o → n ≡ c + 2 → (k ≡ 0 → ⊥) → is_odd o ≡ is_odd n → n ≤ o
      settle zero c o n e f h q = absurd (h refl)
      settle (suc zero) c o n e f h q = absurd (flip (is_odd o) (q ∙ ap is_odd (next e f)))
        where
          next : suc zero + c ≡ o → n ≡ c + 2 → n ≡ suc o
          next e f = omega arith

          flip : (x : Bool) → x ≡ not x → ⊥
          flip true h = true≢false h
          flip false h = true≢false (sym h)
      settle (suc (suc k)) c o n e f h q = omega arith

  -- a perfect matching, by Tutte's theorem
  pub regular_perfect : 1 ≤ r → HasPerfect g none
  regular_perfect some = (tutte g is).1 (λ s.
      let m = many s in
      let t = each_degree r g s is regular in
      let l : r * odd_component_count g s ≤ r * count g.order s = omega arith in le_of_mul-le-mul_left l some)

pub regular_covered : (r : ℕ) (g : Graph) → IsMultigraph g → IsRegular r g → HasWideOddCuts r g → 2 ≤ g.order → IsConnected g → IsCovered g
regular_covered r g is regular wide two connected = record { two = two; connected = connected; allowed = regular_allowed r g is.ends regular wide }
