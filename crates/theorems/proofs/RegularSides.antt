-- A bipartite r-regular graph is an r-graph, and in it an odd set with r edges in its cut is
-- tight. With P and Q the two parts of a set, r|P| + R = r|Q| + L, where L and R count the edges
-- of the cut that leave at P and at Q.
use Rattle.tree_check.proofs.from_counting.Common.{◌≡◌, ◌≢◌, ℕ, suc, zero, ◌+◌, ◌*◌, ◌-◌, ◌≤◌, ◌<◌, Bool, true, false, ◌&&◌, ◌||◌, not, refl, sym, ap, ◌∙◌, arith, ◌↔◌, inl, inr, and_parts, cases_order, complement_odd, count_complement, count_mono, count_split, odd-double, total_add, total_congr, total_none, true≢false, Within, bit, count, is_odd, Set, complement, everything, meet, minus}
use Rattle.std.proofs.Math.Nat.{le-mul_of_pos_right, le_of_mul-le-mul_left, mul-add}
use Rattle.graph_core.proofs.Common.{IsSide, Graph, IsMultigraph, edges_in_cut, first_end, in_cut, second_end, size, CutIsTight, HasOnlyTrivialTightCuts, IsNontrivial, IsTight}
use Rattle.quick_kinds.proofs.from_matching_digraph.Balance.{balance, leaves_left, leaves_right}
use Rattle.theorems.proofs.RegularCuts.{tight_size}
use Rattle.theorems.proofs.RegularDegrees.{each_degree, inner_size}
use Rattle.theorems.specs.RegularGraphs.{HasWideOddCuts, IsRegular, cut_size}

-- more on one side by d, and what leaves there
more_leaves : (r p q l s : ℕ) → r * p + s ≡ r * q + l → q < p → (d : ℕ) × (p ≡ q + d) × (1 ≤ d) × (l ≡ s + r * d) × (r ≤ r * d)
more_leaves r p q l s h less =
    let e : p ≡ q + (p - q) = omega arith in
    let some : 0 < p - q = omega arith in
    let m = ap (λ k. r * k) e ∙ mul-add r q (p - q) in
    (p - q, e, some, let k : l ≡ s + r * (p - q) = omega arith in k, le-mul_of_pos_right r some)

module _ (r : ℕ) (g : Graph) (is : IsMultigraph g) (regular : IsRegular r g) (a : Set) (two : IsSide g a) where
  crosses : (e : ℕ) → Within (size g) e → in_cut g a e ≡ true
  crosses e w = two e w (is.no_loop e w)

  module _ (x : Set) where
    -- the edges that leave x at the side, and at the other one
    abbrev lefts : Set
    lefts = leaves_left g is.ends a two x

    abbrev rights : Set
    rights = leaves_right g is.ends a two x

    none_inside_left : inner_size g (meet x a) ≡ 0
    none_inside_left = total_none (size g) _ (λ e w. ap bit (out (a (first_end g e)) (a (second_end g e)) (x (first_end g e)) (x (second_end g e)) (crosses e w)))
      where
        out : (a b c d : Bool) → ((a && not b) || (not a && b)) ≡ true → ((c && a) && (d && b)) ≡ false
        out a b c d h = grind arith

    none_inside_right : inner_size g (minus x a) ≡ 0
    none_inside_right = total_none (size g) _ (λ e w. ap bit (out (a (first_end g e)) (a (second_end g e)) (x (first_end g e)) (x (second_end g e)) (crosses e w)))
      where
        out : (a b c d : Bool) → ((a && not b) || (not a && b)) ≡ true → ((c && not a) && (d && not b)) ≡ false
        out a b c d h = grind arith

    -- the cuts of the two parts
    parts_cut : cut_size g (meet x a) + count (size g) rights ≡ cut_size g (minus x a) + count (size g) lefts
    parts_cut =
        sym (total_add (size g) (λ e. bit (in_cut g (meet x a) e)) (λ e. bit (rights e)))
        ∙ total_congr (size g) _ _ (λ e w. first (a (first_end g e)) (a (second_end g e)) (x (first_end g e)) (x (second_end g e)) (crosses e w))
        ∙ total_add (size g) (λ e. bit (in_cut g (minus x a) e)) (λ e. bit (lefts e))
      where
        first : (a b c d : Bool) → ((a && not b) || (not a && b)) ≡ true →
            bit (((c && a) && not (d && b)) || (not (c && a) && (d && b))) + bit (((c && not a) && (not d && b)) || ((not c && a) && (d && not b)))
            ≡ bit (((c && not a) && not (d && not b)) || (not (c && not a) && (d && not b))) + bit (((c && a) && (not d && not b)) || ((not c && not a) && (d && b)))
        first a b c d h = grind arith

    cut_parts : count (size g) lefts + count (size g) rights ≡ cut_size g x
    cut_parts =
        sym (total_add (size g) (λ e. bit (lefts e)) (λ e. bit (rights e)))
        ∙ total_congr (size g) _ _ (λ e w. second (a (first_end g e)) (a (second_end g e)) (x (first_end g e)) (x (second_end g e)) (crosses e w))
      where
        second : (a b c d : Bool) → ((a && not b) || (not a && b)) ≡ true →
            bit (((c && a) && (not d && not b)) || ((not c && not a) && (d && b))) + bit (((c && not a) && (not d && b)) || ((not c && a) && (d && not b)))
            ≡ bit ((c && not d) || (not c && d))
        second a b c d h = grind arith

    -- r times the one part, and what leaves at the other
    part_degrees : r * count g.order (meet x a) + count (size g) rights ≡ r * count g.order (minus x a) + count (size g) lefts
    part_degrees =
        let p = each_degree r g (meet x a) is.ends regular in
        let q = each_degree r g (minus x a) is.ends regular in
        let i = none_inside_left in let j = none_inside_right in let c = parts_cut in
        settle (r * count g.order (meet x a)) (cut_size g (meet x a)) (inner_size g (meet x a)) (r * count g.order (minus x a)) (cut_size g (minus x a)) (inner_size g (minus x a)) (count (size g) rights) (count (size g) lefts) p i q j c
      where
        settle : (p cp ip q cq iq s l : ℕ) → p ≡ cp + 2 * ip → ip ≡ 0 → q ≡ cq + 2 * iq → iq ≡ 0 → cp + s ≡ cq + l → p + s ≡ q + l
        settle p cp ip q cq iq s l h i j k m = omega arith

    parts_differ : is_odd (count g.order x) ≡ true → count g.order (meet x a) ≢ count g.order (minus x a)
    parts_differ odd e = true≢false (sym odd ∙ ap is_odd (count_split g.order x a ∙ ap (λ k. k + count g.order (minus x a)) e) ∙ odd-double (count g.order (minus x a)))

    pub side_wide : is_odd (count g.order x) ≡ true → r ≤ cut_size g x
    side_wide odd = elim (cases_order (count g.order (meet x a)) (count g.order (minus x a))) [
      | inl e ↦ absurd (parts_differ odd e)
      | inr o ↦ elim o [
        | inl less ↦ let m = more_leaves r (count g.order (minus x a)) (count g.order (meet x a)) (count (size g) rights) (count (size g) lefts) (sym part_degrees) less in let c = cut_parts in omega arith
        | inr less ↦ let m = more_leaves r (count g.order (meet x a)) (count g.order (minus x a)) (count (size g) lefts) (count (size g) rights) part_degrees less in let c = cut_parts in omega arith
      ]
    ]

    -- a matching has no more of them
    some_of : (k m : Set) → count (size g) (λ e. m e && k e) ≤ count (size g) k
    some_of k m = count_mono (size g) (λ e. m e && k e) k (λ e w h. (and_parts (m e) (k e) h).1)

    -- with r edges in the cut the parts differ by one
    differ_by_one : (d s l : ℕ) → 1 ≤ r → 1 ≤ d → r ≤ r * d → l ≡ s + r * d → l + s ≡ r → (d ≡ 1) × (s ≡ 0)
    differ_by_one zero s l some pos h i j = absurd (omega arith)
    differ_by_one (suc zero) s l some pos h i j = (refl, omega arith)
    differ_by_one (suc (suc d)) s l some pos h i j =
        let e : suc (suc d) ≡ 1 + (1 + d) = omega arith in
        let m = ap (λ k. r * k) e ∙ mul-add r 1 (1 + d) ∙ ap (λ k. r * 1 + k) (mul-add r 1 d) in absurd (omega arith)

    narrow_cut : 1 ≤ r → is_odd (count g.order x) ≡ true → cut_size g x ≡ r → CutIsTight g x
    narrow_cut some odd size_r m p =
        let b = balance g is.ends a two x m p in
        let c = cut_parts in
        let i = some_of lefts m in
        let j = some_of rights m in
        elim (cases_order (count g.order (meet x a)) (count g.order (minus x a))) [
          | inl e ↦ absurd (parts_differ odd e)
          | inr o ↦ elim o [
            | inl less ↦
                let k = more_leaves r (count g.order (minus x a)) (count g.order (meet x a)) (count (size g) rights) (count (size g) lefts) (sym part_degrees) less in
                let z = differ_by_one k.0 (count (size g) lefts) (count (size g) rights) some k.2 k.4 k.3 (omega arith) in
                settle (count g.order (minus x a)) (count g.order (meet x a)) k.0 (count (size g) lefts) (count (size g) (λ e. m e && lefts e)) (count (size g) (λ e. m e && rights e)) (edges_in_cut g m x) k.1 z.0 z.1 i (sym b.0) (let q = b.1 in omega arith)
            | inr less ↦
                let k = more_leaves r (count g.order (meet x a)) (count g.order (minus x a)) (count (size g) lefts) (count (size g) rights) part_degrees less in
                let z = differ_by_one k.0 (count (size g) rights) (count (size g) lefts) some k.2 k.4 k.3 (omega arith) in
                settle (count g.order (meet x a)) (count g.order (minus x a)) k.0 (count (size g) rights) (count (size g) (λ e. m e && rights e)) (count (size g) (λ e. m e && lefts e)) (edges_in_cut g m x) k.1 z.0 z.1 j b.0 b.1
          ]
        ]
      where
        settle : (p q d s s' l' c : ℕ) → p ≡ q + d → d ≡ 1 → s ≡ 0 → s' ≤ s → p + s' ≡ q + l' → l' + s' ≡ c → c ≡ 1
        settle p q d s s' l' c h i j k l m = omega arith

  pub sides_wide : HasWideOddCuts r g
  sides_wide x odd = side_wide x odd

  -- the sides are equal, so the order is even
  even_sides : 1 ≤ r → is_odd g.order ≡ false
  even_sides some =
      let d = part_degrees everything in
      let l : count (size g) (lefts everything) ≡ 0 = total_none (size g) _ (λ e w. ap bit (none_out (a (first_end g e)) (a (second_end g e)))) in
      let s : count (size g) (rights everything) ≡ 0 = total_none (size g) _ (λ e w. ap bit (none_out' (a (first_end g e)) (a (second_end g e)))) in
      let p : r * count g.order a ≤ r * count g.order (complement a) = omega arith in
      let q : r * count g.order (complement a) ≤ r * count g.order a = omega arith in
      let i = le_of_mul-le-mul_left p some in
      let j = le_of_mul-le-mul_left q some in
      let c = count_complement g.order a in
      let e : g.order ≡ count g.order a + count g.order a = omega arith in ap is_odd e ∙ odd-double (count g.order a)
    where
      none_out : (p q : Bool) → (((true && p) && (not true && not q)) || ((not true && not p) && (true && q))) ≡ false
      none_out p q = grind arith

      none_out' : (p q : Bool) → (((true && not p) && (not true && q)) || ((not true && p) && (true && not q))) ≡ false
      none_out' p q = grind arith

  pub narrow_tight : (x : Set) → 1 ≤ r → is_odd (count g.order x) ≡ true → cut_size g x ≡ r → IsTight g x
  narrow_tight x some odd size_r = record { odd = odd; odd_complement = complement_odd g.order x (even_sides some) odd; cut = narrow_cut x some odd size_r }

  pub brace_or_narrow : 1 ≤ r → HasOnlyTrivialTightCuts g ↔ ((x : Set) → IsNontrivial g.order x → is_odd (count g.order x) ≡ true → cut_size g x ≢ r)
  brace_or_narrow some = (
    (λ brace x n odd size_r. brace x (narrow_tight x some odd size_r) n),
    (λ h x t n. h x n t.odd (tight_size r g is.ends regular sides_wide x t)),
  )
