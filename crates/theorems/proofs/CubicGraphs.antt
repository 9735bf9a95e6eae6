-- Cubic graphs as 3-regular ones. The number of edges in a cut is odd if the set is, so a cubic
-- graph is 2-edge-connected if and only if it is connected and each odd set has three edges in its
-- cut; and a set without an edge in its cut and one vertex more have three.
use Rattle.tree_check.proofs.from_counting.Common.{◌≡◌, ◌≢◌, ℕ, suc, zero, ◌+◌, ◌*◌, ◌≤◌, Bool, true, false, ◌==◌, ◌&&◌, ◌||◌, not, refl, sym, ap, ◌∙◌, arith, eqb-true, ◌↔◌, ◌⊎◌, inl, inr, ◌%◌, cases_Bool, cases_lt, not-true, true≢false, count_complement, count_congr, count_member, count_plus, count_zero, complement_odd, is_odd_remainder, member_count, odd_pos, odd_three, count_singleton, total_none, Within, bit, count, is_odd, Set, complement, everything, none, singleton, union}
use Rattle.graph_core.proofs.Common.{joined_or_not, parted, Graph, IsConnected, IsCovered, IsGraph, IsMultigraph, first_end, in_cut, second_end, size, HasOnlyTrivialTightCuts, IsNontrivial, IsSide, IsTight}
use Rattle.bench_tasks.specs.from_grow_gen.Common.{IsCubic}
use Rattle.theorems.proofs.BrickFacts.{turned_cut}
use Rattle.theorems.proofs.Quotients.{bipartite-or}
use Rattle.theorems.proofs.RegularCuts.{tight_size, wide_trivial}
use Rattle.theorems.proofs.RegularDegrees.{all_edges, each_degree, inner_size, two_inside}
use Rattle.theorems.proofs.RegularMatchings.{regular_covered}
use Rattle.theorems.proofs.RegularSides.{brace_or_narrow, narrow_tight, sides_wide}
use Rattle.theorems.specs.CutWords.{IsBrace, IsBrick}
use Rattle.theorems.specs.RegularGraphs.{HasWideOddCuts, IsTwoEdgeConnected, cut_size}

-- the cut of a set is odd if the set is
odd_alike : (k c i : ℕ) → 3 * k ≡ c + 2 * i → is_odd k ≡ is_odd c
odd_alike k c i h = is_odd_remainder k ∙ ap (λ r. r == 1) (let e : k % 2 ≡ c % 2 = omega arith in e) ∙ sym (is_odd_remainder c)

module _ (g : Graph) (is : IsGraph g) (cubic : IsCubic g) where
  odd_cut : (x : Set) → is_odd (count g.order x) ≡ is_odd (cut_size g x)
  odd_cut x = odd_alike (count g.order x) (cut_size g x) (inner_size g x) (each_degree 3 g x is cubic)

  even_order : is_odd g.order ≡ false
  even_order = odd_alike g.order 0 (count (size g) everything) (let h = all_edges 3 g is cubic in omega arith)

  connected : IsTwoEdgeConnected g → IsConnected g
  connected two u v wu wv = elim (joined_or_not g none is u v wu) [
    | inl j ↦ j
    | inr alone ↦
        let p = (parted g u v is wu wv).0 alone in
        let z : cut_size g p.0 ≡ 0 = total_none (size g) _ (λ e w. ap bit (p.3 e w)) in
        let t = two p.0 u v wu wv p.1 p.2 in absurd (omega arith)
  ]

  -- an odd set has three edges in its cut
  three_in_cut : IsTwoEdgeConnected g → HasWideOddCuts 3 g
  three_in_cut two x odd =
      let u = count_member g.order x (let p = odd_pos (count g.order x) odd in omega arith) in
      let o = complement_odd g.order x even_order odd in
      let v = count_member g.order (complement x) (let p = odd_pos (count g.order (complement x)) o in omega arith) in
      odd_three (cut_size g x) (sym (odd_cut x) ∙ odd) (two x u.0 v.0 u.1 v.1 u.2 (not-true (x v.0) v.2))

  -- an even one has two, unless no edge leaves it
  two_in_cut : IsConnected g → HasWideOddCuts 3 g → IsTwoEdgeConnected g
  two_in_cut joined wide x u v wu wv xu xv = elim (cases_Bool (is_odd (count g.order x))) [
    | inl odd ↦ let w = wide x odd in omega arith
    | inr even ↦ two_from (cut_size g x) (λ z. (parted g u v is wu wv).1 (x, xu, xv, λ e w. count_zero (size g) (in_cut g x) z e w) (joined u v wu wv)) (sym (odd_cut x) ∙ even)
  ]
    where
      two_from : (k : ℕ) → k ≢ 0 → is_odd k ≡ false → 2 ≤ k
      two_from zero h o = absurd (h refl)
      two_from (suc zero) h o = absurd (true≢false o)
      two_from (suc (suc k)) h o = omega arith

  pub two_edge_or_wide : IsTwoEdgeConnected g ↔ (IsConnected g × HasWideOddCuts 3 g)
  two_edge_or_wide = ((λ two. (connected two, three_in_cut two)), (λ h. two_in_cut h.0 h.1))

pub cubic_covered : (g : Graph) → IsMultigraph g → IsCubic g → 2 ≤ g.order → IsTwoEdgeConnected g → IsCovered g
cubic_covered g is cubic many two = regular_covered 3 g is cubic (three_in_cut g is.ends cubic two) many (connected g is.ends cubic two)

pub cubic_tight : (g : Graph) (x : Set) → IsMultigraph g → IsCubic g → IsTwoEdgeConnected g → IsTight g x → cut_size g x ≡ 3
cubic_tight g x is cubic two t = tight_size 3 g is.ends cubic (three_in_cut g is.ends cubic two) x t

pub cubic_wide : (g : Graph) → IsMultigraph g → IsCubic g → ((x : Set) → IsNontrivial g.order x → 4 ≤ cut_size g x) → HasOnlyTrivialTightCuts g
cubic_wide g is cubic wide = wide_trivial 3 g is cubic (λ x n odd. wide x n)

module _ (g : Graph) (a : Set) (is : IsMultigraph g) (cubic : IsCubic g) (two : IsSide g a) where
  three_odd : (x : Set) → cut_size g x ≡ 3 → is_odd (count g.order x) ≡ true
  three_odd x three = odd_cut g is.ends cubic x ∙ ap is_odd three

  pub cubic_narrow : (x : Set) → cut_size g x ≡ 3 → IsTight g x
  cubic_narrow x three = narrow_tight 3 g is cubic a two x (omega arith) (three_odd x three) three

  pub cubic_sides : IsConnected g → IsTwoEdgeConnected g
  cubic_sides joined = two_in_cut g is.ends cubic joined (sides_wide 3 g is cubic a two)

  pub cubic_brace : HasOnlyTrivialTightCuts g ↔ ((x : Set) → IsNontrivial g.order x → cut_size g x ≢ 3)
  cubic_brace = (
    (λ brace x n three. brace x (cubic_narrow x three) n),
    (λ h. (brace_or_narrow 3 g is cubic a two (omega arith)).1 (λ x n odd. h x n)),
  )

module _ (g : Graph) (is : IsMultigraph g) (cubic : IsCubic g) where
  -- the cut of a vertex
  lone_cut : (w : ℕ) → Within g.order w → cut_size g (singleton w) ≡ 3
  lone_cut w ww =
      let h = each_degree 3 g (singleton w) is.ends cubic in
      let c = count_singleton g.order w ww in
      elim (cases_lt 0 (inner_size g (singleton w))) [
        | inl some ↦ let t = two_inside g (singleton w) is some in absurd (omega arith)
        | inr never ↦ omega arith
      ]

  more_cut : (x : Set) (w : ℕ) → Within g.order w → cut_size g x ≡ 0 → x w ≡ false → cut_size g (union x (singleton w)) ≡ 3
  more_cut x w ww z out =
      count_congr (size g) _ _ (λ e we. go (x (first_end g e)) (x (second_end g e)) (w == first_end g e) (w == second_end g e) (count_zero (size g) (λ e. everything e && in_cut g x e) z e we)
      (λ h. ap x (sym (eqb-true w (first_end g e) h)) ∙ out) (λ h. ap x (sym (eqb-true w (second_end g e) h)) ∙ out))
      ∙ lone_cut w ww
    where
      go : (a b i j : Bool) → ((a && not b) || (not a && b)) ≡ false → (i ≡ true → a ≡ false) → (j ≡ true → b ≡ false) → (((a || i) && not (b || j)) || (not (a || i) && (b || j))) ≡ ((i && not j) || (not i && j))
      go a b i j h k l = grind arith

  module _ (six : 6 ≤ g.order) (wide : (x : Set) → IsNontrivial g.order x → 4 ≤ cut_size g x) where
    grown : (x : Set) (u w : ℕ) → Within g.order u → Within g.order w → x u ≡ true → x w ≡ false → cut_size g x ≡ 0 → count g.order x + 4 ≤ g.order → ⊥
    grown x u w wu ww xu xw z few =
        let h = each_degree 3 g x is.ends cubic in
        let m = member_count g.order x u wu xu in
        let p = count_plus g.order x w ww xw in
        let c = count_complement g.order (union x (singleton w)) in
        let n = wide (union x (singleton w)) (record { inside = omega arith; outside = omega arith }) in
        let t = more_cut x w ww z xw in absurd (omega arith)

    -- each set that is neither empty nor all has an edge in its cut
    no_gap : (x : Set) (u v : ℕ) → Within g.order u → Within g.order v → x u ≡ true → x v ≡ false → cut_size g x ≢ 0
    no_gap x u v wu wv xu xv z = elim (cases_lt g.order (count g.order x + 4)) [
      | inr l ↦ grown x u v wu wv xu xv z l
      | inl l ↦
          let c = count_complement g.order x in
          let y = turned_cut g everything x ∙ z in
          let h = each_degree 3 g (complement x) is.ends cubic in
          grown (complement x) v u wv wu (ap not xv) (ap not xu) y (omega arith)
    ]

    -- a bridge has three vertices on each side
    no_bridge : (x : Set) → cut_size g x ≢ 1
    no_bridge x one =
        let y = turned_cut g everything x ∙ one in
        let h = each_degree 3 g x is.ends cubic in
        let k = each_degree 3 g (complement x) is.ends cubic in
        let a = two_inside g x is (some (count g.order x) (cut_size g x) (inner_size g x) h one) in
        let b = two_inside g (complement x) is (some (count g.order (complement x)) (cut_size g (complement x)) (inner_size g (complement x)) k y) in
        let w = wide x (record { inside = omega arith; outside = omega arith }) in absurd (omega arith)
      where
        some : (k c i : ℕ) → 3 * k ≡ c + 2 * i → c ≡ 1 → 1 ≤ i
        some k c i h one = omega arith

    two_edge : IsTwoEdgeConnected g
    two_edge x u v wu wv xu xv = more (cut_size g x) (no_gap x u v wu wv xu xv) (no_bridge x)
      where
        more : (k : ℕ) → k ≢ 0 → k ≢ 1 → 2 ≤ k
        more zero h i = absurd (h refl)
        more (suc zero) h i = absurd (i refl)
        more (suc (suc k)) h i = omega arith

    pub essential_kinds : IsBrick g ⊎ IsBrace g
    essential_kinds =
        let cov = cubic_covered g is cubic (omega arith) two_edge in
        elim (bipartite-or g is.ends) [
          | inl sides ↦ inr (cov, (sides, cubic_wide g is cubic wide))
          | inr odd ↦ inl (cov, (odd, cubic_wide g is cubic wide))
        ]
