-- An r-graph without some edges. The cut of an odd set and r are odd together, so an (r - 1)-edge-
-- connected r-regular graph of even order is an r-graph. If fewer than r edges are deleted, there
-- is a perfect matching: else some set S leaves |S| + 2 odd components; r edges leave each of them,
-- for S but for the deleted edges, each of which leaves at most two.
use Rattle.tree_check.proofs.from_counting.Common.{◌≡◌, ◌≢◌, ℕ, suc, zero, ◌+◌, ◌*◌, ◌/◌, ◌≤◌, Bool, true, false, ◌&&◌, ◌||◌, not, refl, sym, ap, ◌∙◌, arith, eqb-true, mul-add, mul-le-mul_left, ◌%◌, and_parts, and_second, cases_eq, complement_odd, count_member, inl, inr, is_odd_remainder, not-true, odd_pos, total_add, total_congr, total_le, total_mul, total_none, total_swap, true≢false, Within, bit, count, is_odd, total, Set, complement, everything, none}
use Rattle.barrier_kit.proofs.Common.{cover_one, covers, covers_out, covers_step, cut_family, same_parity}
use Rattle.graph_core.proofs.Common.{none_missed-perfect, is_least, joined, odd_component_count, missed_count, edges_in_cut, first_end, second_end, in_cut, size, Graph, IsGraph, IsMultigraph, IsPerfect}
use Rattle.match_core.proofs.TutteBerge.{TutteBerge, tutte_berge}
use Rattle.theorems.proofs.LoopedEdges.{looped, looped_cut, looped_free, looped_graph, looped_order, looped_perfect, looped_size}
use Rattle.theorems.proofs.RegularDegrees.{each_degree, inner_size, order_is_even}
use Rattle.theorems.specs.RegularGraphs.{HasWideOddCuts, IsRegular, cut_size}

-- an (r - 1)-edge-connected r-regular graph of even order is an r-graph: the cut of an odd set and r
-- are odd together
pub connected_wide : (r : ℕ) (g : Graph) → IsMultigraph g → IsRegular r g → is_odd g.order ≡ false →
    ((x : Set) (u v : ℕ) → Within g.order u → Within g.order v → x u ≡ true → x v ≡ false → r ≤ cut_size g x + 1) → HasWideOddCuts r g
connected_wide r g is regular even connected x odd =
    let u = count_member g.order x (odd_pos (count g.order x) odd) in
    let v = count_member g.order (complement x) (odd_pos (count g.order (complement x)) (complement_odd g.order x even odd)) in
    half (count g.order x) (cut_size g x) (inner_size g x) (each_degree r g x is.ends regular) (connected x u.0 v.0 u.1 v.1 u.2 (not-true (x v.0) v.2))
    (eqb-true (count g.order x % 2) 1 (sym (is_odd_remainder (count g.order x)) ∙ odd))
  where
    half : (k c i : ℕ) → r * k ≡ c + 2 * i → r ≤ c + 1 → k % 2 ≡ 1 → r ≤ c
    half k c i h l o =
        let e : k ≡ (k / 2 + k / 2) + 1 = omega arith in
        let p = mul-add r (k / 2 + k / 2) 1 in
        let q = mul-add r (k / 2) (k / 2) in
        let s = ap (λ j. r * j) e in omega arith

module _ (r : ℕ) (g : Graph) (f : Set) (is : IsMultigraph g) (regular : IsRegular r g) (wide : HasWideOddCuts r g) (few : count (size g) f + 1 ≤ r) where
  -- the chosen edges as loops
  abbrev h : Graph
  h = looped g f

  is_h : IsGraph h
  is_h = looped_graph g f is.ends

  -- how the edges of g in a cut split
  split_cut : (x : Set) → cut_size g x ≤ edges_in_cut h everything x + edges_in_cut g f x
  split_cut x =
      let s = ap (λ n. count n (λ e. everything e && in_cut h x e)) (looped_size g f) in
      let l = total_le (size g) (λ e. bit (everything e && in_cut g x e)) (λ e. bit (everything e && in_cut h x e) + bit (f e && in_cut g x e)) (λ e w. bits (in_cut h x e) (f e) (in_cut g x e) (looped_cut g f x e w)) in
      let a = total_add (size g) (λ e. bit (everything e && in_cut h x e)) (λ e. bit (f e && in_cut g x e)) in omega arith
    where
      bits : (p q r : Bool) → p ≡ (not q && r) → bit r ≤ bit p + bit (q && r)
      bits p q r e = grind arith

  module _ (s : Set) where
    -- the least vertices of the odd components without s
    abbrev leads : Set
    leads u = is_least h s u && is_odd (count h.order (joined h s u))

    least : (u : ℕ) → leads u ≡ true → is_least h s u ≡ true
    least u t = (and_parts (is_least h s u) (is_odd (count h.order (joined h s u))) t).0

    abbrev part : ℕ → Set
    part u = joined h s u

    each : (u : ℕ) (b : Bool) → leads u ≡ b → r * bit (leads u) ≤ bit (leads u) * edges_in_cut h everything (part u) + bit (leads u) * edges_in_cut g f (part u)
    each u false e = rw e (omega arith)
    each u true e = rw e (let c = split_cut (part u) in let t = wide (part u) (ap (λ n. is_odd (count n (part u))) (sym (looped_order g f)) ∙ (and_parts (is_least h s u) (is_odd (count h.order (joined h s u))) e).1) in omega arith)

    -- the edges that stay lead to s
    stay : total h.order (λ u. bit (leads u) * edges_in_cut h everything (part u)) ≤ cut_size g s
    stay =
        let c = cut_family h is_h s leads least everything in
        let n = ap (λ n. count n (λ e. everything e && in_cut h (covers h is_h s leads least) e)) (looped_size g f) in
        let l = total_le (size g) (λ e. bit (everything e && in_cut h (covers h is_h s leads least) e)) (λ e. bit (everything e && in_cut g s e)) (λ e w. within e w (let z = looped_size g f in omega arith)) in omega arith
      where
        into : (a b c d k : Bool) → (c ≡ true → a ≡ false) → (d ≡ true → b ≡ false) → (c ≡ false → d ≡ false → a ≡ b) → (((c && not d) || (not c && d)) ≡ true → k ≡ true) → bit ((a && not b) || (not a && b)) ≤ bit k
        into a b c d k h i l m = grind arith

        within : (e : ℕ) → Within (size g) e → Within (size h) e → bit (everything e && in_cut h (covers h is_h s leads least) e) ≤ bit (everything e && in_cut g s e)
        within e w wh = into (covers h is_h s leads least (first_end h e)) (covers h is_h s leads least (second_end h e)) (s (first_end h e)) (s (second_end h e)) (in_cut g s e)
            (covers_out h is_h s leads least (first_end h e) (is_h e wh).0) (covers_out h is_h s leads least (second_end h e) (is_h e wh).1) (covers_step h is_h s leads least e wh)
            (λ t. and_second (not (f e)) (in_cut g s e) (sym (looped_cut g f s e w) ∙ t))

    -- a deleted edge leaves at most two components
    gone : total h.order (λ u. bit (leads u) * edges_in_cut g f (part u)) ≤ 2 * count (size g) f
    gone =
        let x = total_congr h.order (λ u. bit (leads u) * edges_in_cut g f (part u)) (λ u. total (size g) (λ e. bit (leads u) * bit (f e && in_cut g (part u) e))) (λ u w. sym (total_mul (size g) (bit (leads u)) (λ e. bit (f e && in_cut g (part u) e)))) in
        let y = total_swap h.order (size g) (λ u e. bit (leads u) * bit (f e && in_cut g (part u) e)) in
        let l = total_le (size g) (λ e. total h.order (λ u. bit (leads u) * bit (f e && in_cut g (part u) e))) (λ e. 2 * bit (f e)) (λ e w. at_most_two e w (f e) refl) in
        let z = total_mul (size g) 2 (λ e. bit (f e)) in omega arith
      where
        bits : (a b c : Bool) → bit a * bit ((b && not c) || (not b && c)) ≤ bit (a && b) + bit (a && c)
        bits a b c = grind arith

        at_most_two : (e : ℕ) → Within (size g) e → (b : Bool) → f e ≡ b → total h.order (λ u. bit (leads u) * bit (b && in_cut g (part u) e)) ≤ 2 * bit b
        at_most_two e w false q = let n = total_none h.order (λ u. bit (leads u) * 0) (λ u x. omega arith) in omega arith
        at_most_two e w true q =
            let o = looped_order g f in
            let l = total_le h.order (λ u. bit (leads u) * bit (in_cut g (part u) e)) (λ u. bit (leads u && part u (first_end g e)) + bit (leads u && part u (second_end g e))) (λ u x. bits (leads u) (part u (first_end g e)) (part u (second_end g e))) in
            let a = total_add h.order (λ u. bit (leads u && part u (first_end g e))) (λ u. bit (leads u && part u (second_end g e))) in
            let i = is.ends e w in
            let j = cover_one h is_h s leads least (first_end g e) (omega arith) in
            let k = cover_one h is_h s leads least (second_end g e) (omega arith) in omega arith

    all_leads : r * odd_component_count h s ≤ cut_size g s + 2 * count (size g) f
    unfolding odd_component_count
    all_leads =
        let l = total_le h.order (λ u. r * bit (leads u)) (λ u. bit (leads u) * edges_in_cut h everything (part u) + bit (leads u) * edges_in_cut g f (part u)) (λ u w. each u (leads u) refl) in
        let k = total_mul h.order r (λ u. bit (leads u)) in
        let a = total_add h.order (λ u. bit (leads u) * edges_in_cut h everything (part u)) (λ u. bit (leads u) * edges_in_cut g f (part u)) in
        let i = stay in let j = gone in omega arith

  pub deleted : (m : Set) × IsPerfect g none m × ((e : ℕ) → Within (size g) e → m e ≡ true → f e ≡ false)
  deleted = elim (cases_eq (missed_count h none t.m) 0) [
    | inl z ↦ let p = none_missed-perfect h none t.m t.is z in (t.m, looped_perfect g f is.ends t.m p, looped_free g f is.ends t.m p)
    | inr n ↦
        let o = looped_order g f in
        let even : is_odd h.order ≡ false = ap is_odd o ∙ order_is_even r g wide (omega arith) in
        let more = settle (missed_count h none t.m) (count h.order t.s) (odd_component_count h t.s) t.equal n (same_parity h t.s is_h even) in
        let a = all_leads t.s in
        let d = each_degree r g t.s is.ends regular in
        let s = ap (λ n. count n t.s) o in
        absurd (close (count g.order t.s) (odd_component_count h t.s) (cut_size g t.s) (inner_size g t.s) (omega arith) a d)
  ]
    where
      t : TutteBerge h none
      t = tutte_berge h none is_h

      settle : (k c o : ℕ) → k + c ≡ o → k ≢ 0 → is_odd o ≡ is_odd c → c + 2 ≤ o
      settle zero c o e n q = absurd (n refl)
      settle (suc zero) c o e n q = absurd (flip (is_odd c) (ap is_odd next ∙ q))
        where
          next : suc c ≡ o
          next = omega arith

          flip : (x : Bool) → not x ≡ x → ⊥
          flip true h = true≢false (sym h)
          flip false h = true≢false h
      settle (suc (suc k)) c o e n q = omega arith

      close : (c o k i : ℕ) → c + 2 ≤ o → r * o ≤ k + 2 * count (size g) f → r * c ≡ k + 2 * i → ⊥
      close c o k i l a d =
          let m = mul-le-mul_left r l in
          let n = mul-add r c 2 in
          let two : r * 2 ≡ r + r = omega arith in omega arith
