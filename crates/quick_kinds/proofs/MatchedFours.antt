-- If deleting any two vertices of each side of a bipartite covered graph leaves a graph with a
-- perfect matching, there is no nontrivial tight cut. A tight set has one more vertex of one side,
-- and no edge leaves it from the other side; so deleting two vertices of the larger side inside it,
-- and two of the other side outside it, leaves no perfect matching.
use Rattle.graph_core.proofs.from_counting.Common.{◌≡◌, ℕ, suc, zero, ◌+◌, ◌*◌, ◌≤◌, ◌≢◌, Bool, true, false, ◌==◌, refl, ◌∙◌, arith, ◌&&◌, ◌||◌, not, ne_eqb, and_parts, not-false, not-true, count_congr, count_minus, two_of, count_split, total_congr, total_le, and_comm, bit, count, Within, Set, minus, meet, complement, singleton}
use Rattle.matching_digraph.proofs.from_barrier_kit.Common.{perfect_congr}
use Rattle.graph_core.proofs.Common.{IsSide, IsCovered, Graph, size, first_end, second_end, IsGraph, in_cut, degree, IsPerfect, IsTight, IsNontrivial, covered_perfect, degrees}
use Rattle.matching_digraph.proofs.Balance.{balance, crossing, equal_sides, leaves_left, leaves_right, left_of, no_inner, none_right, other_side, right_of}
use Rattle.quick_kinds.specs.Braces.{AreFoursMatched, four_set}

module _ (g : Graph) (is : IsGraph g) (cov : IsCovered g) where
  module _ (x : Set) (two : IsSide g x) where
    -- a nontrivial tight set with more on the left: four_set vertices that leave no perfect
    -- matching
    more_left : (y : Set) → IsTight g y → IsNontrivial g.order y → count g.order (meet y x) ≡ count g.order (minus y x) + 1 →
        ((a c b d : ℕ) → Within g.order a → Within g.order c → Within g.order b → Within g.order d → a ≢ c → b ≢ d → x a ≡ true → x c ≡ true → x b ≡ false → x d ≡ false → (m : Set) × IsPerfect g (four_set a c b d) m) → ⊥
    more_left y t n more match =
        let a = count_split g.order y x in
        let b = count_split g.order (complement y) x in
        let c = count_split g.order x y in
        let d = count_split g.order (complement x) y in
        let e = equal_sides g is x two cov in
        let f : count g.order (meet x y) ≡ count g.order (meet y x) = count_congr g.order _ _ (λ v w. and_comm (x v) (y v)) in
        let h : count g.order (minus x y) ≡ count g.order (meet (complement y) x) = count_congr g.order _ _ (λ v w. and_comm (x v) (not (y v))) in
        let i : count g.order (meet (complement x) y) ≡ count g.order (minus y x) = count_congr g.order _ _ (λ v w. and_comm (not (x v)) (y v)) in
        let j : count g.order (minus (complement x) y) ≡ count g.order (minus (complement y) x) = count_congr g.order _ _ (λ v w. and_comm (not (x v)) (not (y v))) in
        let inside = n.inside in
        let outside = n.outside in
        let p = two_of g.order (meet y x) (omega arith) in
        let q = two_of g.order (minus (complement y) x) (omega arith) in
        let pa = and_parts (y p.0) (x p.0) p.5 in
        let pc = and_parts (y p.1) (x p.1) p.6 in
        let qb = and_parts (not (y q.0)) (not (x q.0)) q.5 in
        let qd = and_parts (not (y q.1)) (not (x q.1)) q.6 in
        let m = match p.0 p.1 q.0 q.1 p.2 p.3 q.2 q.3 p.4 q.4 pa.1 pc.1 (not-true (x q.0) qb.1) (not-true (x q.1) qd.1) in
        few p.0 p.1 q.0 q.1 p.2 p.3 p.4 p.5 p.6 (not-true (y q.0) qb.0) (not-true (y q.1) qd.0) (not-true (x q.0) qb.1) (not-true (x q.1) qd.1) m.0 m.1
      where
        few : (a c b d : ℕ) → Within g.order a → Within g.order c → a ≢ c → meet y x a ≡ true → meet y x c ≡ true → y b ≡ false → y d ≡ false → x b ≡ false → x d ≡ false → (m : Set) → IsPerfect g (four_set a c b d) m → ⊥
        few a c b d wa wc ac ha hc yb yd xb xd m p =
            let e = degrees g is m (minus y x) in
            let f = degrees g is m (meet y x) in
            let i = no_inner g is (complement x) (minus y x) (four_set a c b d) m (other_side g is x two) (right_of g is x two y) p in
            let j = no_inner g is x (meet y x) (four_set a c b d) m two (left_of g is x two y) p in
            let k = total_congr g.order (λ v. bit (minus y x v)) (λ v. bit (minus y x v) * degree g m v) (λ v w. grind arith) in
            let l = total_le g.order (λ v. bit (meet y x v) * degree g m v) (λ v. bit (minus (minus (meet y x) (singleton a)) (singleton c) v)) (λ v w. less v w (meet y x v) (a == v) (c == v) refl refl refl) in
            let s = count_minus g.order (meet y x) a wa ha in
            let u = count_minus g.order (minus (meet y x) (singleton a)) c wc (rw (hc, ne_eqb a c ac) refl) in
            let cut = total_le (size g) (λ e. bit (m e && in_cut g (minus y x) e)) (λ e. bit (m e && in_cut g (meet y x) e)) (λ e w. over (m e) (x (first_end g e)) (x (second_end g e)) (y (first_end g e)) (y (second_end g e)) (crossing g is x (four_set a c b d) m two p e w) (none_right g is x two cov y t.cut more e w)) in
            omega arith
          where
            less : (v : ℕ) → Within g.order v → (k i j : Bool) → meet y x v ≡ k → (a == v) ≡ i → (c == v) ≡ j → bit (meet y x v) * degree g m v ≤ bit ((meet y x v && not (a == v)) && not (c == v))
            less v w k i j q r s = grind arith

            over : (k a b c d : Bool) → (k ≡ true → ((a && not b) || (not a && b)) ≡ true) → (((c && not a) && (not d && b)) || ((not c && a) && (d && not b))) ≡ false →
                bit (k && (((c && not a) && not (d && not b)) || (not (c && not a) && (d && not b)))) ≤ bit (k && (((c && a) && not (d && b)) || (not (c && a) && (d && b))))
            over k a b c d h i = grind arith

  pub no_tight : (x : Set) → IsSide g x → AreFoursMatched g x → (y : Set) → IsTight g y → IsNontrivial g.order y → ⊥
  no_tight x two match y t n =
      let m = covered_perfect g is cov in
      let b = balance g is x two y m.0 m.1 in
      let c = t.cut m.0 m.1 in
      go (count (size g) (λ e. m.0 e && leaves_left g is x two y e)) (count (size g) (λ e. m.0 e && leaves_right g is x two y e)) b.0 (b.1 ∙ c)
    where
      go : (l r : ℕ) → count g.order (meet y x) + r ≡ count g.order (minus y x) + l → l + r ≡ 1 → ⊥
      go (suc l) r e f = more_left x two y t n (omega arith) match
      go zero r e f =
          more_left (complement x) (other_side g is x two) y t n
          (let s : count g.order (minus y (complement x)) ≡ count g.order (meet y x) = count_congr g.order _ _ (λ v w. double (y v) (x v)) in omega arith)
          (λ a c b d wa wc wb wd ac bd xa xc xb xd. let k = match b d a c wb wd wa wc bd ac (not-false (x b) xb) (not-false (x d) xd) (not-true (x a) xa) (not-true (x c) xc) in
          (k.0, perfect_congr g (four_set b d a c) (four_set a c b d) k.0 (λ v w. grind arith) k.1))
        where
          double : (a b : Bool) → (a && not (not b)) ≡ (a && b)
          double a b = grind arith
