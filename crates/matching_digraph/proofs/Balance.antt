-- A vertex set of a bipartite graph and a perfect matching: the set's surplus of vertices on one
-- side equals the surplus of matching edges that leave it from that side. So a tight set has one
-- more vertex of one side, and all edges of its cut leave it there.
use Rattle.graph_core.proofs.from_counting.Common.{◌≡◌, ℕ, ◌+◌, Bool, true, false, ap, arith, ◌&&◌, ◌||◌, not, inl, inr, cases_eq, and_parts, count_zero, total_congr, total_add, total_none, and_fails_second, bit, count, Within, Set, none, minus, meet, complement}
use Rattle.barrier_kit.proofs.Common.{inner, loop_free}
use Rattle.graph_core.proofs.Common.{IsSide, IsCovered, Graph, size, first_end, second_end, IsGraph, connects, in_cut, edges_in_cut, IsPerfect, CutIsTight, covered_perfect, parity}

module _ (g : Graph) (is : IsGraph g) where
  -- a perfect matching has no loop, so its edges cross
  pub crossing : (x r m : Set) → IsSide g x → IsPerfect g r m → (e : ℕ) → Within (size g) e → m e ≡ true → in_cut g x e ≡ true
  crossing x r m two p e w t = two e w (loop_free g r m is p e w t)

  -- one side of a set: no edge is inside
  pub no_inner : (x y r m : Set) → IsSide g x → ((v : ℕ) → y v ≡ true → x v ≡ true) → IsPerfect g r m → inner g m y ≡ 0
  no_inner x y r m two h p = total_none (size g) _ (λ e w. ap bit (out (m e) (x (first_end g e)) (x (second_end g e)) (y (first_end g e)) (y (second_end g e)) (crossing x r m two p e w) (h (first_end g e)) (h (second_end g e))))
    where
      out : (k a b c d : Bool) → (k ≡ true → ((a && not b) || (not a && b)) ≡ true) → (c ≡ true → a ≡ true) → (d ≡ true → b ≡ true) → (k && (c && d)) ≡ false
      out k a b c d h i j = grind arith

  pub other_side : (x : Set) → IsSide g x → IsSide g (complement x)
  other_side x two e w d = grind arith

  -- a set on one side has as many vertices as edges in its cut
  pub side_count : (x y m : Set) → IsSide g x → ((v : ℕ) → y v ≡ true → x v ≡ true) → IsPerfect g none m → count g.order y ≡ edges_in_cut g m y
  side_count x y m two h p = let a = parity g is m y p in let b = no_inner x y none m two h p in omega arith

  same_cut : (x m : Set) → edges_in_cut g m x ≡ edges_in_cut g m (complement x)
  same_cut x m = grind arith

  module _ (x : Set) (two : IsSide g x) where
    pub left_of : (y : Set) (v : ℕ) → meet y x v ≡ true → x v ≡ true
    left_of y v h = (and_parts (y v) (x v) h).1

    pub right_of : (y : Set) (v : ℕ) → minus y x v ≡ true → complement x v ≡ true
    right_of y v h = (and_parts (y v) (not (x v)) h).1

    pub equal_sides : IsCovered g → count g.order x ≡ count g.order (complement x)
    equal_sides cov = grind (arith, covered_perfect g is cov, side_count x x, side_count (complement x) (complement x), other_side x two, same_cut x)

    -- edges that leave y from the left, from the and_fails_second
    abbrev pub leaves_left : Set → Set
    leaves_left y = connects g (meet y x) (minus (complement y) x)

    abbrev pub leaves_right : Set → Set
    leaves_right y = connects g (minus y x) (meet (complement y) x)

    pub balance : (y m : Set) → IsPerfect g none m → (count g.order (meet y x) + count (size g) (λ e. m e && leaves_right y e) ≡ count g.order (minus y x) + count (size g) (λ e. m e && leaves_left y e)) × (count (size g) (λ e. m e && leaves_left y e) + count (size g) (λ e. m e && leaves_right y e) ≡ edges_in_cut g m y)
    balance y m p =
        let a = side_count x (meet y x) m two (left_of y) p in
        let b = side_count (complement x) (minus y x) m (other_side x two) (right_of y) p in
        let c = total_add (size g) (λ e. bit (m e && in_cut g (meet y x) e)) (λ e. bit (m e && leaves_right y e)) in
        let d = total_add (size g) (λ e. bit (m e && in_cut g (minus y x) e)) (λ e. bit (m e && leaves_left y e)) in
        let e = total_congr (size g) (λ e. bit (m e && in_cut g (meet y x) e) + bit (m e && leaves_right y e)) (λ e. bit (m e && in_cut g (minus y x) e) + bit (m e && leaves_left y e)) (λ e w. grind arith) in
        let f = total_add (size g) (λ e. bit (m e && leaves_left y e)) (λ e. bit (m e && leaves_right y e)) in
        let h = total_congr (size g) (λ e. bit (m e && leaves_left y e) + bit (m e && leaves_right y e)) (λ e. bit (m e && in_cut g y e)) (λ e w. second (m e) (x (first_end g e)) (x (second_end g e)) (y (first_end g e)) (y (second_end g e)) (crossing x none m two p e w)) in
        (omega arith, omega arith)
      where
        second : (k a b c d : Bool) → (k ≡ true → ((a && not b) || (not a && b)) ≡ true) →
            bit (k && (((c && a) && (not d && not b)) || ((not c && not a) && (d && b)))) + bit (k && (((c && not a) && (not d && b)) || ((not c && a) && (d && not b))))
            ≡ bit (k && ((c && not d) || (not c && d)))
        second k a b c d h = grind arith

    -- where each perfect matching leaves y by one edge and y has one more vertex on the left, no
    -- edge leaves it from the and_fails_second
    pub none_right : IsCovered g → (y : Set) → CutIsTight g y → count g.order (meet y x) ≡ count g.order (minus y x) + 1 → (e : ℕ) → Within (size g) e → leaves_right y e ≡ false
    none_right cov y tight more e w = elim (cases_eq (first_end g e) (second_end g e)) [
      | inl l ↦ grind arith
      | inr d ↦
          let a = cov.allowed e w d in
          let b = balance y a.0 a.1 in
          let c = tight a.0 a.1 in
          let z = count_zero (size g) (λ e. a.0 e && leaves_right y e) (let k = b.0 in let l = b.1 in omega arith) e w in and_fails_second (a.0 e) (leaves_right y e) a.2 z
    ]
