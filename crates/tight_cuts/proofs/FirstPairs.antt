-- The first pair consists of least vertices of pieces.
-- Idea: a pair is separated by its pieces alone, so an earlier pair would be found.
use Rattle.graph_core.proofs.from_counting.Common.{◌≡◌, ℕ, suc, zero, ◌<◌, Bool, true, false, refl, sym, ap, ◌∙◌, arith, not, inl, inr, ◌⊎◌, List, [], ◌∷◌, ◌++◌, map, flat_map, Option, Some, None, nat_lt, ltb-true, find, flat_map-append, flat_map_single, find-append, option_or, and_parts, and_from, both_ways, false_from_ne_true, some_true, Within, rising_list, ordered_pairs, pair_with, Set, everything, pair_set}
use Rattle.graph_core.proofs.Common.{joined_outside, walk_joined, joined_self, is_least, Graph, size, IsGraph, has_ends, joined}
use Rattle.tight_cuts.proofs.EdgeLoop.{first_pair}
use Rattle.tight_cuts.proofs.LeastShores.{separated_says, separated_found}
use Rattle.tight_cuts.proofs.PairsOfEdges.{cut_between}
use Rattle.tight_cuts.proofs.PiecesOfEdges.{tight_piece, beside_graph}
use Rattle.tight_cuts.specs.Common.{is_separated, SeparatesTightly, IsBeside}

-- the row in which the first is found
module _ (p : ℕ × ℕ → Bool) (f : ℕ → List (ℕ × ℕ)) where
  rows_suc : (m : ℕ) → find p (flat_map f (rising_list (suc m) everything)) ≡ option_or (find p (flat_map f (rising_list m everything))) (option_or (find p (f (suc m))) None)
  rows_suc m = grind (arith, flat_map-append f (rising_list m everything) (suc m ∷ []), find-append p (flat_map f (rising_list m everything)) (f (suc m) ++ []), find-append p (f (suc m)))

  none_rows : (m : ℕ) → find p (flat_map f (rising_list m everything)) ≡ None → (x : ℕ) → Within m x → find p (f x) ≡ None
  none_rows zero h x w = absurd (omega arith)
  none_rows (suc m) h x w = go (λ a v. none_rows m a x v) (find p (flat_map f (rising_list m everything))) (find p (f (suc m))) refl refl (sym (rows_suc m) ∙ h)
    where
      go : (find p (flat_map f (rising_list m everything)) ≡ None → Within m x → find p (f x) ≡ None) → (o q : Option (ℕ × ℕ)) → find p (flat_map f (rising_list m everything)) ≡ o → find p (f (suc m)) ≡ q → option_or o (option_or q None) ≡ None → find p (f x) ≡ None
      go below o q a b e = grind arith

  pub first_row : (m : ℕ) (k : ℕ × ℕ) → find p (flat_map f (rising_list m everything)) ≡ Some k → (a : ℕ) × Within m a × (find p (f a) ≡ Some k) × ((x : ℕ) → Within m x → x < a → find p (f x) ≡ None)
  first_row zero k h = cc
  first_row (suc m) k h = elim (cases_option (find p (flat_map f (rising_list m everything)))) [
    | inl q ↦ let r = first_row m k (q.1 ∙ (let s : option_or (Some q.0) (option_or (find p (f (suc m))) None) ≡ Some k = ap (λ o. option_or o (option_or (find p (f (suc m))) None)) (sym q.1) ∙ sym (rows_suc m) ∙ h in s)) in
        (r.0, let w = r.1 in omega arith, r.2, λ x w l. r.3 x (let v = r.1 in omega arith) l)
    | inr q ↦ (suc m, omega arith, last (find p (f (suc m))) (ap (λ o. option_or o (option_or (find p (f (suc m))) None)) (sym q) ∙ sym (rows_suc m) ∙ h), λ x w l. none_rows m q x (omega arith))
  ]
    where
      cases_option : (o : Option (ℕ × ℕ)) → ((j : ℕ × ℕ) × (o ≡ Some j)) ⊎ (o ≡ None)
      cases_option (Some j) = inl (j, refl)
      cases_option None = inr refl

      last : (o : Option (ℕ × ℕ)) → option_or o None ≡ Some k → o ≡ Some k
      last o e = grind arith

-- each pair before the first fails
pub before_first : (n : ℕ) (p : ℕ × ℕ → Bool) (k : ℕ × ℕ) → find p (ordered_pairs n) ≡ Some k → (x y : ℕ) → Within n x → Within n y → ((x < k.0) ⊎ ((x ≡ k.0) × (y < k.1))) → p (x, y) ≡ false
before_first n p k h x y wx wy l =
    let r = first_row p (λ a. map (pair_with a) (rising_list n everything)) n k h in
    let s = first_row p (λ b. (r.0, b) ∷ []) n k (ap (find p) (flat_map_single (pair_with r.0) (rising_list n everything)) ∙ r.2) in
    let e = single (r.0, s.0) s.2 in
    elim l [
      | inl c ↦ none_one (x, y) (none_rows p (λ b. (x, b) ∷ []) n (ap (find p) (flat_map_single (pair_with x) (rising_list n everything)) ∙ r.3 x wx (let u = ap (λ k. k.0) e in omega arith)) y wy)
      | inr c ↦ ap (λ i. p (i, y)) (c.0 ∙ sym (ap (λ k. k.0) e)) ∙ none_one (r.0, y) (s.3 y wy (let u = ap (λ k. k.1) e in let v = c.1 in omega arith))
    ]
  where
    single : (j : ℕ × ℕ) → find p (j ∷ []) ≡ Some k → j ≡ k
    single j h = grind arith

    none_one : (j : ℕ × ℕ) → find p (j ∷ []) ≡ None → p j ≡ false
    none_one j h = grind arith

-- if each pair fails, none is found
pub no_first : (n : ℕ) (p : ℕ × ℕ → Bool) → ((x y : ℕ) → Within n x → Within n y → p (x, y) ≡ false) → find p (ordered_pairs n) ≡ None
no_first n p h = grind (arith, first_pair, both_ways)

module _ (g h : Graph) (is : IsGraph g) (a b e : ℕ) (wa : Within g.order a) (wb : Within g.order b) (we : Within (size g) e) (ends : has_ends g a b e ≡ true) (beside : IsBeside g e h) where
  -- a pair is separated by its pieces alone
  pub parts_moves : (k j : ℕ × ℕ) (z : Set) → joined h (pair_set a b) k.0 j.0 ≡ true → joined h (pair_set a b) k.1 j.1 ≡ true → SeparatesTightly g a b k z → SeparatesTightly g a b j z
  parts_moves k j z p q s = grind (arith, cut_between g z a b e ends s.has_a s.lacks_b, tight_piece g h is a b e wa wb we ends beside z s.tight)

  pub separated_moves : (k j : ℕ × ℕ) → Within g.order j.0 → Within g.order j.1 → joined h (pair_set a b) k.0 j.0 ≡ true → joined h (pair_set a b) k.1 j.1 ≡ true → is_separated g a b k ≡ true → is_separated g a b j ≡ true
  separated_moves k j wx wy p q t = grind (arith, separated_says g a b k t, beside_graph g h is a b e wa wb we ends beside, separated_found g a b j, joined_outside h (pair_set a b), parts_moves k j)

  -- so the first pair is of least vertices of their pieces
  pub first_leads : (k : ℕ × ℕ) → find (is_separated g a b) (ordered_pairs g.order) ≡ Some k → (is_least h (pair_set a b) k.0 ≡ true) × (is_least h (pair_set a b) k.1 ≡ true)
  first_leads k f =
      let t = first_pair g.order (is_separated g a b) k f in
      let s = separated_says g a b k t.0 in (
        lead k.0 s.0 (λ v wv l j. both_ways (is_separated g a b (v, k.1)) (before_first g.order (is_separated g a b) k f v k.1 wv t.2 (inl l)) (separated_moves k (v, k.1) wv t.2 j (own k.1 t.2) t.0)),
        lead k.1 s.1 (λ v wv l j. both_ways (is_separated g a b (k.0, v)) (before_first g.order (is_separated g a b) k f k.0 v t.1 wv (inr (refl, l))) (separated_moves k (k.0, v) t.1 wv (own k.0 t.1) j t.0)),
      )
    where
      own : (v : ℕ) → Within g.order v → joined h (pair_set a b) v v ≡ true
      own v w = let o = beside.order in walk_joined h (pair_set a b) (beside_graph g h is a b e wa wb we ends beside) v v (omega arith) (joined_self h (pair_set a b) v)

      lead : (u : ℕ) → pair_set a b u ≡ false → ((v : ℕ) → Within g.order v → v < u → joined h (pair_set a b) u v ≡ true → ⊥) → is_least h (pair_set a b) u ≡ true
      lead u o n = grind (arith, and_from (not (pair_set a b u)), nat_lt, false_from_ne_true, some_true h.order, and_parts, ltb-true)
