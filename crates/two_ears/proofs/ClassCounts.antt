-- How many classes have equivalences that lie in one another? The label of a class is its least
-- member, so what is true of the labels of partitions is true of classes.
use Rattle.graph_core.proofs.from_counting.Common.{◌≡◌, ℕ, suc, zero, ◌+◌, ◌≤◌, ◌≢◌, Bool, true, false, cond, ◌==◌, refl, sym, ap₂, arith, ◌&&◌, not, eq-eqb, eqb-true, inl, inr, nat_lt, ltb-true, lt-ltb, cases_eq, cases_Bool, cases_lt, and_parts, and_from, both_ways, true≢false, false_from_ne_true, not-true, count_congr, some_congr, some_none, some_true, true_some, or_second, same_tests, Within, count, some}
use Rattle.two_ears.specs.Equivalences.{IsEquivalence, class_count}
use Rattle.two_ears.proofs.Labels.{used, IsLabel, finer_used, merge, merge_in, merge_label, merge_used}
use Rattle.two_ears.proofs.FourPartitions.{four_labels}

-- the least of 1 to n that passes
abbrev pub least_passer : ℕ → (ℕ → Bool) → ℕ
least_passer zero p = 0
least_passer (suc n) p = cond (some n p) (least_passer n p) (suc n)

least_passer-is : (n : ℕ) (p : ℕ → Bool) → some n p ≡ true → Within n (least_passer n p) × (p (least_passer n p) ≡ true) × ((w : ℕ) → Within n w → p w ≡ true → least_passer n p ≤ w)
least_passer-is zero p h = absurd (true≢false (sym h))
least_passer-is (suc n) p h = elim (cases_Bool (some n p)) [
  | inl t ↦ grind (arith, least_passer-is n p t, cases_eq)
  | inr f ↦ grind (arith, or_second (some n p) (p (suc n)) f h, cases_eq, both_ways, some_none n p f)
]

least_passer-congr : (n : ℕ) (p q : ℕ → Bool) → ((v : ℕ) → Within n v → p v ≡ q v) → least_passer n p ≡ least_passer n q
least_passer-congr zero p q h = refl
least_passer-congr (suc n) p q h = ap₂ (λ b k. cond b k (suc n)) (some_congr n p q (λ v w. h v (omega arith))) (least_passer-congr n p q (λ v w. h v (omega arith)))

module _ (n : ℕ) (p : ℕ → ℕ → Bool) (eq : IsEquivalence n p) where
  -- the least member of the class of v
  pub label : ℕ → ℕ
  label v = least_passer n (p v)

  label_is : (v : ℕ) → Within n v → Within n (label v) × (p v (label v) ≡ true) × ((w : ℕ) → Within n w → p v w ≡ true → label v ≤ w)
  unfolding label
  label_is v w = least_passer-is n (p v) (true_some n (p v) v w (eq.own v w))

  pub label_label : IsLabel n label
  label_label v w = (label_is v w).0

  pub label_same : (a b : ℕ) → Within n a → Within n b → p a b ≡ true → label a ≡ label b
  unfolding label
  label_same a b wa wb h = least_passer-congr n (p a) (p b) (λ v w. same_tests (p a v) (p b v) (λ t. eq.on b a v wb wa w (eq.back a b wa wb h) t) (λ t. eq.on a b v wa wb w h t))

  pub same_label : (a b : ℕ) → Within n a → Within n b → label a ≡ label b → p a b ≡ true
  same_label a b wa wb e = grind (arith, label_is, label)

  pub label_classes : count n (used n label) ≡ class_count n p
  label_classes = count_congr n _ _ (λ l w. same_tests (used n label l) (not (some n (λ v. p l v && nat_lt v l))) (there l w) (back l w))
    where
      there : (l : ℕ) → Within n l → used n label l ≡ true → not (some n (λ v. p l v && nat_lt v l)) ≡ true
      there l w t =
          let v = some_true n (λ v. label v == l) t in
          let e = eqb-true (label v.0) l v.2 in
          let d = label_is v.0 v.1 in
          grind (arith, false_from_ne_true, nat_lt, some_true n, and_parts, ltb-true)

      back : (l : ℕ) → Within n l → not (some n (λ v. p l v && nat_lt v l)) ≡ true → used n label l ≡ true
      back l w t =
          let d = label_is l w in
          let z = some_none n (λ v. p l v && nat_lt v l) (not-true (some n (λ v. p l v && nat_lt v l)) t) (label l) d.0 in
          let a = d.2 l w (eq.own l w) in
          true_some n (λ v. label v == l) l w (eq-eqb (label l) l (elim (cases_lt (label l) l) [
            | inl k ↦ absurd (both_ways (p l (label l) && nat_lt (label l) l) z (and_from (p l (label l)) (nat_lt (label l) l) d.1 (lt-ltb (label l) l k)))
            | inr k ↦ omega arith
          ]))

abbrev pub IsFiner : ℕ → (ℕ → ℕ → Bool) → (ℕ → ℕ → Bool) → Type 0
IsFiner n p q = (a b : ℕ) → Within n a → Within n b → p a b ≡ true → q a b ≡ true

-- of two equivalences the coarser has no more classes
pub coarser : (n : ℕ) (p q : ℕ → ℕ → Bool) → IsEquivalence n p → IsEquivalence n q → IsFiner n p q → class_count n q ≤ class_count n p
coarser n p q ep eq h =
    let a = finer_used n (label n p ep) (label n q eq) (label_label n p ep) (λ a b wa wb e. label_same n q eq a b wa wb (h a b wa wb (same_label n p ep a b wa wb e))) in
    let b = label_classes n p ep in
    let c = label_classes n q eq in omega arith

-- and fewer where it joins two that the other keeps apart
pub strictly : (n : ℕ) (p q : ℕ → ℕ → Bool) → IsEquivalence n p → IsEquivalence n q → IsFiner n p q → (x y : ℕ) → Within n x → Within n y → q x y ≡ true → p x y ≡ false → class_count n q + 1 ≤ class_count n p
strictly n p q ep eq h x y wx wy qxy pxy =
    let f = label n p ep in
    let lf = label_label n p ep in
    let d : f x ≢ f y = λ e. both_ways (p x y) pxy (same_label n p ep x y wx wy e) in
    let a = merge_used n f x y wx wy lf d in
    let i = finer_used n (merge f x y) (label n q eq) (merge_label n f x y wy lf)
    (merge_in n f (label n q eq) x y wx wy (λ a b wa wb e. label_same n q eq a b wa wb (h a b wa wb (same_label n p ep a b wa wb e))) (label_same n q eq x y wx wy qxy)) in
    let b = label_classes n p ep in
    let c = label_classes n q eq in omega arith

-- four equivalences: p0 in p and in q, and r in each that holds p and q
pub four_classes : (n : ℕ) (p0 p q r : ℕ → ℕ → Bool) → IsEquivalence n p0 → IsEquivalence n p → IsEquivalence n q → IsEquivalence n r → IsFiner n p0 p → IsFiner n p0 q →
    ((z : ℕ → ℕ) → ((a b : ℕ) → Within n a → Within n b → p a b ≡ true → z a ≡ z b) → ((a b : ℕ) → Within n a → Within n b → q a b ≡ true → z a ≡ z b) → (a b : ℕ) → Within n a → Within n b → r a b ≡ true → z a ≡ z b) →
    class_count n p + class_count n q ≤ class_count n p0 + class_count n r
four_classes n p0 p q r e0 ep eq er b0 b1 above =
    let a = four_labels n (label n p0 e0) (label n p ep) (label n q eq) (label n r er) (record {
      label0 = label_label n p0 e0;
      label1 = label_label n p ep;
      label2 = label_label n q eq;
      label3 = label_label n r er;
      below1 = λ a b wa wb e. label_same n p ep a b wa wb (b0 a b wa wb (same_label n p0 e0 a b wa wb e));
      below2 = λ a b wa wb e. label_same n q eq a b wa wb (b1 a b wa wb (same_label n p0 e0 a b wa wb e));
      above = λ z lz fz hz a b wa wb e. above z (λ a b wa wb t. fz a b wa wb (label_same n p ep a b wa wb t)) (λ a b wa wb t. hz a b wa wb (label_same n q eq a b wa wb t)) a b wa wb (same_label n r er a b wa wb e);
    }) in
    let b = label_classes n p0 e0 in
    let c = label_classes n p ep in
    let d = label_classes n q eq in
    let e = label_classes n r er in omega arith
