-- Partitions of 1 to n as labels, and the number of labels in use. A coarser partition uses no more
-- labels, and one that merges two classes uses one less.
use Rattle.graph_core.proofs.from_counting.Common.{◌≡◌, ℕ, ◌+◌, ◌≤◌, ◌≢◌, Bool, true, false, cond, ◌==◌, refl, sym, ap, ◌∙◌, arith, ◌&&◌, not, eq-eqb, ne_eqb, eqb-true, ◌⊎◌, inl, inr, le_trans, le_of_eq, same_tests, cases_eq, cases_Bool, and_parts, and_from, both_ways, false_from_ne_true, not-true, count_le_one, some_none, some_true, true_some, at_le_total, total_add, total_at, total_congr, total_le, total_none, total_swap, Within, bit, count, total, some}

-- a relation that gives each passer of p a passer of q, and no two the same
pub count_along : (n : ℕ) (p q : ℕ → Bool) (r : ℕ → ℕ → Bool) → ((l : ℕ) → Within n l → p l ≡ true → (k : ℕ) × Within n k × (r l k ≡ true)) →
    ((k a b : ℕ) → Within n k → Within n a → Within n b → r a k ≡ true → r b k ≡ true → a ≡ b) → ((k l : ℕ) → Within n k → Within n l → r l k ≡ true → q k ≡ true) → count n p ≤ count n q
count_along n p q r some_k one_k in_q =
    le_trans (total_le n (λ l. bit (p l)) (λ l. total n (λ k. bit (r l k))) (λ l w. each l w (p l) refl))
    (le_trans (le_of_eq (total_swap n n (λ l k. bit (r l k)))) (total_le n (λ k. total n (λ l. bit (r l k))) (λ k. bit (q k)) (λ k w. few_components k w (q k) refl)))
  where
    each : (l : ℕ) → Within n l → (b : Bool) → p l ≡ b → bit b ≤ total n (λ k. bit (r l k))
    each l w false e = omega arith
    each l w true e = let k = some_k l w e in let a = at_le_total n (λ k. bit (r l k)) k.0 k.1 in let b = ap bit k.2 in omega arith

    few_components : (k : ℕ) → Within n k → (b : Bool) → q k ≡ b → total n (λ l. bit (r l k)) ≤ bit b
    few_components k w true e = count_le_one n (λ l. r l k) (λ u v wu wv l ru rv. let d = one_k k u v w wu wv ru rv in absurd (omega arith))
    few_components k w false e = le_of_eq (total_none n (λ l. bit (r l k)) (λ l wl. ap bit (false_from_ne_true (r l k) (λ t. both_ways (q k) e (in_q k l w wl t)))))

-- a partition of 1 to n as a label for each; the labels in use
abbrev pub used : ℕ → (ℕ → ℕ) → ℕ → Bool
used n f l = some n (λ v. f v == l)

abbrev pub IsLabel : ℕ → (ℕ → ℕ) → Type 0
IsLabel n f = (v : ℕ) → Within n v → Within n (f v)

abbrev pub Finer : ℕ → (ℕ → ℕ) → (ℕ → ℕ) → Type 0
Finer n f h = (a b : ℕ) → Within n a → Within n b → f a ≡ f b → h a ≡ h b

pub finer_used : (n : ℕ) (f h : ℕ → ℕ) → IsLabel n f → Finer n f h → count n (used n h) ≤ count n (used n f)
finer_used n f h lf fin = count_along n (used n h) (used n f) (λ l k. some n (λ v. (h v == l) && (f v == k)))
    (λ l w e. let v = some_true n (λ v. h v == l) e in
    (f v.0, lf v.0 v.1, true_some n (λ x. (h x == l) && (f x == f v.0)) v.0 v.1 (and_from (h v.0 == l) (f v.0 == f v.0) v.2 (eq-eqb (f v.0) (f v.0) refl))))
    (λ k a b wk wa wb ra rb.
    let u = some_true n (λ v. (h v == a) && (f v == k)) ra in
    let v = some_true n (λ v. (h v == b) && (f v == k)) rb in
    let pu = and_parts (h u.0 == a) (f u.0 == k) u.2 in
    let pv = and_parts (h v.0 == b) (f v.0 == k) v.2 in
    sym (eqb-true (h u.0) a pu.0) ∙ fin u.0 v.0 u.1 v.1 (eqb-true (f u.0) k pu.1 ∙ sym (eqb-true (f v.0) k pv.1)) ∙ eqb-true (h v.0) b pv.0)
    (λ k l wk wl r.
    let v = some_true n (λ v. (h v == l) && (f v == k)) r in
    true_some n (λ x. f x == k) v.0 v.1 (and_parts (h v.0 == l) (f v.0 == k) v.2).1)

-- the classes of x and y made one: the label of x is replaced by that of y
abbrev pub merge : (ℕ → ℕ) → ℕ → ℕ → ℕ → ℕ
merge f x y v = cond (f v == f x) (f y) (f v)

pub merge_finer : (n : ℕ) (f : ℕ → ℕ) (x y : ℕ) → Finer n f (merge f x y)
merge_finer n f x y a b wa wb e = ap (λ k. cond (k == f x) (f y) k) e

pub merge_joins : (f : ℕ → ℕ) (x y : ℕ) → merge f x y x ≡ merge f x y y
merge_joins f x y = ap (λ t. cond t (f y) (f x)) (eq-eqb (f x) (f x) refl) ∙ same (f y == f x) (f y)
  where
    same : (b : Bool) (k : ℕ) → k ≡ cond b k k
    same true k = refl
    same false k = refl

-- a partition that contains f and joins x and y holds the merged one
pub merge_in : (n : ℕ) (f z : ℕ → ℕ) (x y : ℕ) → Within n x → Within n y → Finer n f z → z x ≡ z y → Finer n (merge f x y) z
merge_in n f z x y wx wy fin e a b wa wb h = elim (cases_eq (f a) (f x)) [
  | inl p ↦ grind arith
  | inr p ↦ grind arith
]
  where
    hit : (v : ℕ) → f v ≡ f x → merge f x y v ≡ f y
    hit v p = ap (λ t. cond t (f y) (f v)) (eq-eqb (f v) (f x) p)

    miss : (v : ℕ) → (f v ≡ f x → ⊥) → merge f x y v ≡ f v
    miss v p = ap (λ t. cond t (f y) (f v)) (ne_eqb (f v) (f x) p)

pub merge_label : (n : ℕ) (f : ℕ → ℕ) (x y : ℕ) → Within n y → IsLabel n f → IsLabel n (merge f x y)
merge_label n f x y wy lf v w = go (f v == f x)
  where
    go : (b : Bool) → Within n (cond b (f y) (f v))
    go true = lf y wy
    go false = lf v w

pub merge_used : (n : ℕ) (f : ℕ → ℕ) (x y : ℕ) → Within n x → Within n y → IsLabel n f → f x ≢ f y → count n (used n f) ≡ count n (used n (merge f x y)) + 1
merge_used n f x y wx wy lf d =
    total_congr n _ _ (λ l w. each l w)
    ∙ total_add n (λ l. bit (used n (merge f x y) l)) (λ l. bit (f x == l))
    ∙ ap (λ k. count n (used n (merge f x y)) + k) (total_at n (λ l. bit (f x == l)) (f x) (lf x wx) (λ v u q. ap bit (ne_eqb (f x) v (λ i. q (sym i)))) ∙ ap bit (eq-eqb (f x) (f x) refl))
  where
    hit : (v : ℕ) → f v ≡ f x → merge f x y v ≡ f y
    hit v p = ap (λ t. cond t (f y) (f v)) (eq-eqb (f v) (f x) p)

    miss : (v : ℕ) → (f v ≡ f x → ⊥) → merge f x y v ≡ f v
    miss v p = ap (λ t. cond t (f y) (f v)) (ne_eqb (f v) (f x) p)

    gone : used n (merge f x y) (f x) ≡ false
    gone = false_from_ne_true (used n (merge f x y) (f x)) (λ t.
        let v = some_true n (λ v. merge f x y v == f x) t in
        elim (cases_eq (f v.0) (f x)) [
          | inl p ↦ d (sym (eqb-true (merge f x y v.0) (f x) v.2) ∙ hit v.0 p)
          | inr p ↦ p (sym (miss v.0 p) ∙ eqb-true (merge f x y v.0) (f x) v.2)
        ])

    kept : (l : ℕ) → (f x ≡ l → ⊥) → used n f l ≡ used n (merge f x y) l
    kept l q = same_tests (used n f l) (used n (merge f x y) l)
        (λ t. let v = some_true n (λ v. f v == l) t in let e = eqb-true (f v.0) l v.2 in
        true_some n (λ v. merge f x y v == l) v.0 v.1 (eq-eqb (merge f x y v.0) l (miss v.0 (λ p. q (sym p ∙ e)) ∙ e)))
        (λ t. let v = some_true n (λ v. merge f x y v == l) t in let e = eqb-true (merge f x y v.0) l v.2 in
        elim (cases_eq (f v.0) (f x)) [
          | inl p ↦ true_some n (λ v. f v == l) y wy (eq-eqb (f y) l (sym (hit v.0 p) ∙ e))
          | inr p ↦ true_some n (λ v. f v == l) v.0 v.1 (eq-eqb (f v.0) l (sym (miss v.0 p) ∙ e))
        ])

    each : (l : ℕ) → Within n l → bit (used n f l) ≡ bit (used n (merge f x y) l) + bit (f x == l)
    each l w = elim (cases_eq (f x) l) [
      | inl e ↦
          let a : used n f l ≡ true = true_some n (λ v. f v == l) x wx (eq-eqb (f x) l e) in
          let b : used n (merge f x y) l ≡ false = ap (used n (merge f x y)) (sym e) ∙ gone in
          let i = ap bit a in let j = ap bit b in let k = ap bit (eq-eqb (f x) l e) in omega arith
      | inr q ↦ let i = ap bit (kept l q) in let k = ap bit (ne_eqb (f x) l q) in omega arith
    ]

-- a pair in one class of f and in two of h, or none
pub parted_pair : (n : ℕ) (f h : ℕ → ℕ) → ((x : ℕ) × (y : ℕ) × Within n x × Within n y × (f x ≡ f y) × (h x ≢ h y)) ⊎ Finer n f h
parted_pair n f h = elim (cases_Bool (some n (λ x. some n (λ y. (f x == f y) && not (h x == h y))))) [
  | inl t ↦ grind (arith, some_true n, and_parts, eqb-true, both_ways, not-true, eq-eqb)
  | inr t ↦ inr (λ a b wa wb e. elim (cases_eq (h a) (h b)) [
    | inl q ↦ q
    | inr q ↦
        let z = some_none n (λ x. some n (λ y. (f x == f y) && not (h x == h y))) t a wa in
        let w = some_none n (λ y. (f a == f y) && not (h a == h y)) z b wb in
        absurd (both_ways ((f a == f b) && not (h a == h b)) w (and_from (f a == f b) (not (h a == h b)) (eq-eqb (f a) (f b) e) (ap not (ne_eqb (h a) (h b) q))))
  ])
]

-- one merge takes away at most one class
pub merge_most : (n : ℕ) (h : ℕ → ℕ) (x y : ℕ) → Within n x → Within n y → IsLabel n h → count n (used n h) ≤ count n (used n (merge h x y)) + 1
merge_most n h x y wx wy lh = elim (cases_eq (h x) (h y)) [
  | inl e ↦ let a = finer_used n (merge h x y) h (merge_label n h x y wy lh) (merge_in n h h x y wx wy (λ a b wa wb i. i) e) in omega arith
  | inr d ↦ let a = merge_used n h x y wx wy lh d in omega arith
]
