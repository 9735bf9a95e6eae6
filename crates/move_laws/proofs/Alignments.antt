-- Two lists side by side, and orders: lists that contain k + 1 to k + n once each and nothing else.
-- Idea: by induction on the lists; the times of a number add up where two lists are joined.
use Rattle.graph_core.proofs.from_counting.Common.{◌≡◌, ℕ, suc, zero, ◌+◌, ◌≤◌, ◌<◌, cond, List, [], ◌∷◌, ◌++◌, length, ◌⊎◌, inl, inr, refl, sym, ap, ap₂, ◌∙◌, arith, eq-eqb, ne_eqb, slice_index, slice_index_or, cases_lt, bit, times}
use Rattle.tree_core.proofs.Common.{numbers, position}

-- numbers and partitions side by side, any two related by R
abbrev pub Aligned : (ℕ → List (List ℕ) → Type 0) → List ℕ → List (List (List ℕ)) → Type 0
Aligned R [] [] = Unit {0}
Aligned R [] (q ∷ qs) = ⊥
Aligned R (i ∷ o) [] = ⊥
Aligned R (i ∷ o) (q ∷ qs) = R i q × Aligned R o qs

pub aligned-join : (R : ℕ → List (List ℕ) → Type 0) (o r : List ℕ) (qs rs : List (List (List ℕ))) → Aligned R o qs → Aligned R r rs → Aligned R (o ++ r) (qs ++ rs)
aligned-join R [] r [] rs a b = b
aligned-join R [] r (q ∷ qs) rs a b = absurd a
aligned-join R (i ∷ o) r [] rs a b = absurd a
aligned-join R (i ∷ o) r (q ∷ qs) rs a b = (a.0, aligned-join R o r qs rs a.1 b)

pub aligned-map : (R S : ℕ → List (List ℕ) → Type 0) → ((i : ℕ) (q : List (List ℕ)) → R i q → S i q) → (o : List ℕ) (qs : List (List (List ℕ))) → Aligned R o qs → Aligned S o qs
aligned-map R S f [] [] a = tt
aligned-map R S f [] (q ∷ qs) a = absurd a
aligned-map R S f (i ∷ o) [] a = absurd a
aligned-map R S f (i ∷ o) (q ∷ qs) a = (f i q a.0, aligned-map R S f o qs a.1)

pub aligned-length : (R : ℕ → List (List ℕ) → Type 0) (o : List ℕ) (qs : List (List (List ℕ))) → Aligned R o qs → length o ≡ length qs
aligned-length R [] [] a = refl
aligned-length R [] (q ∷ qs) a = absurd a
aligned-length R (i ∷ o) [] a = absurd a
aligned-length R (i ∷ o) (q ∷ qs) a = ap suc (aligned-length R o qs a.1)

pub aligned-at : (R : ℕ → List (List ℕ) → Type 0) (o : List ℕ) (qs : List (List (List ℕ))) (k : ℕ) → Aligned R o qs → k < length o → R (slice_index o k) (slice_index_or qs k [])
aligned-at R [] [] k a l = absurd (omega arith)
aligned-at R [] (q ∷ qs) k a l = absurd a
aligned-at R (i ∷ o) [] k a l = absurd a
aligned-at R (i ∷ o) (q ∷ qs) zero a l = a.0
aligned-at R (i ∷ o) (q ∷ qs) (suc k) a l = aligned-at R o qs k a.1 (omega arith)

times-join : (o r : List ℕ) (i : ℕ) → times (o ++ r) i ≡ times o i + times r i
times-join [] r i = omega arith
times-join (j ∷ o) r i = let a = times-join o r i in omega arith

mem-times : (o : List ℕ) (k : ℕ) → k < length o → 1 ≤ times o (slice_index o k)
mem-times [] k l = absurd (omega arith)
mem-times (j ∷ o) zero l = let z = ap bit (eq-eqb j j refl) in omega arith
mem-times (j ∷ o) (suc k) l = let a = mem-times o k (omega arith) in omega arith

-- if no number occurs twice, each is at its position
pub position-once : (o : List ℕ) (k : ℕ) → ((i : ℕ) → times o i ≤ 1) → k < length o → position o (slice_index o k) ≡ k + 1
position-once [] k h l = absurd (omega arith)
position-once (j ∷ o) zero h l = ap (λ b. cond b 1 (position o j + 1)) (eq-eqb j j refl)
position-once (j ∷ o) (suc k) h l =
    let m = mem-times o k (omega arith) in
    let d : j ≡ slice_index o k → ⊥ = λ e. let a = h (slice_index o k) in let z = ap bit (eq-eqb j (slice_index o k) e) in absurd (omega arith) in
    let r = position-once o k (λ i. let a = h i in omega arith) (omega arith) in
    ap (λ b. cond b 1 (position o (slice_index o k) + 1)) (ne_eqb j (slice_index o k) d) ∙ ap (λ z. z + 1) r ∙ (let e : k + 1 + 1 ≡ suc k + 1 = omega arith in e)

-- the numbers k + 1 to k + n occur in the list once each, and no others do
pub record IsOrder (k n : ℕ) (o : List ℕ) : Type 0 where
  pub once : (i : ℕ) → k < i → i ≤ k + n → times o i ≡ 1
  pub none : (i : ℕ) → (i ≤ k) ⊎ (k + n < i) → times o i ≡ 0

pub order-few : (k n : ℕ) (o : List ℕ) → IsOrder k n o → (i : ℕ) → times o i ≤ 1
order-few k n o h i = elim (cases_lt k i) [
  | inl a ↦ elim (cases_lt (k + n) i) [ inl b ↦ let z = h.none i (inr b) in omega arith | inr b ↦ let z = h.once i a b in omega arith ]
  | inr a ↦ let z = h.none i (inl a) in omega arith
]

order-both : (k m n : ℕ) (o r : List ℕ) → IsOrder k m o → IsOrder (k + m) n r → ((i : ℕ) → k < i → i ≤ k + (m + n) → times o i + times r i ≡ 1) × ((i : ℕ) → (i ≤ k) ⊎ (k + (m + n) < i) → times o i + times r i ≡ 0)
order-both k m n o r a b = (
  λ i l u. elim (cases_lt (k + m) i) [
    | inl h ↦ let x = a.none i (inr h) in let y = b.once i h (omega arith) in omega arith
    | inr h ↦ let x = a.once i l h in let y = b.none i (inl h) in omega arith
  ],
  λ i w. elim w [
    | inl h ↦ let x = a.none i (inl h) in let y = b.none i (inl (omega arith)) in omega arith
    | inr h ↦ let x = a.none i (inr (omega arith)) in let y = b.none i (inr (omega arith)) in omega arith
  ],
)

pub order-join : (k m n : ℕ) (o r : List ℕ) → IsOrder k m o → IsOrder (k + m) n r → IsOrder k (m + n) (o ++ r)
order-join k m n o r a b = let h = order-both k m n o r a b in record {
  once = λ i l u. times-join o r i ∙ h.0 i l u;
  none = λ i w. times-join o r i ∙ h.1 i w;
}

pub order-turn : (k m n : ℕ) (o r : List ℕ) → IsOrder k m o → IsOrder (k + m) n r → IsOrder k (m + n) (r ++ o)
order-turn k m n o r a b = let h = order-both k m n o r a b in record {
  once = λ i l u. let z = h.0 i l u in let y = times-join r o i in omega arith;
  none = λ i w. let z = h.1 i w in let y = times-join r o i in omega arith;
}

pub order-one : (k : ℕ) → IsOrder k 1 (numbers k 1)
order-one k = record {
  once = λ i l u. let e : k + 1 ≡ i = omega arith in let z = ap bit (eq-eqb (k + 1) i e) in omega arith;
  none = λ i w. let z = ap bit (ne_eqb (k + 1) i (λ e. elim w [ inl h ↦ absurd (omega arith) | inr h ↦ absurd (omega arith) ])) in omega arith;
}

-- a run of numbers in two parts
pub numbers-split : (k m n : ℕ) → numbers k (m + n) ≡ numbers k m ++ numbers (k + m) n
numbers-split k m zero = let e : m + zero ≡ m = omega arith in ap (numbers k) e ∙ sym (append_none (numbers k m))
  where
    append_none : (xs : List ℕ) → xs ++ [] ≡ xs
    append_none [] = refl
    append_none (x ∷ xs) = ap (λ (ys : List ℕ). x ∷ ys) (append_none xs)
numbers-split k m (suc n) =
    let e : m + suc n ≡ suc (m + n) = omega arith in let f : k + suc (m + n) ≡ k + m + suc n = omega arith in
    ap (numbers k) e ∙ ap₂ (λ (xs : List ℕ) (j : ℕ). xs ++ j ∷ []) (numbers-split k m n) f ∙ join (numbers k m) (numbers (k + m) n) ((k + m + suc n) ∷ [])
  where
    join : (xs ys zs : List ℕ) → (xs ++ ys) ++ zs ≡ xs ++ (ys ++ zs)
    join [] ys zs = refl
    join (x ∷ xs) ys zs = ap (λ (l : List ℕ). x ∷ l) (join xs ys zs)
