-- How many of 1 to n pass a test: counts of unions, complements, of one number, and of tests that
-- agree. Each is a sum over 1 to n of truth values, split number by number.
use Rattle.std.proofs.Common.{◌≡◌, ℕ, ◌+◌, ◌*◌, Bool, true, false, ◌==◌, refl, sym, ap, ◌∙◌, arith, ◌&&◌, ◌||◌, not, eq-eqb, ne_eqb, suc, zero, inl, inr, ◌≤◌, ◌<◌, true≢false}
use Rattle.std.proofs.lemmas.Bool.{cases_Bool, false_from_ne_true}
use Rattle.counting.proofs.Totals.{at_le_total, total_add, total_at, total_congr, total_none, two_le_total}
use Rattle.counting.specs.Common.{Within, bit, count, total, Set, complement, meet, union, some}
use Rattle.counting.proofs.Booleans.{bit_and_false, bit_and_true, bit_le_one}

pub bit-and : (x y : Bool) → bit (x && y) ≡ bit x * bit y
bit-and true y = omega arith
bit-and false y = omega arith

-- the vertices of x that are a
pub count_of_one : (n : ℕ) (x : Set) (a : ℕ) → Within n a → total n (λ v. bit (x v && (a == v))) ≡ bit (x a)
count_of_one n x a w = total_at n (λ v. bit (x v && (a == v))) a w (λ v u d. rw (ne_eqb a v (λ e. d (sym e))) (bit_and_false (x v))) ∙ rw (eq-eqb a a refl) (bit_and_true (x a))

pub count_congr : (n : ℕ) (p q : ℕ → Bool) → ((v : ℕ) → Within n v → p v ≡ q v) → count n p ≡ count n q
count_congr n p q h = total_congr n _ _ (λ v w. ap bit (h v w))

pub count_le : (n : ℕ) (p : ℕ → Bool) → count n p ≤ n
count_le zero p = omega arith
count_le (suc n) p = omega (arith, count_le n p, bit_le_one (p (suc n)))

pub count_more : (n : ℕ) (p q : ℕ → Bool) → ((v : ℕ) → p v ≡ true → q v ≡ true) → (a : ℕ) → Within n a → p a ≡ false → q a ≡ true → count n p + 1 ≤ count n q
count_more n p q h a w pa qa = omega (arith, counted_apart, one)
  where
    bits : (s t : Bool) → (s ≡ true → t ≡ true) → bit t ≡ bit s + bit (t && not s)
    bits true true f = refl
    bits true false f = absurd (true≢false (sym (f refl)))
    bits false true f = refl
    bits false false f = refl

    counted_apart : count n q ≡ count n p + count n (λ v. q v && not (p v))
    counted_apart = total_congr n _ _ (λ v u. bits (p v) (q v) (h v)) ∙ total_add n (λ v. bit (p v)) (λ v. bit (q v && not (p v)))

    one : 1 ≤ count n (λ v. q v && not (p v))
    one = let b : bit (q a && not (p a)) ≡ 1 = rw (pa, qa) refl in omega (arith, at_le_total n (λ v. bit (q v && not (p v))) a w)

-- at most one of 1 to n passes
pub count_le_one : (n : ℕ) (p : ℕ → Bool) → ((u v : ℕ) → Within n u → Within n v → u < v → p u ≡ true → p v ≡ true → ⊥) → count n p ≤ 1
count_le_one zero p h = omega arith
count_le_one (suc n) p h = elim (cases_Bool (p (suc n))) [
  | inl t ↦ let z : count n p ≡ 0 = total_none n (λ v. bit (p v)) (λ v w. rw (false_from_ne_true (p v) (λ e. h v (suc n) (omega arith) (omega arith) (omega arith) e t)) refl) in omega (arith, z, ap bit t)
  | inr f ↦ omega (arith, count_le_one n p (λ u v a b. h u v (omega arith) (omega arith)), ap bit f)
]

pub some_le_count : (n : ℕ) (p : ℕ → Bool) → bit (some n p) ≤ count n p
some_le_count zero p = omega arith
some_le_count (suc n) p = omega (arith, some_le_count n p, bit_or_le (some n p) (p (suc n)))
  where
    bit_or_le : (s t : Bool) → bit (s || t) ≤ bit s + bit t
    bit_or_le true t = omega arith
    bit_or_le false t = omega arith

pub bit_true : (b : Bool) → 0 < bit b → b ≡ true
bit_true true h = refl
bit_true false h = absurd (omega arith)

pub count_meet_union : (n : ℕ) (x y : Set) → count n (meet x y) + count n (union x y) ≡ count n x + count n y
count_meet_union n x y = sym (total_add n (λ v. bit (meet x y v)) (λ v. bit (union x y v))) ∙ total_congr n _ _ (λ v w. bits (x v) (y v)) ∙ total_add n (λ v. bit (x v)) (λ v. bit (y v))
  where
    bits : (s t : Bool) → bit (s && t) + bit (s || t) ≡ bit s + bit t
    bits true true = refl
    bits true false = refl
    bits false true = refl
    bits false false = refl

pub count_complement : (n : ℕ) (x : Set) → count n x + count n (complement x) ≡ n
count_complement zero x = refl
count_complement (suc n) x = omega (arith, count_complement n x, bits (x (suc n)))
  where
    bits : (b : Bool) → bit b + bit (not b) ≡ 1
    bits true = refl
    bits false = refl

-- one of 1 to n passes: two that pass are the same
pub only_one : (n : ℕ) (p : ℕ → Bool) → count n p ≡ 1 → (a b : ℕ) → Within n a → Within n b → p a ≡ true → p b ≡ true → a ≡ b
only_one n p h a b wa wb pa pb = elim (Rattle.std.proofs.lemmas.Bool.cases_order a b) [
  | inl e ↦ e
  | inr d ↦ elim d [
    | inl l ↦ let s = two_le_total n (λ v. bit (p v)) a b wa wb l in let x = ap bit pa in let y = ap bit pb in absurd (omega arith)
    | inr l ↦ let s = two_le_total n (λ v. bit (p v)) b a wb wa l in let x = ap bit pa in let y = ap bit pb in absurd (omega arith)
  ]
]
