-- Lists of sets with repetitions: sums over a set that is repeated, over sets of equal or of large
-- enough value, and over the members of all sets. By induction on the list.
use Rattle.tree_check.proofs.from_counting.Common.{◌≡◌, ℕ, zero, suc, ◌+◌, ◌*◌, ◌≤◌, Bool, true, false, ◌&&◌, List, [], ◌∷◌, length, sym, ap, ◌∙◌, arith, All, All-cons, All-head, All-tail, mul-add, total_add, total_congr, total_mul, total_none, Within, bit, count, total, Set}
use Rattle.quick_kinds.specs.from_brick_kit.Weights.{sum_over}

-- the list ms, and before it t times the set x
abbrev pub repeated : ℕ → Set → List Set → List Set
repeated zero x ms = ms
repeated (suc t) x ms = x ∷ repeated t x ms

pub repeated_sum : (f : Set → ℕ) (t : ℕ) (x : Set) (ms : List Set) → sum_over f (repeated t x ms) ≡ t * f x + sum_over f ms
repeated_sum f zero x ms = omega arith
repeated_sum f (suc t) x ms = let h = repeated_sum f t x ms in omega arith

pub repeated_all : (P : Set → Type 0) (t : ℕ) (x : Set) (ms : List Set) → P x → All P ms → All P (repeated t x ms)
repeated_all P zero x ms h a = a
repeated_all P (suc t) x ms h a = All-cons P x (repeated t x ms) h (repeated_all P t x ms h a)

pub sum_least : (f : Set → ℕ) (c : ℕ) (ms : List Set) → All (λ m. c ≤ f m) ms → c * length ms ≤ sum_over f ms
sum_least f c [] a = omega arith
sum_least f c (m ∷ ms) a =
    let h = All-head (λ m. c ≤ f m) m ms a in
    let i = sum_least f c ms (All-tail (λ m. c ≤ f m) m ms a) in
    let e = mul-add c (length ms) 1 in
    let s = ap (λ k. c * k) (next (length ms)) in omega arith
  where
    next : (k : ℕ) → suc k ≡ k + 1
    next k = omega arith

pub sum_flat : (f : Set → ℕ) (c : ℕ) (ms : List Set) → All (λ m. f m ≡ c) ms → sum_over f ms ≡ c * length ms
sum_flat f c [] a = omega arith
sum_flat f c (m ∷ ms) a =
    let h = All-head (λ m. f m ≡ c) m ms a in
    let i = sum_flat f c ms (All-tail (λ m. f m ≡ c) m ms a) in
    let e = mul-add c (length ms) 1 in
    let s = ap (λ k. c * k) (next (length ms)) in omega arith
  where
    next : (k : ℕ) → suc k ≡ k + 1
    next k = omega arith

-- how many sets of the list have e
abbrev pub sets_with : List Set → ℕ → ℕ
sets_with ms e = sum_over (λ m. bit (m e)) ms

-- the members that pass a test, over all sets
members_summed : (n : ℕ) (p : Set) (ms : List Set) → sum_over (λ m. count n (λ e. m e && p e)) ms ≡ total n (λ e. sets_with ms e * bit (p e))
members_summed n p [] = sym (total_none n (λ e. 0 * bit (p e)) (λ e w. omega arith))
members_summed n p (x ∷ ms) =
    ap (λ k. count n (λ e. x e && p e) + k) (members_summed n p ms)
    ∙ sym (total_add n (λ e. bit (x e && p e)) (λ e. sets_with ms e * bit (p e)))
    ∙ total_congr n (λ e. bit (x e && p e) + sets_with ms e * bit (p e)) (λ e. (bit (x e) + sets_with ms e) * bit (p e)) (λ e w. term (x e) (p e) (sets_with ms e))
  where
    term : (a b : Bool) (s : ℕ) → bit (a && b) + s * bit b ≡ (bit a + s) * bit b
    term true true s = omega arith
    term true false s = omega arith
    term false true s = omega arith
    term false false s = omega arith

-- the same, if each member is in k of the sets
pub members_even : (n k : ℕ) (p : Set) (ms : List Set) → ((e : ℕ) → Within n e → sets_with ms e ≡ k) → sum_over (λ m. count n (λ e. m e && p e)) ms ≡ k * count n p
members_even n k p ms equal =
    members_summed n p ms
    ∙ total_congr n (λ e. sets_with ms e * bit (p e)) (λ e. k * bit (p e)) (λ e w. ap (λ t. t * bit (p e)) (equal e w))
    ∙ total_mul n k (λ e. bit (p e))
