-- Members of sets of numbers 1 to n: what a count says about them, and counts where one comes or
-- goes. A set that is counted has a member; without it the count is one less, and so on.
use Rattle.std.proofs.Common.{◌≡◌, ℕ, ◌+◌, ◌≤◌, ◌<◌, ◌≢◌, Bool, true, false, ◌==◌, ◌&&◌, ◌||◌, not, refl, sym, ap, ◌∙◌, arith, eq-eqb, ne_eqb, eqb-true, true≢false}
use Rattle.std.proofs.lemmas.Bool.{both_ways}
use Rattle.counting.proofs.Counts.{bit_true, some_le_count}
use Rattle.counting.proofs.SetSizes.{count_singleton}
use Rattle.counting.proofs.Tests.{some_none}
use Rattle.counting.proofs.Totals.{at_le_total, some_term, total_add, total_congr, total_none}
use Rattle.counting.specs.Common.{Within, bit, count, Set, minus, singleton, union, some}

-- what is not counted has no member
pub count_zero : (n : ℕ) (p : ℕ → Bool) → count n p ≡ 0 → (v : ℕ) → Within n v → p v ≡ false
count_zero n p h v w = go (p v) refl
  where
    go : (b : Bool) → p v ≡ b → p v ≡ false
    go false e = e
    go true e = let a = at_le_total n (λ v. bit (p v)) v w in let b = ap bit e in absurd (omega arith)

-- what is counted has one
pub count_member : (n : ℕ) (x : Set) → 0 < count n x → (v : ℕ) × Within n v × (x v ≡ true)
count_member n x h = let r = some_term n (λ v. bit (x v)) h in (r.0, r.1, bit_true (x r.0) r.2)

-- and what has one is counted
pub member_count : (n : ℕ) (x : Set) (v : ℕ) → Within n v → x v ≡ true → 1 ≤ count n x
member_count n x v w h = let a = at_le_total n (λ v. bit (x v)) v w in let b = ap bit h in omega arith

-- a member taken out
pub count_minus : (n : ℕ) (x : Set) (a : ℕ) → Within n a → x a ≡ true → count n (minus x (singleton a)) + 1 ≡ count n x
count_minus n x a w h = let b = count_singleton n a w in
    let c = total_add n (λ v. bit (minus x (singleton a) v)) (λ v. bit (singleton a v)) in
    let d = total_congr n (λ v. bit (minus x (singleton a) v) + bit (singleton a v)) (λ v. bit (x v)) (λ v u. bits (x v) (a == v) (λ t. ap x (sym (eqb-true a v t)) ∙ h)) in omega arith
  where
    bits : (p q : Bool) → (q ≡ true → p ≡ true) → bit (p && not q) + bit q ≡ bit p
    bits true true f = refl
    bits true false f = refl
    bits false true f = absurd (true≢false (sym (f refl)))
    bits false false f = refl

-- a new one put in
pub count_plus : (n : ℕ) (x : Set) (a : ℕ) → Within n a → x a ≡ false → count n (union x (singleton a)) ≡ count n x + 1
count_plus n x a w h = let b = count_singleton n a w in
    let c = total_add n (λ v. bit (x v)) (λ v. bit (singleton a v)) in
    let d = total_congr n (λ v. bit (union x (singleton a) v)) (λ v. bit (x v) + bit (singleton a v)) (λ v u. bits (x v) (a == v) (λ t. ap x (sym (eqb-true a v t)) ∙ h)) in omega arith
  where
    bits : (p q : Bool) → (q ≡ true → p ≡ false) → bit (p || q) ≡ bit p + bit q
    bits true true f = absurd (true≢false (f refl))
    bits true false f = refl
    bits false true f = refl
    bits false false f = refl

-- two members count two
pub two_members : (n : ℕ) (x : Set) (a b : ℕ) → Within n a → Within n b → a ≢ b → x a ≡ true → x b ≡ true → 2 ≤ count n x
two_members n x a b wa wb d xa xb = let c = count_minus n x a wa xa in let e = member_count n (minus x (singleton a)) b wb (rw (xb, ne_eqb a b d) refl) in omega arith

-- a set that has two members has two that differ
pub two_of : (n : ℕ) (x : Set) → 2 ≤ count n x → (a b : ℕ) × Within n a × Within n b × (a ≢ b) × (x a ≡ true) × (x b ≡ true)
two_of n x h =
    let a = count_member n x (omega arith) in
    let c = count_minus n x a.0 a.1 a.2 in
    let b = count_member n (minus x (singleton a.0)) (omega arith) in
    let p = split (x b.0) (a.0 == b.0) b.2 in
    (a.0, b.0, a.1, b.1, λ e. both_ways (a.0 == b.0) p.1 (eq-eqb a.0 b.0 e), a.2, p.0)
  where
    split : (a c : Bool) → (a && not c) ≡ true → (a ≡ true) × (c ≡ false)
    split a c h = grind arith

-- a count of at most 1 is the test
pub some_count : (n : ℕ) (p : ℕ → Bool) → count n p ≤ 1 → bit (some n p) ≡ count n p
some_count n p h = go (some n p) refl
  where
    go : (b : Bool) → some n p ≡ b → bit (some n p) ≡ count n p
    go true t = let a = some_le_count n p in let b = ap bit t in omega arith
    go false f = ap bit f ∙ sym (total_none n _ (λ v w. ap bit (some_none n p f v w)))
