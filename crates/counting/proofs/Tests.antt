-- "Some" and "each" of 1 to n as tests that compute, against the statements; the least number
-- that passes. By induction on n.
use Rattle.std.proofs.Common.{◌≡◌, ℕ, suc, zero, Bool, true, false, cond, refl, sym, ap, ap₂, ◌∙◌, arith, ◌&&◌, ◌||◌, ◌⊎◌, inl, inr, subst, ◌<◌, ◌≤◌, true≢false}
use Rattle.std.proofs.lemmas.Bool.{cases_eq, cases_Bool, or_cases, and_parts, and_from, both_ways, or_left, or_right, false_from_ne_true, cases_order}
use Rattle.counting.specs.Common.{Within, IsLeastWithout, every, some}
use Rattle.counting.proofs.Booleans.{or_second}

pub every_true : (n : ℕ) (p : ℕ → Bool) → every n p ≡ true → (v : ℕ) → Within n v → p v ≡ true
every_true zero p h v w = absurd (omega arith)
every_true (suc n) p h v w =
    let b = and_parts (every n p) (p (suc n)) h in
    elim (cases_eq v (suc n)) [
      | inl e ↦ rw e b.1
      | inr e ↦ every_true n p b.0 v (omega arith)
    ]

pub true_every : (n : ℕ) (p : ℕ → Bool) → ((v : ℕ) → Within n v → p v ≡ true) → every n p ≡ true
true_every zero p h = refl
true_every (suc n) p h = and_from (every n p) (p (suc n)) (true_every n p (λ v w. h v (omega arith))) (h (suc n) (omega arith))

pub every_congr : (n : ℕ) (p q : ℕ → Bool) → ((v : ℕ) → Within n v → p v ≡ q v) → every n p ≡ every n q
every_congr zero p q h = refl
every_congr (suc n) p q h = ap₂ ◌&&◌ (every_congr n p q (λ v w. h v (omega arith))) (h (suc n) (omega arith))

pub some_true : (n : ℕ) (p : ℕ → Bool) → some n p ≡ true → (v : ℕ) × Within n v × (p v ≡ true)
some_true zero p h = absurd (true≢false (sym h))
some_true (suc n) p h = elim (or_cases (some n p) (p (suc n)) h) [
  | inl a ↦ let r = some_true n p a in (r.0, omega arith, r.2)
  | inr a ↦ (suc n, omega arith, a)
]

pub true_some : (n : ℕ) (p : ℕ → Bool) (v : ℕ) → Within n v → p v ≡ true → some n p ≡ true
true_some zero p v w h = absurd (omega arith)
true_some (suc n) p v w h = elim (cases_eq v (suc n)) [
  | inl e ↦ or_right (some n p) (p (suc n)) (ap p (sym e) ∙ h)
  | inr e ↦ or_left (some n p) (p (suc n)) (true_some n p v (omega arith) h)
]

pub some_none : (n : ℕ) (p : ℕ → Bool) → some n p ≡ false → (v : ℕ) → Within n v → p v ≡ false
some_none n p h v w = false_from_ne_true (p v) (λ t. both_ways (some n p) h (true_some n p v w t))

-- the least that passes
pub least_true : (n : ℕ) (p : ℕ → Bool) → some n p ≡ true → (u : ℕ) × Within n u × (p u ≡ true) × ((w : ℕ) → Within n w → w < u → p w ≡ false)
least_true zero p h = absurd (true≢false (sym h))
least_true (suc n) p h = elim (cases_Bool (some n p)) [
  | inl t ↦ let r = least_true n p t in (r.0, omega arith, r.2, λ w ww l. r.3 w (let a = r.1 in omega arith) l)
  | inr f ↦ (suc n, omega arith, or_second (some n p) (p (suc n)) f h, λ w ww l. some_none n p f w (omega arith))
]

-- one of two for each of 1 to n: the first somewhere, or the second everywhere
pub scan : (n : ℕ) (P Q : ℕ → Type 0) → ((v : ℕ) → Within n v → P v ⊎ Q v) → ((v : ℕ) × Within n v × P v) ⊎ ((v : ℕ) → Within n v → Q v)
scan zero P Q h = inr (λ v w. absurd (omega arith))
scan (suc n) P Q h = elim (scan n P Q (λ v w. h v (omega arith))) [
  | inl f ↦ inl (f.0, let a = f.1 in omega arith, f.2)
  | inr f ↦ elim (h (suc n) (omega arith)) [
    | inl p ↦ inl (suc n, omega arith, p)
    | inr q ↦ inr (λ v w. elim (cases_eq v (suc n)) [ inl e ↦ subst Q (sym e) q | inr e ↦ f v (omega arith) ])
  ]
]

-- the first that passes
pub least_of : ℕ → (ℕ → Bool) → ℕ
least_of zero p = 0
least_of (suc n) p = cond (some n p) (least_of n p) (suc n)

pub least_of_is : (n : ℕ) (p : ℕ → Bool) → some n p ≡ true → Within n (least_of n p) × (p (least_of n p) ≡ true)
unfolding least_of
least_of_is zero p h = absurd (true≢false (sym h))
least_of_is (suc n) p h = go (least_of_is n p) (some n p) refl
  where
    go : (some n p ≡ true → Within n (least_of n p) × (p (least_of n p) ≡ true)) → (b : Bool) → some n p ≡ b → Within (suc n) (cond b (least_of n p) (suc n)) × (p (cond b (least_of n p) (suc n)) ≡ true)
    go ih true e = let r = ih e in ((let a = r.0 in omega arith), r.1)
    go ih false e = (omega arith, or_second (some n p) (p (suc n)) e h)

pub some_congr : (n : ℕ) (p q : ℕ → Bool) → ((v : ℕ) → Within n v → p v ≡ q v) → some n p ≡ some n q
some_congr zero p q h = refl
some_congr (suc n) p q h = ap₂ ◌||◌ (some_congr n p q (λ v w. h v (omega arith))) (h (suc n) (omega arith))

-- some in one of two sets
pub some_or : (n : ℕ) (p q : ℕ → Bool) → some n (λ v. p v || q v) ≡ (some n p || some n q)
some_or zero p q = refl
some_or (suc n) p q = ap (λ k. k || (p (suc n) || q (suc n))) (some_or n p q) ∙ turn (some n p) (some n q) (p (suc n)) (q (suc n))
  where
    turn : (a b c d : Bool) → ((a || b) || (c || d)) ≡ ((a || c) || (b || d))
    turn true b c d = refl
    turn false true true d = refl
    turn false true false d = refl
    turn false false c d = refl

-- two least numbers without a property are one
pub least-one : (n : ℕ) (P : ℕ → Type 0) (d e : ℕ) → IsLeastWithout n P d → IsLeastWithout n P e → d ≡ e
least-one n P d e a b = grind (arith, cases_order)

-- of 1 to n all have a decided property, or there is a least that has it not
pub all_or_least : (n : ℕ) (P : ℕ → Type 0) → ((v : ℕ) → Within n v → P v ⊎ (P v → ⊥)) → ((v : ℕ) → Within n v → P v) ⊎ ((v : ℕ) × IsLeastWithout n P v)
all_or_least n P decided = go n (omega arith)
  where
    go : (k : ℕ) → k ≤ n → ((v : ℕ) → Within k v → P v) ⊎ ((v : ℕ) × IsLeastWithout n P v)
    go zero l = inl (λ v w. absurd (omega arith))
    go (suc k) l = elim (go k (omega arith)) [
      | inr f ↦ inr f
      | inl all ↦ elim (decided (suc k) (omega arith)) [
        | inl p ↦ inl (λ v w. elim (cases_eq v (suc k)) [ inl e ↦ subst P (sym e) p | inr d ↦ all v (omega arith) ])
        | inr p ↦ inr (suc k, record { within = omega arith; without = p; before = λ v w b. all v (omega arith) })
      ]
    ]
