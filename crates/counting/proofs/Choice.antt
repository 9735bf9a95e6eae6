-- A test of sets that goes by 1 to n alone is passed by some set or by none, and the search over
-- all sets finds out. By induction on n: the sets with n and those without.
use Rattle.std.proofs.Common.{◌≡◌, ℕ, suc, zero, ◌+◌, ◌≢◌, Bool, true, false, ◌==◌, refl, sym, ap, ◌∙◌, arith, ◌||◌, not, eq-eqb, ne_eqb, ◌⊎◌, inl, inr, ◌*◌}
use Rattle.std.proofs.lemmas.Bool.{cases_eq, cases_Bool, or_cases, or_parts, both_ways, not-true, not-false}
use Rattle.counting.proofs.Totals.{total_add, total_at, total_congr}
use Rattle.counting.specs.Common.{Within, bit, count, total, Set, none, put, each_set, some_set}

-- p goes by 1 to n alone
pub record Respects (n : ℕ) (p : Set → Bool) : Type 0 where
  pub same : (m k : Set) → ((e : ℕ) → Within n e → m e ≡ k e) → p m ≡ p k

pub some_set_found : (n : ℕ) (p : Set → Bool) → some_set n p ≡ true → (m : Set) × (p m ≡ true)
some_set_found zero p h = (none, h)
some_set_found (suc n) p h = grind (arith, or_cases, some_set_found n)

put_same : (m k : Set) (e i : ℕ) (b : Bool) → (i ≢ e → m i ≡ k i) → put m e b i ≡ put k e b i
put_same m k e i b h = grind (arith, cases_eq, eq-eqb, ne_eqb)

put_own : (m : Set) (e i : ℕ) (b : Bool) → m e ≡ b → put m e b i ≡ m i
put_own m e i b h = grind (arith, cases_eq, eq-eqb, ne_eqb)

respects_put : (n : ℕ) (p : Set → Bool) (b : Bool) → Respects (suc n) p → Respects n (λ m. p (put m (suc n) b))
respects_put n p b r = record { same = λ m k h. r.same (put m (suc n) b) (put k (suc n) b) (λ e w. put_same m k (suc n) e b (λ d. h e (omega arith))) }

pub some_set_none : (n : ℕ) (p : Set → Bool) → Respects n p → some_set n p ≡ false → (m : Set) → p m ≡ false
some_set_none zero p r h m = r.same m none (λ e w. absurd (omega arith)) ∙ h
some_set_none (suc n) p r h m =
    let q = or_parts (some_set n (λ m. p (put m (suc n) false))) (some_set n (λ m. p (put m (suc n) true))) h in
    elim (cases_Bool (m (suc n))) [
      | inl t ↦ r.same m (put m (suc n) true) (λ e w. sym (put_own m (suc n) e true t)) ∙ some_set_none n (λ m. p (put m (suc n) true)) (respects_put n p true r) q.1 m
      | inr t ↦ r.same m (put m (suc n) false) (λ e w. sym (put_own m (suc n) e false t)) ∙ some_set_none n (λ m. p (put m (suc n) false)) (respects_put n p false r) q.0 m
    ]

-- there is a set that passes, or none does
pub choose_set : (n : ℕ) (p : Set → Bool) → Respects n p → ((m : Set) × (p m ≡ true)) ⊎ ((m : Set) → p m ≡ false)
choose_set n p r = elim (cases_Bool (some_set n p)) [
  | inl t ↦ inl (some_set_found n p t)
  | inr t ↦ inr (some_set_none n p r t)
]

-- a sum over a set, after one change
pub total_put : (k : ℕ) (m : Set) (i : ℕ) (b : Bool) (f : ℕ → ℕ) → Within k i → total k (λ e. bit (put m i b e) * f e) + bit (m i) * f i ≡ total k (λ e. bit (m e) * f e) + bit b * f i
total_put k m i b f w =
    ap (λ s. total k (λ e. bit (put m i b e) * f e) + s) (sym (at_i (bit (m i) * f i)))
    ∙ sym (total_add k (λ e. bit (put m i b e) * f e) (λ e. bit (i == e) * (bit (m i) * f i)))
    ∙ total_congr k _ _ (λ e u. each e)
    ∙ total_add k (λ e. bit (m e) * f e) (λ e. bit (i == e) * (bit b * f i))
    ∙ ap (λ s. total k (λ e. bit (m e) * f e) + s) (at_i (bit b * f i))
  where
    at_i : (c : ℕ) → total k (λ e. bit (i == e) * c) ≡ c
    at_i c = total_at k (λ e. bit (i == e) * c) i w (λ v u d. rw (ne_eqb i v (λ q. d (sym q))) (omega arith)) ∙ rw (eq-eqb i i refl) (omega arith)

    each : (e : ℕ) → bit (put m i b e) * f e + bit (i == e) * (bit (m i) * f i) ≡ bit (m e) * f e + bit (i == e) * (bit b * f i)
    each e = elim (cases_eq e i) [
      | inl q ↦ rw (q, eq-eqb i i refl) (omega arith)
      | inr q ↦ rw (ne_eqb e i q, ne_eqb i e (λ d. q (sym d))) (omega arith)
    ]

pub count_put : (k : ℕ) (m : Set) (i : ℕ) (b : Bool) → Within k i → count k (put m i b) + bit (m i) ≡ count k m + bit b
count_put k m i b w = let a = total_put k m i b (λ e. 1) w in
    let c : total k (λ e. bit (put m i b e) * 1) ≡ count k (put m i b) = total_congr k _ _ (λ e u. omega arith) in
    let d : total k (λ e. bit (m e) * 1) ≡ count k m = total_congr k _ _ (λ e u. omega arith) in omega arith

-- The tests say what the relations say. Idea: each goes by the numbers 1 to n alone, so the
-- search over sets misses none.

-- a set that passes is found
pub set_found : (n : ℕ) (p : Set → Bool) → Respects n p → (m : Set) → p m ≡ true → some_set n p ≡ true
set_found n p r m h = elim (cases_Bool (some_set n p)) [
  | inl t ↦ t
  | inr f ↦ absurd (both_ways (p m) (some_set_none n p r f m) h)
]

pub negated : (n : ℕ) (p : Set → Bool) → Respects n p → Respects n (λ m. not (p m))
negated n p r = record { same = λ m k h. ap not (r.same m k h) }

-- each set passes where the test says so
pub each_passes : (n : ℕ) (p : Set → Bool) → Respects n p → each_set n p ≡ true → (m : Set) → p m ≡ true
each_passes n p r h m = not-false (p m) (some_set_none n (λ k. not (p k)) (negated n p r) (not-true (some_set n (λ k. not (p k))) h) m)

pub none_fails : (n : ℕ) (p : Set → Bool) → ((m : Set) → p m ≡ true) → each_set n p ≡ true
none_fails n p h = grind (arith, cases_Bool, some_set_found, both_ways, not-true)

pub implied : (a b : Bool) → (not a || b) ≡ true → a ≡ true → b ≡ true
implied a b h p = grind arith

pub implies : (a b : Bool) → (a ≡ true → b ≡ true) → (not a || b) ≡ true
implies true b h = h refl
implies false b h = refl
