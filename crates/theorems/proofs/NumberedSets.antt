-- The sets of numbers from 1 to m, numbered from 1 on: first those without m, then those with it.
-- Each set has a number. By induction on m.
use Rattle.tree_check.proofs.from_counting.Common.{◌≡◌, ℕ, suc, zero, ◌+◌, ◌-◌, ◌≤◌, ◌==◌, nat_lt, Bool, true, false, cond, refl, sym, ap, ◌∙◌, arith, inl, inr, cases_Bool, cases_eq, cond-true, cond-false, eq-eqb, ne_eqb, lt-ltb, ltb-true, Within, Set}

-- how many sets there are
abbrev pub set_total : ℕ → ℕ
set_total zero = 1
set_total (suc m) = set_total m + set_total m

-- the set with the number i
abbrev pub numbered : ℕ → ℕ → Set
numbered zero i e = false
numbered (suc m) i e = cond (e == suc m) (nat_lt (set_total m) i) (numbered m (cond (nat_lt (set_total m) i) (i - set_total m) i) e)

not_above : (k i : ℕ) → i ≤ k → nat_lt k i ≡ false
not_above k i l = elim (cases_Bool (nat_lt k i)) [
  | inl t ↦ let h = ltb-true k i t in absurd (omega arith)
  | inr f ↦ f
]

-- the set i, if its last member is as in p, and the others are
one_more : (m i j : ℕ) (b : Bool) (p : Set) → nat_lt (set_total m) i ≡ b → cond b (i - set_total m) i ≡ j → p (suc m) ≡ b → ((e : ℕ) → Within m e → numbered m j e ≡ p e) → (e : ℕ) → Within (suc m) e → numbered (suc m) i e ≡ p e
one_more m i j b p above at last same e w = elim (cases_eq e (suc m)) [
  | inl q ↦ cond-true (e == suc m) (nat_lt (set_total m) i) (numbered m (cond (nat_lt (set_total m) i) (i - set_total m) i) e) (eq-eqb e (suc m) q) ∙ above ∙ sym last ∙ sym (ap p q)
  | inr n ↦ cond-false (e == suc m) (nat_lt (set_total m) i) (numbered m (cond (nat_lt (set_total m) i) (i - set_total m) i) e) (ne_eqb e (suc m) n) ∙ ap (λ k. numbered m k e) (ap (λ c. cond c (i - set_total m) i) above ∙ at) ∙ same e (omega arith)
]

-- the number of a set
pub number_of : (m : ℕ) (p : Set) → (i : ℕ) × Within (set_total m) i × ((e : ℕ) → Within m e → numbered m i e ≡ p e)
number_of zero p = (1, omega arith, λ e w. absurd (omega arith))
number_of (suc m) p =
    let f = number_of m p in
    elim (cases_Bool (p (suc m))) [
      | inl t ↦ (f.0 + set_total m, omega arith, one_more m (f.0 + set_total m) f.0 true p (lt-ltb (set_total m) (f.0 + set_total m) (omega arith)) (omega arith) t f.2)
      | inr t ↦ (f.0, omega arith, one_more m f.0 f.0 false p (not_above (set_total m) f.0 (omega arith)) refl t f.2)
    ]
