-- The ranks of the members of a set: how many of 1 to a number are in it.
-- They grow, each from 1 to the count is the rank of a member, and of only one.
use Rattle.std.proofs.Common.{◌≡◌, ℕ, suc, zero, ◌≤◌, ◌<◌, true, ap, arith, inl, inr}
use Rattle.std.proofs.lemmas.Bool.{cases_eq, cases_Bool, cases_order}
use Rattle.counting.specs.Common.{Within, bit, count, Set}

-- ranks grow
pub count_up : (p : Set) (a b : ℕ) → a ≤ b → count a p ≤ count b p
count_up p a zero l = let z : a ≡ 0 = omega arith in let x = ap (λ s. count s p) z in omega arith
count_up p a (suc b) l = elim (cases_eq a (suc b)) [
  | inl q ↦ let x = ap (λ s. count s p) q in omega arith
  | inr q ↦ let x = count_up p a b (omega arith) in omega arith
]

-- the member of rank j
pub member_ranked : (n : ℕ) (p : Set) (j : ℕ) → Within (count n p) j → (u : ℕ) × Within n u × (p u ≡ true) × (count u p ≡ j)
member_ranked zero p j w = absurd (omega arith)
member_ranked (suc n) p j w = elim (cases_Bool (p (suc n))) [
  | inr f ↦ let x = ap bit f in let r = member_ranked n p j (omega arith) in (r.0, (let a = r.1 in omega arith), r.2, r.3)
  | inl t ↦ let x = ap bit t in elim (cases_eq (count (suc n) p) j) [
    | inl q ↦ (suc n, omega arith, t, q)
    | inr q ↦ let r = member_ranked n p j (omega arith) in (r.0, (let a = r.1 in omega arith), r.2, r.3)
  ]
]

-- a member ranks above all before it
below_rank : (p : Set) (a b : ℕ) → a < b → p b ≡ true → count a p < count b p
below_rank p a zero l t = absurd (omega arith)
below_rank p a (suc b) l t = let x = count_up p a b (omega arith) in let y = ap bit t in omega arith

-- members of the same rank are one
pub rank_once : (p : Set) (a b : ℕ) → p a ≡ true → p b ≡ true → count a p ≡ count b p → a ≡ b
rank_once p a b pa pb q = grind (arith, cases_order, below_rank)
