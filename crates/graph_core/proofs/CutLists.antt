-- Lists of cuts by canonical shores: a shore by its members, and what a list gets for it. An
-- increasing list is fixed by its test, and of the three cases of `with_cut` each has its step.
use Rattle.vset_core.proofs.from_counting.Common.{◌≡◌, ℕ, ◌+◌, ◌-◌, ◌≤◌, true, false, sym, arith, ◌&&◌, not, List, [], ◌∷◌, ◌++◌, length, nat_le, subst, and_parts, and_from, count_complement, count_congr, count_mem_length, list-from_test, mem-rising_list, rising_list-rises, set-narrower, Within, IsRisingIn, mem, Set}
use Rattle.graph_core.specs.Common.{canonical_shore, is_nontrivial, canonical_list, is_listed, with_cut}

-- sizes of an increasing list as a set
pub nontrivial-length : (n k : ℕ) (s : List ℕ) → IsRisingIn n s → k ≡ length s → is_nontrivial n (mem s) ≡ (nat_le 3 k && nat_le 3 (n - k))
nontrivial-length n k s r e = grind (arith, count_mem_length n s r, count_complement n (mem s), nat_le 3)

pub length-in : (n k : ℕ) (s : List ℕ) → IsRisingIn n s → k ≡ length s → k ≤ n
length-in n k s r e = let c = count_mem_length n s r in let d = count_complement n (mem s) in omega arith

-- the canonical shore by its members
pub canonical-kept : (n : ℕ) (s t : List ℕ) (all : Set) → mem s n ≡ false → ((v : ℕ) → Within n v → all v ≡ true) → ((v : ℕ) → all v ≡ true → Within n v) → IsRisingIn 128 t → ((v : ℕ) → mem t v ≡ (all v && mem s v)) → t ≡ canonical_list n s
canonical-kept n s t all out full only rises same = grind (arith, list-from_test n t (canonical_shore n (mem s)), set-narrower 128 n t rises, and_parts)

pub canonical-turned : (n : ℕ) (s t : List ℕ) (all : Set) → mem s n ≡ true → ((v : ℕ) → Within n v → all v ≡ true) → ((v : ℕ) → all v ≡ true → Within n v) → IsRisingIn 128 t → ((v : ℕ) → mem t v ≡ (all v && not (mem s v))) → t ≡ canonical_list n s
canonical-turned n s t all inside full only rises same = grind (arith, list-from_test n t (canonical_shore n (mem s)), set-narrower 128 n t rises, and_parts)

pub canonical-rises : (n : ℕ) (s t : List ℕ) → t ≡ canonical_list n s → IsRisingIn n t
canonical-rises n s t e = subst (IsRisingIn n) (sym e) (rising_list-rises n (canonical_shore n (mem s)))

pub canonical-nontrivial : (n : ℕ) (s t : List ℕ) → t ≡ canonical_list n s → is_nontrivial n (mem t) ≡ is_nontrivial n (canonical_shore n (mem s))
canonical-nontrivial n s t e = grind (arith, mem-rising_list, nat_le, count_congr)

-- the step that appends, and the step that leaves out
pub cut-taken : (n : ℕ) (cuts after : List (List ℕ)) (s t : List ℕ) → t ≡ canonical_list n s → is_nontrivial n (mem t) ≡ true → is_listed cuts t ≡ false → after ≡ cuts ++ t ∷ [] → after ≡ with_cut n cuts s
cut-taken n cuts after s t e wide new is = grind (arith, and_from, canonical-nontrivial)

pub cut-narrow : (n : ℕ) (cuts : List (List ℕ)) (s t : List ℕ) → t ≡ canonical_list n s → is_nontrivial n (mem t) ≡ false → cuts ≡ with_cut n cuts s
cut-narrow n cuts s t e narrow = grind (arith, canonical-nontrivial n s t e)

pub cut-known : (n : ℕ) (cuts : List (List ℕ)) (s t : List ℕ) → t ≡ canonical_list n s → is_listed cuts t ≡ true → cuts ≡ with_cut n cuts s
cut-known n cuts s t e known = grind arith
