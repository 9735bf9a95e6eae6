-- Canonical shores, shores as rising lists, and what one more shore does to a list of candidates.
-- Idea: a set, its canonical shore and its rising list have the same cut, and a shore more is
-- either left out or pushed at the end.
use Rattle.graph_core.proofs.from_counting.Common.{◌≡◌, ℕ, Bool, true, false, refl, sym, ap, ap₂, ◌∙◌, ◌&&◌, ◌||◌, not, inl, inr, ◌⊎◌, List, [], ◌∷◌, ◌++◌, subst, All, arith, AllPairs, All-push, list_any_at, Any-from_list_any, all_pairs_push, same_tests, and_parts, and_from, or_left, or_right, true≢false, both_ways, false_from_ne_true, list_any-append, count_congr, rising_only, mem-rising_list, rising_list-rises, true_all_in, all_in_true, list_any, Within, mem, rising_list, is_subset, Set, complement}
use Rattle.barrier_kit.proofs.Common.{canonical-tight, canonical-wide, nontrivial-true, true-nontrivial, canonical-out}
use Rattle.graph_core.proofs.Common.{is_listed, Graph, size, first_end, second_end, IsGraph, in_cut, IsTight, IsNontrivial, canonical_shore, is_nontrivial, tight-same, nontrivial-same}
use Rattle.tight_cuts.specs.Common.{Origin, Candidate, ShoresDiffer, candidate, cuts, shores_of, with_shore, IsTightCandidate}

pub canonical-in_cut : (g : Graph) (n : ℕ) (x : Set) (e : ℕ) → in_cut g (canonical_shore n x) e ≡ in_cut g x e
canonical-in_cut g n x e = grind arith

-- a set as a rising list
pub rising-in_cut : (g : Graph) (y : Set) (e : ℕ) → IsGraph g → Within (size g) e → in_cut g (mem (rising_list g.order y)) e ≡ in_cut g y e
rising-in_cut g y e is w = ap₂ (λ s t. (s && not t) || (not s && t)) (mem-rising_list g.order y (first_end g e) (is e w).0) (mem-rising_list g.order y (second_end g e) (is e w).1)

-- the candidate of a canonical, tight, nontrivial set
pub candidate-tight : (g : Graph) (o : Origin) (y : Set) → IsGraph g → IsTight g y → IsNontrivial g.order y → y g.order ≡ false → IsTightCandidate g (candidate g.order o y)
candidate-tight g o y is t nt off = record {
  rising = rising_list-rises g.order y;
  tight = tight-same g y (mem (rising_list g.order y)) is (λ v w. sym (mem-rising_list g.order y v w)) t;
  nontrivial = nontrivial-same g.order y (mem (rising_list g.order y)) (λ v w. sym (mem-rising_list g.order y v w)) nt;
  canonical = false_from_ne_true (mem (rising_list g.order y) g.order) (λ m. both_ways (y g.order) off (rising_only g.order y g.order m).1);
  inside = count_congr g.order y (mem (rising_list g.order y)) (λ v w. sym (mem-rising_list g.order y v w));
  outside = count_congr g.order (complement y) (complement (mem (rising_list g.order y))) (λ v w. ap not (sym (mem-rising_list g.order y v w)));
}

subset_own : (xs : List ℕ) → is_subset xs xs ≡ true
subset_own xs = true_all_in xs (mem xs) (λ v m. m)

same_sets : (s t : List ℕ) → (is_subset s t && is_subset t s) ≡ true → (v : ℕ) → mem s v ≡ mem t v
same_sets s t h v = let p = and_parts (is_subset s t) (is_subset t s) h in same_tests (mem s v) (mem t v) (all_in_true s (mem t) p.0 v) (all_in_true t (mem s) p.1 v)

-- the candidate has the vertices of s for its shore
abbrev pub has_shore : List ℕ → Candidate → Bool
has_shore s c = is_subset s c.shore && is_subset c.shore s

-- a shore is listed if a candidate has it
pub listed-any : (list : List Candidate) (s : List ℕ) → is_listed (shores_of list) s ≡ list_any (has_shore s) list
listed-any [] s = refl
listed-any (c ∷ list) s = ap (λ b. has_shore s c || b) (listed-any list s)

-- what one more shore does
pub with_cases : (n : ℕ) (o : Origin) (list : List Candidate) (x : Set) →
    ((with_shore n o list x ≡ list) × ((is_nontrivial n (canonical_shore n x) && not (is_listed (shores_of list) (rising_list n (canonical_shore n x)))) ≡ false))
    ⊎ ((with_shore n o list x ≡ list ++ candidate n o (canonical_shore n x) ∷ []) × (is_nontrivial n (canonical_shore n x) ≡ true) × (not (is_listed (shores_of list) (rising_list n (canonical_shore n x))) ≡ true))
with_cases n o list x = grind arith

pub with_found : (g : Graph) (o : Origin) (list : List Candidate) (x : Set) → IsGraph g → IsTight g x → All (IsTightCandidate g) list → All (IsTightCandidate g) (with_shore g.order o list x)
with_found g o list x is t h = elim (with_cases g.order o list x) [
  | inl c ↦ subst (All (IsTightCandidate g)) (sym c.0) h
  | inr c ↦ subst (All (IsTightCandidate g)) (sym c.0) (All-push (IsTightCandidate g) list (candidate g.order o (canonical_shore g.order x)) h
      (candidate-tight g o (canonical_shore g.order x) is (canonical-tight g x is t) (nontrivial-true g.order (canonical_shore g.order x) c.1) (canonical-out g.order x)))
]

pub with_apart : (n : ℕ) (o : Origin) (list : List Candidate) (x : Set) → AllPairs ShoresDiffer list → AllPairs ShoresDiffer (with_shore n o list x)
with_apart n o list x h = elim (with_cases n o list x) [
  | inl c ↦ subst (AllPairs ShoresDiffer) (sym c.0) h
  | inr c ↦ subst (AllPairs ShoresDiffer) (sym c.0) (all_pairs_push ShoresDiffer list (candidate n o (canonical_shore n x)) h (λ k d l e.
      true≢false (sym c.2 ∙ ap not (listed-any list (rising_list n (canonical_shore n x)) ∙ list_any_at (has_shore (rising_list n (canonical_shore n x))) list k d l
      (ap (λ s. is_subset (rising_list n (canonical_shore n x)) s && is_subset s (rising_list n (canonical_shore n x))) e ∙ and_from (is_subset (rising_list n (canonical_shore n x)) (rising_list n (canonical_shore n x))) (is_subset (rising_list n (canonical_shore n x)) (rising_list n (canonical_shore n x))) (subset_own (rising_list n (canonical_shore n x))) (subset_own (rising_list n (canonical_shore n x))))))))
]

pub with_grows : (p : Candidate → Bool) (n : ℕ) (o : Origin) (list : List Candidate) (x : Set) → list_any p list ≡ true → list_any p (with_shore n o list x) ≡ true
with_grows p n o list x h = grind (arith, with_cases, list_any-append, or_left)

-- a nontrivial shore: each edge of its cut is in the cut of a candidate then
pub with_covers : (g : Graph) (o : Origin) (list : List Candidate) (x : Set) (e : ℕ) → IsGraph g → Within (size g) e → IsNontrivial g.order x → in_cut g x e ≡ true → list_any (cuts g e) (with_shore g.order o list x) ≡ true
with_covers g o list x e is w nt ce = elim (with_cases g.order o list x) [
  | inl c ↦ ap (list_any (cuts g e)) c.0 ∙ listed (is_nontrivial g.order (canonical_shore g.order x)) (is_listed (shores_of list) (rising_list g.order (canonical_shore g.order x))) refl c.1 (true-nontrivial g.order (canonical_shore g.order x) (canonical-wide g.order x nt))
  | inr c ↦ ap (list_any (cuts g e)) c.0 ∙ list_any-append (cuts g e) list (candidate g.order o (canonical_shore g.order x) ∷ []) ∙ or_right (list_any (cuts g e) list) (list_any (cuts g e) (candidate g.order o (canonical_shore g.order x) ∷ [])) (or_left (cuts g e (candidate g.order o (canonical_shore g.order x))) false own)
]
  where
    own : in_cut g (mem (rising_list g.order (canonical_shore g.order x))) e ≡ true
    own = rising-in_cut g (canonical_shore g.order x) e is w ∙ canonical-in_cut g g.order x e ∙ ce

    listed : (s t : Bool) → is_listed (shores_of list) (rising_list g.order (canonical_shore g.order x)) ≡ t → (s && not t) ≡ false → s ≡ true → list_any (cuts g e) list ≡ true
    listed true true q h p =
        let y = rising_list g.order (canonical_shore g.order x) in
        let r = Any-from_list_any (has_shore (rising_list g.order (canonical_shore g.order x))) list (sym (listed-any list (rising_list g.order (canonical_shore g.order x))) ∙ q) in
        let same = same_sets (rising_list g.order (canonical_shore g.order x)) r.1.shore r.4 in
        list_any_at (cuts g e) list r.0 r.1 r.2 (ap (cuts g e) r.3 ∙ ap₂ (λ s t. (s && not t) || (not s && t)) (sym (same (first_end g e))) (sym (same (second_end g e))) ∙ own)
    listed true false q h p = absurd (true≢false h)
    listed false t q h p = absurd (true≢false (sym p))

-- a nontrivial shore with an edge in its cut that is in the cut of no candidate is appended
pub with_new : (g : Graph) (o : Origin) (list : List Candidate) (x : Set) (e : ℕ) → IsGraph g → Within (size g) e → IsNontrivial g.order x → in_cut g x e ≡ true → list_any (cuts g e) list ≡ false → with_shore g.order o list x ≡ list ++ candidate g.order o (canonical_shore g.order x) ∷ []
with_new g o list x e is w nt ce unlisted = grind (arith, with_cases, both_ways, list_any, with_covers)
