-- Lists of candidates as the code makes them: the candidates of a list of canonical shores. Idea: a
-- candidate goes by its shore alone, and a set and its rising list have the same numbers on both
-- sides.
use Rattle.graph_core.proofs.from_counting.Common.{◌≡◌, ℕ, ◌-◌, Bool, true, false, refl, ap, ◌∙◌, arith, ◌||◌, List, [], ◌∷◌, ◌++◌, map, length, if◌then◌else◌, fold, list_any, count_congr, count_complement, count_mem_length, mem-rising_list, mem, rising_list, IsRisingIn, Set, complement}
use Rattle.graph_core.proofs.Common.{canonical_list, with_cut, Graph, in_cut, canonical_shore}
use Rattle.tight_cuts.specs.Common.{Candidate, Origin, candidate, candidate_at, cuts, shores_of, with_list, candidate_of}
use Rattle.tight_cuts.specs.declared.candidate.Candidate.{Candidate as StoredCandidate}

pub cuts-items : (g : Graph) (e : ℕ) (items : List StoredCandidate) → list_any (cuts g e) (map candidate_of items) ≡ list_any (λ (c : StoredCandidate). in_cut g (mem c.shore) e) items
cuts-items g e [] = refl
cuts-items g e (c ∷ items) = ap (λ b. in_cut g (mem c.shore) e || b) (cuts-items g e items)

-- the candidate of a shore by its length
pub candidate-length : (n k : ℕ) (o : Origin) (s : List ℕ) → IsRisingIn n s → k ≡ length s → record { shore = s; inside = k; outside = n - k; origin = o } ≡ candidate_at n o s
candidate-length n k o s r e = grind (arith, count_mem_length n s r, count_complement n (mem s))

-- the candidate of a set is that of its list
pub candidate-list : (n : ℕ) (o : Origin) (x : Set) → candidate_at n o (rising_list n x) ≡ candidate n o x
candidate-list n o x = grind (arith, count_congr n (mem (rising_list n x)) x, mem-rising_list n x, count_congr n (complement (mem (rising_list n x))) (complement x))

pub choose-true : (b : Bool) (x y : List Candidate) → b ≡ true → (if b then x else y) ≡ x
choose-true b x y e = grind arith

pub choose-false : (b : Bool) (x y : List Candidate) → b ≡ false → (if b then x else y) ≡ y
choose-false b x y e = grind arith

-- the shores of candidates of shores
shores-of-map : (n : ℕ) (o : Origin) (xs : List (List ℕ)) → shores_of (map (candidate_at n o) xs) ≡ xs
shores-of-map n o [] = refl
shores-of-map n o (x ∷ xs) = ap (λ ys. x ∷ ys) (shores-of-map n o xs)

map-push : (n : ℕ) (o : Origin) (xs : List (List ℕ)) (x : List ℕ) → map (candidate_at n o) (xs ++ x ∷ []) ≡ map (candidate_at n o) xs ++ candidate_at n o x ∷ []
map-push n o [] x = refl
map-push n o (y ∷ xs) x = ap (λ ys. candidate_at n o y ∷ ys) (map-push n o xs x)

-- one cut more, and its candidate
with-cut : (n : ℕ) (o : Origin) (xs : List (List ℕ)) (s : List ℕ) → with_list n o (map (candidate_at n o) xs) s ≡ map (candidate_at n o) (with_cut n xs s)
with-cut n o xs s = grind (arith, shores-of-map n o xs, candidate-list n o (canonical_shore n (mem s)), map-push n o xs (canonical_list n s))

-- all cuts of a list of shores, and their candidates
pub fold-cuts : (n : ℕ) (o : Origin) (shores xs : List (List ℕ)) → fold (with_list n o) (map (candidate_at n o) xs) shores ≡ map (candidate_at n o) (fold (with_cut n) xs shores)
fold-cuts n o [] xs = refl
fold-cuts n o (s ∷ shores) xs = ap (λ list. fold (with_list n o) list shores) (with-cut n o xs s) ∙ fold-cuts n o shores (with_cut n xs s)
