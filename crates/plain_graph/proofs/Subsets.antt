-- Each set of numbers 1 to n is in the list of all of them, as its increasing list: the sets
-- without n come first, then the same sets with n added. So a test that passes for a set passes for
-- an item of the list.
use Rattle.std.proofs.Common.{◌≡◌, ℕ, suc, zero, ◌+◌, ◌≤◌, ◌<◌, Bool, true, false, ◌==◌, ◌||◌, refl, sym, ap, ap₂, ◌∙◌, arith, List, [], ◌∷◌, ◌++◌, length, map, filter, get_or, subst, cond, append-nil, eq-eqb, ne_eqb, All, Contains}
use Rattle.allowed_edges.proofs.from_counting.Common.{All-append, All-weaker, Contains-append_left, Contains-append_right, Contains-push, or_right, get_or-map, length-map, All-cons, All-map, All-nil, rising_list-congr, rising_list-mem, rising_list-rises, same_rising_list, set-none, set-wider, mem-append, or_false, IsRisingIn, mem, rising_list, Set}
use Rattle.plain_graph.specs.Subsets.{subsets}

-- the next number at the end of an increasing list is the next number in its set
push-rising_list : (n : ℕ) (xs : List ℕ) → IsRisingIn n xs → rising_list (suc n) (λ v. mem xs v || (suc n == v)) ≡ xs ++ suc n ∷ []
push-rising_list n xs r = ap₂ (λ ys b. ys ++ cond b (suc n ∷ []) [])
    (rising_list-congr n (λ v. mem xs v || (suc n == v)) (mem xs) (λ v w. rw (ne_eqb (suc n) v (λ e. absurd (omega arith))) (or_false (mem xs v))) ∙ rising_list-mem n xs r)
    (or_right (mem xs (suc n)) (suc n == suc n) (eq-eqb (suc n) (suc n) refl))

pub rising-push : (n : ℕ) (xs : List ℕ) → IsRisingIn n xs → IsRisingIn (suc n) (xs ++ suc n ∷ [])
rising-push n xs r = subst (IsRisingIn (suc n)) (push-rising_list n xs r) (rising_list-rises (suc n) (λ v. mem xs v || (suc n == v)))

-- each item is a set of numbers 1 to n
pub subsets-rising : (n : ℕ) → All (IsRisingIn n) (subsets n)
subsets-rising zero = All-cons (IsRisingIn zero) [] [] (set-none zero) (All-nil (IsRisingIn zero))
subsets-rising (suc n) =
    All-append (IsRisingIn (suc n)) (subsets n) (map (λ xs. xs ++ suc n ∷ []) (subsets n))
    (All-weaker (IsRisingIn n) (IsRisingIn (suc n)) (λ xs r. set-wider n (suc n) xs (omega arith) r) (subsets n) (subsets-rising n))
    (All-map (IsRisingIn (suc n)) (λ xs. xs ++ suc n ∷ []) (subsets n) (All-weaker (IsRisingIn n) (λ xs. IsRisingIn (suc n) (xs ++ suc n ∷ [])) (rising-push n) (subsets n) (subsets-rising n)))

Contains-map : (f : List ℕ → List ℕ) (xss : List (List ℕ)) (xs : List ℕ) → Contains xss xs → Contains (map f xss) (f xs)
Contains-map f xss xs c = (c.0, let l = c.1 in let m = length-map xss f in omega arith, get_or-map f xss c.0 xs (f xs) c.1 ∙ ap f c.2)

-- each set is there
pub subsets-all : (n : ℕ) (x : Set) → Contains (subsets n) (rising_list n x)
subsets-all zero x = Contains-push [] []
subsets-all (suc n) x = go (subsets-all n x) (x (suc n))
  where
    go : Contains (subsets n) (rising_list n x) → (b : Bool) → Contains (subsets n ++ map (λ xs. xs ++ suc n ∷ []) (subsets n)) (rising_list n x ++ cond b (suc n ∷ []) [])
    go there true = Contains-append_right (subsets n) (map (λ xs. xs ++ suc n ∷ []) (subsets n)) (rising_list n x ++ suc n ∷ []) (Contains-map (λ xs. xs ++ suc n ∷ []) (subsets n) (rising_list n x) there)
    go there false = subst (Contains (subsets (suc n))) (sym (append-nil (rising_list n x))) (Contains-append_left (subsets n) (map (λ xs. xs ++ suc n ∷ []) (subsets n)) (rising_list n x) there)

-- an item that passes is kept
pub Contains-filter : (p : List ℕ → Bool) (xss : List (List ℕ)) (xs : List ℕ) → Contains xss xs → p xs ≡ true → Contains (filter p xss) xs
Contains-filter p xss xs c h = go xss c.0 c.1 c.2
  where
    go : (yss : List (List ℕ)) (k : ℕ) → k < length yss → get_or yss k xs ≡ xs → Contains (filter p yss) xs
    go [] k l e = absurd (omega arith)
    go (ys ∷ yss) zero l e = subst (λ b. Contains (cond b (ys ∷ filter p yss) (filter p yss)) xs) (sym (ap p e ∙ h)) (zero, omega arith, e)
    go (ys ∷ yss) (suc k) l e = keep (p ys) (go yss k (omega arith) e)
      where
        keep : (b : Bool) → Contains (filter p yss) xs → Contains (cond b (ys ∷ filter p yss) (filter p yss)) xs
        keep true c = (suc c.0, let l = c.1 in omega arith, c.2)
        keep false c = c

-- a set with the next number added is its list with that number at the end
pub with_next-is : (n m : ℕ) (xs more : List ℕ) → n + 1 ≤ m → IsRisingIn n xs → IsRisingIn m more → ((v : ℕ) → mem more v ≡ (mem xs v || (n + 1 == v))) → more ≡ xs ++ (n + 1) ∷ []
with_next-is n m xs more le r more_r h =
    let e : suc n ≡ n + 1 = omega arith in
    grind (arith, same_rising_list m more (xs ++ (n + 1) ∷ []) more_r, set-wider (suc n) m (xs ++ suc n ∷ []), rising-push n xs r, mem-append xs ((n + 1) ∷ []), or_false)
