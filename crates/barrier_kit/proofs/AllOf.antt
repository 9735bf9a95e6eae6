-- What is true of each item of a list that is made of other lists, and of each item of such a list
-- read back. Inductions over the list.
use Rattle.graph_core.proofs.from_counting.Common.{◌≡◌, ℕ, suc, zero, ◌<◌, Bool, true, false, cond, refl, sym, ap, ◌∙◌, arith, inl, inr, List, [], ◌∷◌, ◌++◌, map, flat_map, filter, Some, None, nat_lt, ltb-true, subst, All, find, All-append, cases_Bool, cases_lt, All-cons, All-head, All-map, All-nil, All-tail, Within, pair_with, rising_list, rising_pairs, Set, everything}

-- the items of an increasing list
pub all_rising : (n : ℕ) (x : Set) (P : ℕ → Type 0) → ((v : ℕ) → Within n v → x v ≡ true → P v) → All P (rising_list n x)
all_rising zero x P h = All-nil P
all_rising (suc n) x P h = All-append P (rising_list n x) (cond (x (suc n)) (suc n ∷ []) []) (all_rising n x P (λ v w t. h v (omega arith) t)) (grind arith)

-- the lists that a flattened list is made of
pub all_flat : {X A : Type 0} (P : A → Type 0) (f : X → List A) (xs : List X) → All (λ x. All P (f x)) xs → All P (flat_map f xs)
all_flat P f [] h = All-nil P
all_flat P f (x ∷ xs) h = All-append P (f x) (flat_map f xs) (All-head (λ x. All P (f x)) x xs h) (all_flat P f xs (All-tail (λ x. All P (f x)) x xs h))

pub all_passing : {X : Type 0} (p : X → Bool) (P : X → Type 0) (xs : List X) → All (λ x. p x ≡ true → P x) xs → All P (filter p xs)
all_passing p P [] h = All-nil P
all_passing p P (x ∷ xs) h = go (p x) refl (all_passing p P xs (All-tail (λ x. p x ≡ true → P x) x xs h))
  where
    go : (b : Bool) → p x ≡ b → All P (filter p xs) → All P (cond b (x ∷ filter p xs) (filter p xs))
    go b e r = grind arith

-- what is left by a search that found nothing
pub all_unfound : {X : Type 0} (p : X → Bool) (xs : List X) → find p xs ≡ None → All (λ k. p k ≡ false) xs
all_unfound p [] h = All-nil (λ k. p k ≡ false)
all_unfound p (x ∷ xs) h = elim (cases_Bool (p x)) [
  | inl t ↦ let s : Some x ≡ None = ap (λ b. cond b (Some x) (find p xs)) (sym t) ∙ h in absurd cc
  | inr f ↦ All-cons (λ k. p k ≡ false) x xs f (all_unfound p xs (ap (λ b. cond b (Some x) (find p xs)) (sym f) ∙ h))
]

-- and nothing is found where nothing passes
pub unfound_all : {X : Type 0} (p : X → Bool) (xs : List X) → All (λ k. p k ≡ false) xs → find p xs ≡ None
unfound_all p [] h = refl
unfound_all p (x ∷ xs) h = ap (λ b. cond b (Some x) (find p xs)) (All-head (λ k. p k ≡ false) x xs h) ∙ unfound_all p xs (All-tail (λ k. p k ≡ false) x xs h)

-- the parts of a list, read back
all_first : {A : Type 0} (P : A → Type 0) (xs ys : List A) → All P (xs ++ ys) → All P xs
all_first P [] ys h = All-nil P
all_first P (x ∷ xs) ys h = All-cons P x xs (All-head P x (xs ++ ys) h) (all_first P xs ys (All-tail P x (xs ++ ys) h))

all_second : {A : Type 0} (P : A → Type 0) (xs ys : List A) → All P (xs ++ ys) → All P ys
all_second P [] ys h = h
all_second P (x ∷ xs) ys h = all_second P xs ys (All-tail P x (xs ++ ys) h)

pub flat_all : {X A : Type 0} (P : A → Type 0) (f : X → List A) (xs : List X) → All P (flat_map f xs) → All (λ x. All P (f x)) xs
flat_all P f [] h = All-nil (λ x. All P (f x))
flat_all P f (x ∷ xs) h = All-cons (λ x. All P (f x)) x xs (all_first P (f x) (flat_map f xs) h) (flat_all P f xs (all_second P (f x) (flat_map f xs) h))

pub map_all : {X A : Type 0} (P : A → Type 0) (f : X → A) (xs : List X) → All P (map f xs) → All (λ x. P (f x)) xs
map_all P f [] h = All-nil (λ x. P (f x))
map_all P f (x ∷ xs) h = All-cons (λ x. P (f x)) x xs (All-head P (f x) (map f xs) h) (map_all P f xs (All-tail P (f x) (map f xs) h))

pub filter_all : {X : Type 0} (p : X → Bool) (P : X → Type 0) (xs : List X) → All P (filter p xs) → All (λ x. p x ≡ true → P x) xs
filter_all p P [] h = All-nil (λ x. p x ≡ true → P x)
filter_all p P (x ∷ xs) h = go (p x) refl h (filter_all p P xs)
  where
    go : (b : Bool) → p x ≡ b → All P (cond b (x ∷ filter p xs) (filter p xs)) → (All P (filter p xs) → All (λ x. p x ≡ true → P x) xs) → All (λ x. p x ≡ true → P x) (x ∷ xs)
    go true e a r = All-cons (λ x. p x ≡ true → P x) x xs (λ t. All-head P x (filter p xs) a) (r (All-tail P x (filter p xs) a))
    go false e a r = All-cons (λ x. p x ≡ true → P x) x xs (λ t. let z : true ≡ false = sym t ∙ e in absurd cc) (r a)

pub rising_all : (n : ℕ) (x : Set) (P : ℕ → Type 0) → All P (rising_list n x) → (v : ℕ) → Within n v → x v ≡ true → P v
rising_all zero x P h v w t = absurd (omega arith)
rising_all (suc n) x P h v w t = elim (cases_lt v (suc n)) [
  | inl l ↦ rising_all n x P (all_first P (rising_list n x) (cond (x (suc n)) (suc n ∷ []) []) h) v (omega arith) t
  | inr g ↦ let e : suc n ≡ v = omega arith in last (x (suc n)) (ap x e ∙ t) e (all_second P (rising_list n x) (cond (x (suc n)) (suc n ∷ []) []) h)
]
  where
    last : (b : Bool) → b ≡ true → suc n ≡ v → All P (cond b (suc n ∷ []) []) → P v
    last true s e a = subst P e (All-head P (suc n) [] a)
    last false s e a = absurd cc

-- the pairs in order
pub pairs_rise : (n : ℕ) → All (λ k. Within n k.0 × Within n k.1 × (k.0 < k.1)) (rising_pairs n)
pairs_rise n = all_flat (λ k. Within n k.0 × Within n k.1 × (k.0 < k.1)) (λ a. map (pair_with a) (rising_list n (nat_lt a))) (rising_list n everything)
    (all_rising n everything (λ a. All (λ k. Within n k.0 × Within n k.1 × (k.0 < k.1)) (map (pair_with a) (rising_list n (nat_lt a)))) (λ a wa t.
    All-map (λ k. Within n k.0 × Within n k.1 × (k.0 < k.1)) (pair_with a) (rising_list n (nat_lt a))
    (all_rising n (nat_lt a) (λ b. Within n a × Within n b × (a < b)) (λ b wb l. (wa, wb, ltb-true a b l)))))
