-- The list of pairs in lexicographic order holds each pair a < b once, and a filter keeps those
-- that pass. By induction on the first number, row by row.
use Rattle.std.proofs.Common.{◌≡◌, ℕ, suc, zero, ◌<◌, Bool, true, false, cond, ◌==◌, List, [], ◌∷◌, ◌++◌, length, map, refl, sym, ap, ap₂, ◌∙◌, arith, ◌⊎◌, inl, inr, subst, eq-eqb, eqb-true, get_or, filter, nat_lt, flat_map}
use Rattle.std.proofs.lemmas.Bool.{both_ways, or_cases, or_right, or_left}
use Rattle.counting.proofs.Lists.{rising_holds, rising_only}
use Rattle.counting.specs.Common.{Within, mem, pair_with, rising_list}

-- The edges of a quotient are the adjacent pairs of places. Idea: membership in a list of pairs,
-- step by step through its making.

-- the pair_set i, j is in the list
abbrev pub HasPair : List (ℕ × ℕ) → ℕ → ℕ → Type 0
HasPair [] i j = ⊥
HasPair (k ∷ ks) i j = ((k.0 ≡ i) × (k.1 ≡ j)) ⊎ HasPair ks i j

pair_map : (a : ℕ) (xs : List ℕ) (j : ℕ) → mem xs j ≡ true → HasPair (map (pair_with a) xs) a j
pair_map a [] j h = absurd (both_ways false refl h)
pair_map a (x ∷ xs) j h = elim (or_cases (x == j) (mem xs j) h) [ inl s ↦ inl (refl, eqb-true x j s) | inr s ↦ inr (pair_map a xs j s) ]

pub map_pair : (a : ℕ) (xs : List ℕ) (i j : ℕ) → HasPair (map (pair_with a) xs) i j → (a ≡ i) × (mem xs j ≡ true)
map_pair a [] i j h = absurd h
map_pair a (x ∷ xs) i j (inl h) = (h.0, or_left (x == j) (mem xs j) (eq-eqb x j h.1))
map_pair a (x ∷ xs) i j (inr h) = let r = map_pair a xs i j h in (r.0, or_right (x == j) (mem xs j) r.1)

pair_front : (ks ls : List (ℕ × ℕ)) (i j : ℕ) → HasPair ks i j → HasPair (ks ++ ls) i j
pair_front [] ls i j h = absurd h
pair_front (k ∷ ks) ls i j (inl h) = inl h
pair_front (k ∷ ks) ls i j (inr h) = inr (pair_front ks ls i j h)

pair_back : (ks ls : List (ℕ × ℕ)) (i j : ℕ) → HasPair ls i j → HasPair (ks ++ ls) i j
pair_back [] ls i j h = h
pair_back (k ∷ ks) ls i j h = inr (pair_back ks ls i j h)

pub append_pair : (ks ls : List (ℕ × ℕ)) (i j : ℕ) → HasPair (ks ++ ls) i j → HasPair ks i j ⊎ HasPair ls i j
append_pair [] ls i j h = inr h
append_pair (k ∷ ks) ls i j (inl h) = inl (inl h)
append_pair (k ∷ ks) ls i j (inr h) = elim (append_pair ks ls i j h) [ inl a ↦ inl (inr a) | inr b ↦ inr b ]

-- the row of pairs that begin with a
abbrev row : ℕ → ℕ → List (ℕ × ℕ)
row n a = map (pair_with a) (rising_list n (nat_lt a))

pub rows_hold : (n i j : ℕ) (xs : List ℕ) → mem xs i ≡ true → Within n j → nat_lt i j ≡ true → HasPair (flat_map (row n) xs) i j
rows_hold n i j [] h w l = absurd (both_ways false refl h)
rows_hold n i j (x ∷ xs) h w l = elim (or_cases (x == i) (mem xs i) h) [
  | inl s ↦ let e = eqb-true x i s in pair_front (row n x) (flat_map (row n) xs) i j (subst (λ a. HasPair (row n a) i j) (sym e) (pair_map i (rising_list n (nat_lt i)) j (rising_holds n (nat_lt i) j w l)))
  | inr s ↦ pair_back (row n x) (flat_map (row n) xs) i j (rows_hold n i j xs s w l)
]

pub rows_only : (n i j : ℕ) (xs : List ℕ) → HasPair (flat_map (row n) xs) i j → (mem xs i ≡ true) × Within n j × (nat_lt i j ≡ true)
rows_only n i j [] h = absurd h
rows_only n i j (x ∷ xs) h = elim (append_pair (row n x) (flat_map (row n) xs) i j h) [
  | inl a ↦ let r = map_pair x (rising_list n (nat_lt x)) i j a in let q = rising_only n (nat_lt x) j r.1 in (or_left (x == i) (mem xs i) (eq-eqb x i r.0), q.0, ap (λ k. nat_lt k j) (sym r.0) ∙ q.1)
  | inr b ↦ let r = rows_only n i j xs b in (or_right (x == i) (mem xs i) r.0, r.1, r.2)
]

pub filter_pair : (t : ℕ → ℕ → Bool) (ks : List (ℕ × ℕ)) (i j : ℕ) → HasPair ks i j → t i j ≡ true → HasPair (filter (λ k. t k.0 k.1) ks) i j
filter_pair t [] i j h y = h
filter_pair t (k ∷ ks) i j (inl h) y = go (t k.0 k.1) (ap₂ t h.0 h.1 ∙ y)
  where
    go : (s : Bool) → s ≡ true → HasPair (cond s (k ∷ filter (λ k. t k.0 k.1) ks) (filter (λ k. t k.0 k.1) ks)) i j
    go true e = inl h
    go false e = absurd (both_ways false refl e)
filter_pair t (k ∷ ks) i j (inr h) y = go (t k.0 k.1) (filter_pair t ks i j h y)
  where
    go : (s : Bool) → HasPair (filter (λ k. t k.0 k.1) ks) i j → HasPair (cond s (k ∷ filter (λ k. t k.0 k.1) ks) (filter (λ k. t k.0 k.1) ks)) i j
    go true ih = inr ih
    go false ih = ih

pub pair_filter : (t : ℕ → ℕ → Bool) (ks : List (ℕ × ℕ)) (i j : ℕ) → HasPair (filter (λ k. t k.0 k.1) ks) i j → HasPair ks i j × (t i j ≡ true)
pair_filter t [] i j h = absurd h
pair_filter t (k ∷ ks) i j h = go (pair_filter t ks i j) (t k.0 k.1) refl h
  where
    go : (HasPair (filter (λ k. t k.0 k.1) ks) i j → HasPair ks i j × (t i j ≡ true)) → (s : Bool) → t k.0 k.1 ≡ s → HasPair (cond s (k ∷ filter (λ k. t k.0 k.1) ks) (filter (λ k. t k.0 k.1) ks)) i j → HasPair (k ∷ ks) i j × (t i j ≡ true)
    go ih true e (inl h) = (inl h, ap₂ t (sym h.0) (sym h.1) ∙ e)
    go ih true e (inr h) = let r = ih h in (inr r.0, r.1)
    go ih false e h = let r = ih h in (inr r.0, r.1)

-- places in the list
pub pair_at : (ks : List (ℕ × ℕ)) (i j : ℕ) → HasPair ks i j → (e : ℕ) × (e < length ks) × ((get_or ks e (0, 0)).0 ≡ i) × ((get_or ks e (0, 0)).1 ≡ j)
pair_at [] i j h = absurd h
pair_at (k ∷ ks) i j (inl h) = (0, omega arith, h.0, h.1)
pair_at (k ∷ ks) i j (inr h) = let r = pair_at ks i j h in (suc r.0, omega (arith, r.1), r.2, r.3)

pub at_pair : (ks : List (ℕ × ℕ)) (e : ℕ) → e < length ks → HasPair ks (get_or ks e (0, 0)).0 (get_or ks e (0, 0)).1
at_pair [] e l = absurd (omega arith)
at_pair (k ∷ ks) zero l = inl (refl, refl)
at_pair (k ∷ ks) (suc e) l = inr (at_pair ks e (omega arith))
