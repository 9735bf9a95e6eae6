-- Sets as increasing lists of numbers, and lists of pairs in lexicographic order.
-- Stated by: counting, vset_core, graph_core, grow_gen, match_search, match_core and 24 more.
-- Used by: decomposer, report_text, bench_outcomes, bench_reports.
use Rattle.std.specs.Prelude.{◌≡◌, ◌⊎◌, ℕ, zero, suc, ◌+◌, ◌-◌, ◌<◌, Bool, true, false, List, [], ◌∷◌, ◌++◌, ◌==◌, ◌&&◌, ◌||◌, cond, map, flat_map, slice_index_or, nat_lt, All}
use Rattle.std.specs.List.Sorted.{IsStrictlyIncreasing}
use Rattle.counting.specs.Counts.{Within, bit}
use Rattle.counting.specs.Sets.{Set, minus, everything}

-- v is in the list
abbrev pub mem : List ℕ → Set
mem [] v = false
mem (x ∷ xs) v = (x == v) || mem xs v

-- x is in the list, whatever its items are
abbrev pub IsIn : {A : Type 0} → A → List A → Type 0
IsIn x [] = ⊥
IsIn x (y ∷ ys) = (x ≡ y) ⊎ IsIn x ys

-- how often v occurs in the list
abbrev pub times : List ℕ → ℕ → ℕ
times [] v = 0
times (x ∷ xs) v = bit (x == v) + times xs v

-- all numbers of the list are in x
abbrev pub all_in : List ℕ → Set → Bool
all_in [] x = true
all_in (v ∷ vs) x = x v && all_in vs x

-- all numbers of x are in y
abbrev pub is_subset : List ℕ → List ℕ → Bool
is_subset x y = all_in x (mem y)

-- no number of x is in y
abbrev pub is_apart : List ℕ → List ℕ → Bool
is_apart x y = all_in x (minus everything (mem y))

-- a set of numbers 1 to n as a list: it is increasing
pub record IsRisingIn (n : ℕ) (xs : List ℕ) : Type 0 where
  pub rising : IsStrictlyIncreasing xs
  pub within : All (Within n) xs

-- x ∩ {1, .., n}, in increasing order
abbrev pub rising_list : ℕ → Set → List ℕ
rising_list zero x = []
rising_list (suc n) x = rising_list n x ++ cond (x (suc n)) (suc n ∷ []) []

-- {v in {1, .., n} : P v}, as an increasing list
pub record Lists (n : ℕ) (xs : List ℕ) (P : ℕ → Type 0) : Type 0 where
  pub rising : IsRisingIn n xs
  pub sound : (v : ℕ) → mem xs v ≡ true → P v
  pub complete : (v : ℕ) → Within n v → P v → mem xs v ≡ true

-- the last item of a list, which is the largest of an increasing one; 0 if the list is empty
abbrev pub last_of : List ℕ → ℕ
last_of [] = 0
last_of (x ∷ []) = x
last_of (x ∷ y ∷ xs) = last_of (y ∷ xs)

-- v is the least number of the list
pub record IsLeastOf (xs : List ℕ) (v : ℕ) : Type 0 where
  pub member : mem xs v ≡ true
  pub before : (w : ℕ) → w < v → mem xs w ≡ false

-- v is the largest number of the list
pub record IsGreatestOf (xs : List ℕ) (v : ℕ) : Type 0 where
  pub member : mem xs v ≡ true
  pub after : (w : ℕ) → v < w → mem xs w ≡ false

-- v is the least number of the list above a
pub record IsNextAfter (xs : List ℕ) (a v : ℕ) : Type 0 where
  pub member : mem xs v ≡ true
  pub above : a < v
  pub between : (w : ℕ) → a < w → w < v → mem xs w ≡ false

-- item i of a list of lists, counted from 1
abbrev pub item : {A : Type 0} → List (List A) → ℕ → List A
item xs i = slice_index_or xs (i - 1) []

-- the row of v in a table that also has a row for 0
abbrev pub row_of : {A : Type 0} → List (List A) → ℕ → List A
row_of table v = slice_index_or table v []

-- the pair of a and b
abbrev pub pair_with : ℕ → ℕ → ℕ × ℕ
pair_with a b = (a, b)

-- the pairs a < b of 1 to n, in lexicographic order
abbrev pub rising_pairs : ℕ → List (ℕ × ℕ)
rising_pairs n = flat_map (λ a. map (pair_with a) (rising_list n (nat_lt a))) (rising_list n everything)

-- all pairs of 1 to n, in lexicographic order
abbrev pub ordered_pairs : ℕ → List (ℕ × ℕ)
ordered_pairs n = flat_map (λ a. map (pair_with a) (rising_list n everything)) (rising_list n everything)

-- k is before l in lexicographic order
abbrev pub ComesBefore : ℕ × ℕ → ℕ × ℕ → Type 0
ComesBefore k l = (k.0 < l.0) ⊎ ((k.0 ≡ l.0) × (k.1 < l.1))
