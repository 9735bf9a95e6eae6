-- The pairs of vertices by columns are the pairs i < j of 1 to n, each once, and there are n (n -
-- 1) / 2 of them. Idea: induction on the number of columns, and within a column on the number of
-- its pairs.
use Rattle.graph_core.proofs.from_counting.Common.{◌≡◌, ℕ, suc, zero, ◌+◌, ◌-◌, ◌*◌, ◌<◌, ◌≤◌, ◌||◌, Bool, true, false, List, [], ◌∷◌, ◌++◌, length, map, get_or, drop, refl, sym, ap, ◌∙◌, arith, inl, inr, append_assoc, drop_more, get_or_at, append-nil, cases_eq, get_or_append_left, or_left, or_right, nat_tests, length-append, length-map, get_or-map, list_any-append, list_any, Within}
use Rattle.graph_core.proofs.Common.{pair_of}
use Rattle.graph_core.specs.declared.ends.Ends.{Ends}
use Rattle.graph6_text.specs.Common.{column, column_pairs, pair_count}
use Rattle.graph6_text.proofs.DistinctPairs.{Each, AreDistinct, each-append, each_weaker, each_at, distinct-append}

pub column_pairs-zero : column_pairs 0 ≡ []
unfolding column_pairs
column_pairs-zero = refl

pub column_pairs-suc : (n : ℕ) → column_pairs (suc n) ≡ column_pairs n ++ column n (suc n)
unfolding column_pairs
column_pairs-suc n = refl

pub length-column : (i j : ℕ) → length (column i j) ≡ i
length-column zero j = refl
length-column (suc i) j = grind (arith, length-column i j, length-append (column i j) ((suc i, j) ∷ []))

twice_length : (n : ℕ) → 2 * length (column_pairs n) ≡ n * (n - 1)
twice_length zero = ap (λ (xs : List (ℕ × ℕ)). 2 * length xs) column_pairs-zero
twice_length (suc n) =
    let h = twice_length n in
    let e : length (column_pairs (suc n)) ≡ length (column_pairs n) + length (column n (suc n)) =
    ap length (column_pairs-suc n) ∙ length-append (column_pairs n) (column n (suc n)) in
    let c = length-column n (suc n) in
    let s : suc n - 1 ≡ n = omega arith in
    let q : n * (n - 1) + 2 * n ≡ suc n * n = more n in
    rw s (omega arith)
  where
    more : (n : ℕ) → n * (n - 1) + 2 * n ≡ suc n * n
    more zero = refl
    more (suc m) = let s : suc m - 1 ≡ m = omega arith in rw s (omega arith)

-- as many pairs as the field's formula says
pub length-column_pairs : (n : ℕ) → length (column_pairs n) ≡ pair_count n
length-column_pairs n = grind (arith, twice_length n)

-- the loop over columns: one column more
pub columns_more : (b : ℕ) (front more : List (ℕ × ℕ)) → 1 ≤ b → front ≡ column_pairs (b - 1) → more ≡ front ++ column (b - 1) b → more ≡ column_pairs b
columns_more zero front more h inv e = absurd (omega arith)
columns_more (suc b) front more h inv e = grind (arith, column_pairs-suc b)

-- the loop over a column: one more pair
pub column_more : (a b : ℕ) (old front more : List (ℕ × ℕ)) → 1 ≤ a → front ≡ old ++ column (a - 1) b → more ≡ front ++ (a, b) ∷ [] → more ≡ old ++ column a b
column_more a b old front more h inv e = grind (arith, append_assoc)

-- where the loop over columns has come to its end
pub columns_all : (b n : ℕ) (front : List (ℕ × ℕ)) → n < b → b ≤ n + 1 → front ≡ column_pairs (b - 1) → front ≡ column_pairs n
columns_all b n front h k inv = let e : b - 1 ≡ n = omega arith in inv ∙ ap column_pairs e

pub columns_end : (b n : ℕ) (front more : List (ℕ × ℕ)) → 1 ≤ b → b ≡ n → front ≡ column_pairs (b - 1) → more ≡ front ++ column (b - 1) b → more ≡ column_pairs n
columns_end b n front more h k inv e = columns_more b front more h inv e ∙ ap column_pairs k

-- the pairs of a column from place i on
column_at : (i m j : ℕ) → i < m → get_or (column m j) i (0, 0) ≡ (i + 1, j)
column_at i zero j h = absurd (omega arith)
column_at i (suc m) j h = elim (cases_eq i m) [
  | inl e ↦ get_or_at (column m j) (suc m, j) [] (0, 0) i (length-column m j ∙ sym e) ∙ ap (λ (k : ℕ). (k, j)) {x = suc m} {y = i + 1} (omega arith)
  | inr d ↦ get_or_append_left (column m j) ((suc m, j) ∷ []) (0, 0) i (let l = length-column m j in omega arith) ∙ column_at i m j (omega arith)
]

pub column_drop : (i m j : ℕ) → i < m → drop i (column m j) ≡ (i + 1, j) ∷ drop (i + 1) (column m j)
column_drop i m j h =
    let l = length-column m j in
    drop_more (column m j) i (0, 0) (omega arith) ∙ ap (λ (pair : ℕ × ℕ). pair ∷ drop (i + 1) (column m j)) (column_at i m j h)

-- the pairs of the first columns come first
pub columns_front : (b n : ℕ) → b ≤ n → (more : List (ℕ × ℕ)) × (column_pairs n ≡ column_pairs b ++ more)
columns_front b zero h = ([], (let e : b ≡ 0 = omega arith in rw e (sym (append-nil (column_pairs 0)))))
columns_front b (suc n) h = elim (cases_eq b (suc n)) [
  | inl e ↦ ([], rw e (sym (append-nil (column_pairs (suc n)))))
  | inr d ↦ let p = columns_front b n (omega arith) in (p.0 ++ column n (suc n), column_pairs-suc n ∙ ap (λ (pairs : List (ℕ × ℕ)). pairs ++ column n (suc n)) p.1 ∙ append_assoc (column_pairs b) p.0 (column n (suc n)))
]

-- one column more
pub column_pairs-next : (i : ℕ) → column_pairs (i + 1) ≡ column_pairs i ++ column i (i + 1)
column_pairs-next i =
    let next : i + 1 ≡ suc i = omega arith in
    ap column_pairs next ∙ column_pairs-suc i ∙ ap (λ (k : ℕ). column_pairs i ++ column i k) (sym next)

pub length-next : (i : ℕ) → length (column_pairs (i + 1)) ≡ length (column_pairs i) + i
length-next i = ap length (column_pairs-next i) ∙ length-append (column_pairs i) (column i (i + 1)) ∙ ap (λ (k : ℕ). length (column_pairs i) + k) (length-column i (i + 1))

-- each pair of the columns has 1 ≤ i < j ≤ n, and no two are the same
each_column : (i j : ℕ) → Each (λ q. (1 ≤ q.0) × (q.0 ≤ i) × (q.1 ≡ j)) (column i j)
each_column zero j = tt
each_column (suc i) j = grind (arith, each-append, each_weaker, each_column i j)

distinct_column : (i j : ℕ) → i < j → AreDistinct (column i j)
distinct_column zero j l = tt
distinct_column (suc i) j l = grind (arith, distinct-append (column i j) ((suc i, j) ∷ []), distinct_column i j (omega arith), each_weaker, each_column i j)

pub each_column_pair : (n : ℕ) → Each (λ q. (1 ≤ q.0) × (q.0 < q.1) × (q.1 ≤ n)) (column_pairs n)
each_column_pair zero = rw column_pairs-zero tt
each_column_pair (suc n) = grind (arith, column_pairs-suc n, each-append, each_weaker, each_column_pair n, each_column n (suc n))

pub distinct_column_pairs : (n : ℕ) → AreDistinct (column_pairs n)
distinct_column_pairs zero = rw column_pairs-zero tt
distinct_column_pairs (suc n) = rw (column_pairs-suc n) (distinct-append (column_pairs n) (column n (suc n)) (distinct_column_pairs n) (distinct_column n (suc n) (omega arith))
    (each_weaker _ _ (column_pairs n) (λ p h. each_weaker _ _ (column n (suc n)) (λ q k. grind (arith, nat_tests)) (each_column n (suc n))) (each_column_pair n)))

-- each such pair is there
any_column : (test : ℕ × ℕ → Bool) (i j a : ℕ) → Within i a → test (a, j) ≡ true → list_any test (column i j) ≡ true
any_column test zero j a w h = absurd (omega arith)
any_column test (suc i) j a w h = list_any-append test (column i j) ((suc i, j) ∷ []) ∙ (elim (cases_eq a (suc i)) [
  | inl e ↦ or_right (list_any test (column i j)) (test (suc i, j) || false) (or_left (test (suc i, j)) false (ap (λ (k : ℕ). test (k, j)) (sym e) ∙ h))
  | inr d ↦ or_left (list_any test (column i j)) (test (suc i, j) || false) (any_column test i j a (omega arith) h)
])

pub any_column_pair : (test : ℕ × ℕ → Bool) (n a b : ℕ) → 1 ≤ a → a < b → b ≤ n → test (a, b) ≡ true → list_any test (column_pairs n) ≡ true
any_column_pair test zero a b w l k h = absurd (omega arith)
any_column_pair test (suc n) a b w l k h = ap (list_any test) (column_pairs-suc n) ∙ list_any-append test (column_pairs n) (column n (suc n)) ∙ (elim (cases_eq b (suc n)) [
  | inl e ↦ or_right (list_any test (column_pairs n)) (list_any test (column n (suc n))) (any_column test n (suc n) a (omega arith) (ap (λ (k : ℕ). test (a, k)) (sym e) ∙ h))
  | inr d ↦ or_left (list_any test (column_pairs n)) (list_any test (column n (suc n))) (any_column_pair test n a b w l (omega arith) h)
])

-- the loop over the pairs of a graph's vertices: both numbers of the next pair are vertices
pub pair_within : (n : ℕ) (pairs : List Ends) (i : ℕ) (d : Ends) → map pair_of pairs ≡ column_pairs n → i < length pairs → Within n (get_or pairs i d).a × Within n (get_or pairs i d).b
pair_within n pairs i d columns h = grind (arith, length-map pairs pair_of, get_or-map pair_of pairs i d (0, 0) h, each_at, each_column_pair n)
