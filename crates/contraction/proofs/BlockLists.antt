-- Lists of blocks as the code goes through them: the place of a block found by a scan, a block
-- put in by its name, and how many blocks pass a test. Each is a recursion along the list, as the
-- definition is.
use Rattle.graph_core.proofs.from_counting.Common.{◌≡◌, ℕ, ◌+◌, ◌-◌, ◌≤◌, ◌<◌, Bool, not, cond, nat_lt, List, [], ◌∷◌, length, refl, sym, ap, ◌∙◌, arith, zero, suc, get_or, insert, count_by, Option, Some, position, MatchOption, IfSome, IfNone, unwrap_or, if◌then◌else◌, subst, position_or_len, get_or-map, length-map, nat_tests, sum_by-cons, last-greatest, length-within, total_congr, Within, bit, count, total, IsGreatestOf, IsRisingIn, last_of, mem}
use Rattle.itertools.specs.Consumer.{find_at}
use Rattle.graph_core.proofs.Common.{mem_last, IsPartition, block, insert_block, names_of, place}

-- the greatest number of a set, or 0, is its last
pub name-option : (n : ℕ) (b : List ℕ) (r : Option ℕ) → IsRisingIn n b → IfSome r (IsGreatestOf b) → IfNone r (b ≡ []) → unwrap_or r 0 ≡ last_of b
name-option n b r rises some none = grind (arith, last-greatest n)

-- the index of the block that a scan finds is the place of v less one
pub place-find : (p : List (List ℕ)) (v i : ℕ) → MatchOption (find_at (λ b. mem b v) i p) (place p v ≡ length p + 1) (λ found. (found.0 + 1 ≡ place p v + i) × (found.0 < length p + i))
place-find [] v i = refl
place-find (b ∷ p) v i = go (mem b v) (place-find p v (i + 1))
  where
    go : (t : Bool) → MatchOption (find_at (λ b. mem b v) (i + 1) p) (place p v ≡ length p + 1) (λ found. (found.0 + 1 ≡ place p v + (i + 1)) × (found.0 < length p + (i + 1))) →
        MatchOption (if t then Some (i, b) else find_at (λ b. mem b v) (i + 1) p) (cond t 1 (place p v + 1) ≡ suc (length p) + 1) (λ found. (found.0 + 1 ≡ cond t 1 (place p v + 1) + i) × (found.0 < suc (length p) + i))
    go t ih = grind arith

-- a block goes in before the first with a greater name
pub insert-position : (b : List ℕ) (p : List (List ℕ)) → insert p (position_or_len (λ c. nat_lt (last_of b) (last_of c)) p) b ≡ insert_block b p
insert-position b [] = refl
insert-position b (c ∷ p) = go (nat_lt (last_of b) (last_of c)) (insert-position b p)
  where
    go : (t : Bool) → insert p (position_or_len (λ c. nat_lt (last_of b) (last_of c)) p) b ≡ insert_block b p →
        insert (c ∷ p) (cond (not t) (1 + position_or_len (λ c. nat_lt (last_of b) (last_of c)) p) 0) b ≡ cond t (b ∷ c ∷ p) (c ∷ insert_block b p)
    go t ih = grind arith

-- as many blocks pass by place as along the list
pub count-along : (t : List ℕ → Bool) (p : List (List ℕ)) → count (length p) (λ i. t (block p i)) ≡ count_by t p
count-along t [] = refl
count-along t (b ∷ p) =
    front (length p) (λ i. bit (t (block (b ∷ p) i)))
    ∙ ap (λ k. bit (t b) + k) (total_congr (length p) _ _ (λ i w. ap (λ c. bit (t c)) (grind arith)) ∙ count-along t p)
    ∙ counted_first (t b)
    ∙ sym (sum_by-cons (λ c. cond (t c) 1 0) b p)
  where
    front : (n : ℕ) (f : ℕ → ℕ) → total (suc n) f ≡ f 1 + total n (λ i. f (i + 1))
    front zero f = omega arith
    front (suc n) f = let a = front n f in let b : f (suc (suc n)) ≡ f (suc n + 1) = ap f (omega arith) in omega arith

    counted_first : (s : Bool) → bit s + count_by t p ≡ cond s 1 0 + count_by t p
    counted_first s = grind arith

-- a partition of 1 to n has at most n blocks
pub length-partition : (n : ℕ) (p : List (List ℕ)) → IsPartition n p → length p ≤ n
length-partition n p is = let l = length-within n (names_of p) (grind (arith, length-map p last_of, get_or-map last_of p, name_in)) in let e = length-map p last_of in omega arith
  where
    name_in : (k : ℕ) → k < length p → Within n (last_of (get_or p k []))
    name_in k l =
        let e : k + 1 - 1 ≡ k = omega arith in
        let f = is.partition.full (k + 1) (omega arith) in
        subst (λ j. Within n (last_of (get_or p j []))) e (is.partition.within (k + 1) (last_of (block p (k + 1))) (omega arith) (mem_last (block p (k + 1)) f.0 f.2))

pub position_or_len-le : {X : Type 0} (t : X → Bool) (xs : List X) → position_or_len t xs ≤ length xs
position_or_len-le t [] = omega arith
position_or_len-le t (x ∷ xs) = step (t x) (position_or_len-le t xs)
  where
    step : (b : Bool) → position_or_len t xs ≤ length xs → cond (not b) (1 + position_or_len t xs) 0 ≤ suc (length xs)
    step b ih = grind arith

-- the first place that passes, or the length
pub position-length : {X : Type 0} (t : X → Bool) (xs : List X) (r : Option ℕ) (n : ℕ) → r ≡ position t xs → n ≡ length xs → unwrap_or r n ≡ position_or_len t xs
position-length t xs r n e f = grind (arith, unwrap_or, nat_lt, nat_tests, position_or_len-le)

-- a place is at most one past the end
pub place-le : (p : List (List ℕ)) (v : ℕ) → place p v ≤ length p + 1
place-le [] v = omega arith
place-le (b ∷ p) v = step (mem b v) (place-le p v)
  where
    step : (t : Bool) → place p v ≤ length p + 1 → cond t 1 (place p v + 1) ≤ suc (length p) + 1
    step t ih = grind arith
