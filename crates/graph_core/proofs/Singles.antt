-- The single vertices are a partition: block i is that of i alone, and the place of a vertex is
-- its number. By induction on the number of vertices.
use Rattle.std.proofs.Common.{◌≡◌, ℕ, suc, zero, ◌+◌, ◌-◌, ◌≤◌, ◌<◌, Bool, true, false, cond, ◌==◌, ◌||◌, List, [], ◌∷◌, ◌++◌, length, refl, sym, ap, ◌∙◌, arith, inl, inr, eq-eqb, eqb-true, get_or, zero-add, nat_le, length-append, le-leb, subst, get_or-append-add}
use Rattle.vset_core.proofs.from_counting.Common.{get_or_default, IsStrictlyIncreasing, lt-leb, cases_lt, nat_tests, get_or_append_left, map-append, count_congr, rising_list-rises, set-one, count_singleton, Within, count, last_of, mem, rising_list, everything, singleton}
use Rattle.graph_core.specs.Common.{IsPartition, block, names_of, place, singles}

-- single vertices have their own numbers as places
place_early : (p q : List (List ℕ)) (v : ℕ) → place p v ≤ length p → place (p ++ q) v ≡ place p v
place_early [] q v h = absurd (omega arith)
place_early (b ∷ p) q v h = go (place_early p q v) (mem b v) h
  where
    go : (place p v ≤ length p → place (p ++ q) v ≡ place p v) → (x : Bool) → cond x 1 (place p v + 1) ≤ suc (length p) → cond x 1 (place (p ++ q) v + 1) ≡ cond x 1 (place p v + 1)
    go ih x h = grind arith

place_late : (p q : List (List ℕ)) (v : ℕ) → place p v ≡ length p + 1 → place (p ++ q) v ≡ length p + place q v
place_late [] q v h = sym (zero-add (place q v))
place_late (b ∷ p) q v h = go (place_late p q v) (mem b v) h
  where
    go : (place p v ≡ length p + 1 → place (p ++ q) v ≡ length p + place q v) → (x : Bool) → cond x 1 (place p v + 1) ≡ suc (length p) + 1 → cond x 1 (place (p ++ q) v + 1) ≡ suc (length p) + place q v
    go ih x h = grind arith

pub length-singles : (n : ℕ) → length (singles n) ≡ n
length-singles zero = refl
length-singles (suc n) = let a = length-append (singles n) ((suc n ∷ []) ∷ []) in let b = length-singles n in omega arith

pub place_singles : (n v : ℕ) → 1 ≤ v → place (singles n) v ≡ cond (nat_le v n) v (n + 1)
place_singles zero v h = rw (lt-leb v 0 h) refl
place_singles (suc n) v h = grind (arith, cases_lt, le-leb, length-singles, place_early, lt-leb, place_late, eqb-true, nat_tests, place_singles n v h)

-- block i is that of i alone
pub block-singles : (n i : ℕ) → Within n i → block (singles n) i ≡ i ∷ []
block-singles zero i w = absurd (omega arith)
block-singles (suc n) i w = elim (cases_lt n i) [
  | inr le ↦ get_or_append_left (singles n) ((suc n ∷ []) ∷ []) [] (i - 1) (let l = length-singles n in omega arith) ∙ block-singles n i (omega arith)
  | inl lt ↦
      let e : suc n ≡ i = omega arith in
      let l : i - 1 ≡ length (singles n) + 0 = let a = length-singles n in omega arith in
      ap (λ j. get_or (singles n ++ ((suc n ∷ []) ∷ [])) j []) l ∙ get_or-append-add (singles n) ((suc n ∷ []) ∷ []) 0 [] ∙ ap (λ v. v ∷ []) e
]

names-singles : (n : ℕ) → names_of (singles n) ≡ rising_list n everything
names-singles zero = refl
names-singles (suc n) = map-append last_of (singles n) ((suc n ∷ []) ∷ []) ∙ ap (λ names. names ++ suc n ∷ []) (names-singles n)

own : (v : ℕ) → mem (v ∷ []) v ≡ true
own v = ap (λ b. b || false) (eq-eqb v v refl)

-- the single vertices are a partition
pub singles-partition : (n : ℕ) → IsPartition n (singles n)
singles-partition n = record {
  partition = record {
    once = λ v w. ap (λ k. count k (λ i. mem (block (singles n) i) v)) (length-singles n) ∙ count_congr n _ (singleton v) (λ i wi. ap (λ b. mem b v) (block-singles n i wi) ∙ (grind (arith, nat_tests))) ∙ count_singleton n v w;
    within = λ i v w h. let wi = inside i w in subst (Within n) (same i v (ap (λ b. mem b v) (sym (block-singles n i wi)) ∙ h)) wi;
    full = λ i w. let wi = inside i w in (i, wi, ap (λ b. mem b i) (block-singles n i wi) ∙ own i);
  };
  blocks = λ k d l. rising k d l;
  order = subst IsStrictlyIncreasing (sym (names-singles n)) (rising_list-rises n everything).rising;
}
  where
    inside : (i : ℕ) → Within (length (singles n)) i → Within n i
    inside i w = let l = length-singles n in omega arith

    same : (i v : ℕ) → (i == v || false) ≡ true → i ≡ v
    same i v h = grind (arith, nat_tests, h)

    rising : (k : ℕ) (d : List ℕ) → k < length (singles n) → IsStrictlyIncreasing (get_or (singles n) k d)
    rising k d l =
        let e : k + 1 - 1 ≡ k = omega arith in
        let b : get_or (singles n) k d ≡ (k + 1) ∷ [] = get_or_default (singles n) k d [] l ∙ ap (λ j. get_or (singles n) j []) (sym e) ∙ block-singles n (k + 1) (inside (k + 1) (omega arith)) in
        subst IsStrictlyIncreasing (sym b) (set-one n (k + 1) (inside (k + 1) (omega arith))).rising
