-- Merging keeps the names of blocks in increasing order. Each name is below all later ones, and the
-- new name is none of the kept ones.
use Rattle.vset_core.proofs.from_counting.Common.{◌≡◌, ℕ, suc, zero, ◌+◌, ◌-◌, ◌≤◌, ◌<◌, Bool, true, false, not, cond, List, [], ◌∷◌, length, refl, sym, ap, ◌∙◌, arith, ◌⊎◌, inl, inr, subst, filter, nat_lt, All, slice_index, slice_index_or, IsStrictlyIncreasing, both_ways, cases_lt, nat_tests, Within, last_of, mem}
use Rattle.graph_core.proofs.Merging.{Has, block_of, filter_has, has_block, insert_has, mem_last, merged_partition}
use Rattle.graph_core.proofs.SameBlocks.{Ordered, rising_ordered}
use Rattle.graph_core.specs.Common.{IsPartition, insert_block, merged, names_of, IsUnion}

-- an ordered list has increasing names
ordered_rising : (p : List (List ℕ)) → Ordered p → IsStrictlyIncreasing (names_of p)
ordered_rising [] o k l = absurd (omega arith)
ordered_rising (b ∷ []) o k l = absurd (omega arith)
ordered_rising (b ∷ c ∷ p) o zero l = o.0 c (inl refl)
ordered_rising (b ∷ c ∷ p) o (suc k) l = let e : suc (k + 1) ≡ suc k + 1 = omega arith in subst (λ j. slice_index (names_of (c ∷ p)) k < slice_index (names_of (b ∷ c ∷ p)) j) e (ordered_rising (c ∷ p) o.1 k (omega arith))

ordered_filter : (t : List ℕ → Bool) (p : List (List ℕ)) → Ordered p → Ordered (filter t p)
ordered_filter t [] o = tt
ordered_filter t (b ∷ p) o = go (t b) (ordered_filter t p o.1)
  where
    go : (s : Bool) → Ordered (filter t p) → Ordered (cond s (b ∷ filter t p) (filter t p))
    go s ih = grind (arith, filter_has t)

-- a block with a new name goes in at its place
ordered_insert : (b : List ℕ) (p : List (List ℕ)) → Ordered p → ((c : List ℕ) → Has p c → last_of b ≡ last_of c → ⊥) → Ordered (insert_block b p)
ordered_insert b [] o d = (λ c k. absurd k, tt)
ordered_insert b (c ∷ p) o d = go (nat_lt (last_of b) (last_of c)) refl (ordered_insert b p o.1 (λ e k. d e (inr k)))
  where
    lower : nat_lt (last_of b) (last_of c) ≡ true → last_of b < last_of c
    lower h = grind (arith, nat_tests, h)

    upper : nat_lt (last_of b) (last_of c) ≡ false → last_of c ≤ last_of b
    upper h = grind (arith, nat_tests, h)

    go : (t : Bool) → nat_lt (last_of b) (last_of c) ≡ t → Ordered (insert_block b p) → Ordered (cond t (b ∷ c ∷ p) (c ∷ insert_block b p))
    go m t ih = grind (arith, lower, insert_has, upper, cases_lt)

-- the names of a merged list are increasing
pub merged_order : (p : List (List ℕ)) (x : List ℕ) (v : ℕ) → mem x v ≡ true → IsStrictlyIncreasing (names_of p) → IsStrictlyIncreasing (names_of (merged p x))
merged_order p x v m h = grind (arith, ordered_rising (merged p x), ordered_insert x, ordered_filter, rising_ordered p h, new_name, filter_test)
  where
    filter_test : (c : List ℕ) (p : List (List ℕ)) → Has (filter (λ b. not (mem x (last_of b))) p) c → mem x (last_of c) ≡ false
    filter_test c [] k = absurd k
    filter_test c (d ∷ p) k = go (filter_test c p) (mem x (last_of d)) refl k
      where
        go : (Has (filter (λ b. not (mem x (last_of b))) p) c → mem x (last_of c) ≡ false) → (s : Bool) → mem x (last_of d) ≡ s → Has (cond (not s) (d ∷ filter (λ b. not (mem x (last_of b))) p) (filter (λ b. not (mem x (last_of b))) p)) c → mem x (last_of c) ≡ false
        go ih s e k = grind arith

    new_name : (c : List ℕ) → mem x (last_of c) ≡ false → last_of x ≡ last_of c → ⊥
    new_name c n e = both_ways (mem x (last_of c)) n (ap (mem x) (sym e) ∙ mem_last x v m)

all_has : (P : List ℕ → Type 0) (p : List (List ℕ)) (c : List ℕ) → All P p → Has p c → P c
all_has P p c a h = let r = has_block p c h in let w = r.1 in subst P r.2 (a (r.0 - 1) [] (omega arith))

item_has : (p : List (List ℕ)) (k : ℕ) (d : List ℕ) → k < length p → Has p (slice_index_or p k d)
item_has [] k d l = absurd (omega arith)
item_has (b ∷ p) zero d l = inl refl
item_has (b ∷ p) (suc k) d l = inr (item_has p k d (omega arith))

-- a block list stays one when an increasing nonempty union of its blocks is merged
pub merged_blocks : (n : ℕ) (p : List (List ℕ)) (x : List ℕ) → IsPartition n p → IsUnion n p (mem x) → IsStrictlyIncreasing x → ((v : ℕ) × Within n v × (mem x v ≡ true)) → ((v : ℕ) → mem x v ≡ true → Within n v) → IsPartition n (merged p x)
merged_blocks n p x is union rising some low = record {
  partition = merged_partition n p x is.partition union some low;
  blocks = λ k d l. each (slice_index_or (merged p x) k d) (block_of n p x is.partition union some low (slice_index_or (merged p x) k d) (item_has (merged p x) k d l));
  order = merged_order p x some.0 some.2 is.order;
}
  where
    each : (c : List ℕ) → (x ≡ c) ⊎ Has p c → IsStrictlyIncreasing c
    each c k = grind (arith, all_has IsStrictlyIncreasing p c is.blocks)
