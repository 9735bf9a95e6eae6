-- The list that merging gives is the partition with the union made one block.
-- Each vertex is in exactly one of the kept blocks or in the new one.
use Rattle.vset_core.proofs.from_counting.Common.{◌≡◌, ℕ, suc, zero, ◌+◌, ◌*◌, ◌≤◌, Bool, true, false, not, cond, ◌||◌, ◌==◌, List, [], ◌∷◌, length, refl, sym, ap, ◌∙◌, arith, ◌⊎◌, inl, inr, eq-eqb, subst, filter, nat_lt, both_ways, or_left, total_congr, total-first, Within, bit, count, last_of, mem}
use Rattle.graph_core.proofs.Blocks.{place_in, place_is}
use Rattle.graph_core.specs.Common.{AreBlocks, IsMerge, block, insert_block, merged, place, IsUnion}

-- Merging a union of blocks gives a partition. Idea: count, for each vertex, the blocks that hold
-- it, along the list.

-- how many blocks of the list hold v
abbrev held : List (List ℕ) → ℕ → ℕ
held [] v = 0
held (b ∷ p) v = bit (mem b v) + held p v

-- b is a block of the list
abbrev pub Has : List (List ℕ) → List ℕ → Type 0
Has [] b = ⊥
Has (c ∷ p) b = (c ≡ b) ⊎ Has p b

block_past : (b : List ℕ) (p : List (List ℕ)) (i : ℕ) → 1 ≤ i → block (b ∷ p) (i + 1) ≡ block p i
block_past b p i h = grind arith

count_held : (p : List (List ℕ)) (v : ℕ) → count (length p) (λ i. mem (block p i) v) ≡ held p v
count_held [] v = refl
count_held (b ∷ p) v =
    total-first (length p) (λ i. bit (mem (block (b ∷ p) i) v))
    ∙ ap (λ k. bit (mem b v) + k) (total_congr (length p) _ _ (λ i w. ap (λ c. bit (mem c v)) (block_past b p i w.0)) ∙ count_held p v)

pub block_has : (p : List (List ℕ)) (i : ℕ) → Within (length p) i → Has p (block p i)
block_has [] i w = absurd (omega arith)
block_has (b ∷ p) zero w = absurd (omega arith)
block_has (b ∷ p) (suc zero) w = inl refl
block_has (b ∷ p) (suc (suc k)) w = let e : suc (suc k) ≡ suc k + 1 = omega arith in inr (subst (λ c. Has p c) (sym (block_past b p (suc k) (omega arith)) ∙ ap (block (b ∷ p)) (sym e)) (block_has p (suc k) (omega arith)))

pub has_block : (p : List (List ℕ)) (b : List ℕ) → Has p b → (i : ℕ) × Within (length p) i × (block p i ≡ b)
has_block [] b h = absurd h
has_block (c ∷ p) b (inl e) = (1, (omega arith, omega arith), e)
has_block (c ∷ p) b (inr h) = let r = has_block p b h in let w = r.1 in (r.0 + 1, (omega arith, omega arith), block_past c p r.0 r.1.0 ∙ r.2)

held_insert : (b : List ℕ) (p : List (List ℕ)) (v : ℕ) → held (insert_block b p) v ≡ bit (mem b v) + held p v
held_insert b [] v = refl
held_insert b (c ∷ p) v = go (held_insert b p v) (nat_lt (last_of b) (last_of c))
  where
    go : held (insert_block b p) v ≡ bit (mem b v) + held p v → (t : Bool) → held (cond t (b ∷ c ∷ p) (c ∷ insert_block b p)) v ≡ bit (mem b v) + (bit (mem c v) + held p v)
    go ih t = grind arith

pub insert_has : (b c : List ℕ) (p : List (List ℕ)) → Has (insert_block b p) c → (b ≡ c) ⊎ Has p c
insert_has b c [] (inl e) = inl e
insert_has b c [] (inr h) = absurd h
insert_has b c (d ∷ p) h = go (insert_has b c p) (nat_lt (last_of b) (last_of d)) h
  where
    go : (Has (insert_block b p) c → (b ≡ c) ⊎ Has p c) → (t : Bool) → Has (cond t (b ∷ d ∷ p) (d ∷ insert_block b p)) c → (b ≡ c) ⊎ Has (d ∷ p) c
    go ih t l = grind arith

insert_own : (b : List ℕ) (p : List (List ℕ)) → Has (insert_block b p) b
insert_own b [] = inl refl
insert_own b (d ∷ p) = go (insert_own b p) (nat_lt (last_of b) (last_of d))
  where
    go : Has (insert_block b p) b → (t : Bool) → Has (cond t (b ∷ d ∷ p) (d ∷ insert_block b p)) b
    go ih t = grind arith

pub filter_has : (t : List ℕ → Bool) (c : List ℕ) (p : List (List ℕ)) → Has (filter t p) c → Has p c
filter_has t c [] h = h
filter_has t c (d ∷ p) h = go (filter_has t c p) (t d) h
  where
    go : (Has (filter t p) c → Has p c) → (b : Bool) → Has (cond b (d ∷ filter t p) (filter t p)) c → Has (d ∷ p) c
    go ih b h = grind arith

-- each block that contains v goes with v
held_filter : (x : List ℕ) (p : List (List ℕ)) (v : ℕ) → ((b : List ℕ) → Has p b → mem b v ≡ true → mem x (last_of b) ≡ mem x v) →
    held (filter (λ b. not (mem x (last_of b))) p) v ≡ bit (not (mem x v)) * held p v
held_filter x [] v h = omega arith
held_filter x (b ∷ p) v h = go (held_filter x p v (λ c k m. h c (inr k) m)) (mem x (last_of b)) refl (mem b v) refl
  where
    go : held (filter (λ b. not (mem x (last_of b))) p) v ≡ bit (not (mem x v)) * held p v → (t : Bool) → mem x (last_of b) ≡ t → (s : Bool) → mem b v ≡ s →
        held (cond (not t) (b ∷ filter (λ b. not (mem x (last_of b))) p) (filter (λ b. not (mem x (last_of b))) p)) v ≡ bit (not (mem x v)) * (bit s + held p v)
    go ih t e s m = grind arith

pub mem_last : (b : List ℕ) (v : ℕ) → mem b v ≡ true → mem b (last_of b) ≡ true
mem_last [] v h = h
mem_last (w ∷ []) v h = ap (λ t. t || false) (eq-eqb w w refl)
mem_last (w ∷ y ∷ ys) v h = back (w == last_of (y ∷ ys)) (mem (y ∷ ys) (last_of (y ∷ ys))) (mem_last (y ∷ ys) y (or_left (y == y) (mem ys y) (eq-eqb y y refl)))
  where
    back : (a b : Bool) → b ≡ true → (a || b) ≡ true
    back a b h = grind arith

kept_has : (t : List ℕ → Bool) (c : List ℕ) (p : List (List ℕ)) → Has p c → t c ≡ true → Has (filter t p) c
kept_has t c [] h k = h
kept_has t c (d ∷ p) (inl e) k = rw (ap t e ∙ k) (inl e)
kept_has t c (d ∷ p) (inr h) k = go (kept_has t c p h k) (t d)
  where
    go : Has (filter t p) c → (b : Bool) → Has (cond b (d ∷ filter t p) (filter t p)) c
    go ih b = grind arith

insert_keeps : (b c : List ℕ) (p : List (List ℕ)) → Has p c → Has (insert_block b p) c
insert_keeps b c [] h = absurd h
insert_keeps b c (d ∷ p) h = go (insert_keeps b c p) (nat_lt (last_of b) (last_of d)) h
  where
    go : (Has p c → Has (insert_block b p) c) → (t : Bool) → Has (d ∷ p) c → Has (cond t (b ∷ d ∷ p) (d ∷ insert_block b p)) c
    go ih t h = grind arith

module _ (n : ℕ) (p : List (List ℕ)) (x : List ℕ) (is : AreBlocks n p) (union : IsUnion n p (mem x)) (some : (v : ℕ) × Within n v × (mem x v ≡ true)) (low : (v : ℕ) → mem x v ≡ true → Within n v) where
  -- a block of p goes into x or stays outside as a whole
  goes_with : (b : List ℕ) → Has p b → (v : ℕ) → mem b v ≡ true → mem x (last_of b) ≡ mem x v
  goes_with b h v m = grind (arith, has_block p b h, mem_last b v m, place_is n p is (last_of b), place_is n p is v)

  held_merged : (v : ℕ) → Within n v → held (merged p x) v ≡ 1
  held_merged v w = grind (arith, held_insert x, held_filter x p v, goes_with, count_held p v)

  -- a block of the merged list is x or a block of p
  pub block_of : (c : List ℕ) → Has (merged p x) c → (x ≡ c) ⊎ Has p c
  block_of c h = elim (insert_has x c (filter (λ b. not (mem x (last_of b))) p) h) [ inl e ↦ inl e | inr k ↦ inr (filter_has (λ b. not (mem x (last_of b))) c p k) ]

  block_within : (c : List ℕ) → (x ≡ c) ⊎ Has p c → (v : ℕ) → mem c v ≡ true → Within n v
  block_within c k v m = grind (arith, has_block p c)

  block_full : (c : List ℕ) → (x ≡ c) ⊎ Has p c → (v : ℕ) × Within n v × (mem c v ≡ true)
  block_full c (inl e) = (some.0, some.1, ap (λ b. mem b some.0) (sym e) ∙ some.2)
  block_full c (inr h) = let r = has_block p c h in let f = is.full r.0 r.1 in (f.0, f.1, ap (λ b. mem b f.0) (sym r.2) ∙ f.2)

  pub merged_partition : AreBlocks n (merged p x)
  merged_partition = grind (arith, count_held (merged p x), held_merged, block_within, block_of, block_has (merged p x), block_full)

  -- two vertices outside x are in one new block if and only if they were in one block
  apart_down : (u v : ℕ) → Within n u → Within n v → mem x u ≡ false → place (merged p x) u ≡ place (merged p x) v → place p u ≡ place p v
  apart_down u v wu wv nu e =
      let a = place_in n (merged p x) merged_partition u wu in
      let b = place_in n (merged p x) merged_partition v wv in
      let bv : mem (block (merged p x) (place (merged p x) u)) v ≡ true = ap (λ k. mem (block (merged p x) k) v) e ∙ b.1 in
      elim (block_of (block (merged p x) (place (merged p x) u)) (block_has (merged p x) (place (merged p x) u) a.0)) [
        | inl s ↦ absurd (both_ways (mem x u) nu (ap (λ c. mem c u) s ∙ a.1))
        | inr h ↦
            let r = has_block p (block (merged p x) (place (merged p x) u)) h in
            sym (place_is n p is u r.0 wu r.1 (ap (λ c. mem c u) r.2 ∙ a.1)) ∙ place_is n p is v r.0 wv r.1 (ap (λ c. mem c v) r.2 ∙ bv)
      ]

  apart_up : (u v : ℕ) → Within n u → Within n v → mem x u ≡ false → place p u ≡ place p v → place (merged p x) u ≡ place (merged p x) v
  apart_up u v wu wv nu e =
      let a = place_in n p is u wu in
      let b = place_in n p is v wv in
      let bv : mem (block p (place p u)) v ≡ true = ap (λ k. mem (block p k) v) e ∙ b.1 in
      let h = block_has p (place p u) a.0 in
      let k : not (mem x (last_of (block p (place p u)))) ≡ true = ap not (goes_with (block p (place p u)) h u a.1 ∙ nu) in
      let r = has_block (merged p x) (block p (place p u)) (insert_keeps x (block p (place p u)) (filter (λ b. not (mem x (last_of b))) p) (kept_has (λ b. not (mem x (last_of b))) (block p (place p u)) p h k)) in
      sym (place_is n (merged p x) merged_partition u r.0 wu r.1 (ap (λ c. mem c u) r.2 ∙ a.1)) ∙ place_is n (merged p x) merged_partition v r.0 wv r.1 (ap (λ c. mem c v) r.2 ∙ bv)

  pub merged_merges : IsMerge n p (mem x) (merged p x)
  merged_merges = grind (arith, has_block (merged p x) x, insert_own x, merged_partition, apart_down, apart_up)
