-- Unions of blocks as the code tests them: the set contains all of each block, or none of it. If it
-- contains one vertex of a block, it contains the block, so the block's name decides.
use Rattle.graph_core.proofs.from_counting.Common.{◌≡◌, ℕ, ◌<◌, ◌==◌, Bool, true, false, not, cond, ◌||◌, ◌&&◌, List, [], ◌∷◌, length, refl, sym, ap, ap₂, ◌∙◌, arith, inl, inr, filter, eq-eqb, ne_eqb, suc, list_all, both_ways, and_parts, and_from, or_cases, or_left, or_right, false_from_ne_true, not-true, mem-within, member-of_set, all_in_true, true_all_in, set-part, Within, IsRisingIn, all_in, is_apart, is_subset, last_of, mem}
use Rattle.graph_core.proofs.Common.{in_union, place_in, merged_blocks, Has, block_has, has_block, mem_last, AreBlocks, IsPartition, block, insert_block, merged, place, IsUnion}
use Rattle.contraction.specs.Partition.{IsUnionAt, KeepsPartition, PartitionValue}

-- no vertex of b is in s where their common part is empty
pub apart-met : (b s met : List ℕ) → ((v : ℕ) → mem met v ≡ (mem b v && mem s v)) → (length met == 0) ≡ is_apart b s
apart-met b s [] meets = sym (true_all_in b (λ v. not (mem s v)) (λ v m. ap not (false_from_ne_true (mem s v) (λ t. both_ways false refl (meets v ∙ and_from (mem b v) (mem s v) m t)))))
apart-met b s (w ∷ met) meets = ne_eqb (suc (length met)) 0 (λ e. absurd (omega arith)) ∙ sym (false_from_ne_true (is_apart b s) (λ h.
    let p = and_parts (mem b w) (mem s w) (sym (meets w) ∙ or_left (w == w) (mem met w) (eq-eqb w w refl)) in
    both_ways (mem s w) (not-true (mem s w) (all_in_true b (λ v. not (mem s v)) h w p.0)) p.1))

-- the block has all of its vertices in the set, or none
abbrev pub in_or_apart : List ℕ → List ℕ → Bool
in_or_apart s b = is_subset b s || is_apart b s

pub all-has : (t : List ℕ → Bool) (p : List (List ℕ)) → list_all t p ≡ true → (c : List ℕ) → Has p c → t c ≡ true
all-has t [] h c k = absurd k
all-has t (b ∷ p) h c (inl e) = ap t (sym e) ∙ (and_parts (t b) (list_all t p) h).0
all-has t (b ∷ p) h c (inr k) = all-has t p (and_parts (t b) (list_all t p) h).1 c k

pub has-all : (t : List ℕ → Bool) (p : List (List ℕ)) → ((c : List ℕ) → Has p c → t c ≡ true) → list_all t p ≡ true
has-all t [] h = refl
has-all t (b ∷ p) h = and_from (t b) (list_all t p) (h b (inl refl)) (has-all t p (λ c k. h c (inr k)))

-- tests that agree on the blocks keep the same blocks
filter-has : (t u : List ℕ → Bool) (p : List (List ℕ)) → ((c : List ℕ) → Has p c → t c ≡ u c) → filter t p ≡ filter u p
filter-has t u [] h = refl
filter-has t u (b ∷ p) h = ap₂ (λ s q. cond s (b ∷ q) q) (h b (inl refl)) (filter-has t u p (λ c k. h c (inr k)))

module _ (n : ℕ) (p : List (List ℕ)) (s : List ℕ) (is : AreBlocks n p) where
  -- a set of vertices that passes is a union of blocks
  pub union-from_test : list_all (in_or_apart s) p ≡ true → IsUnion n p (mem s)
  union-from_test h u v wu wv e =
      let a = place_in n p is u wu in
      let b = place_in n p is v wv in
      let bv : mem (block p (place p u)) v ≡ true = ap (λ i. mem (block p i) v) e ∙ b.1 in
      elim (or_cases (is_subset (block p (place p u)) s) (is_apart (block p (place p u)) s) (all-has (in_or_apart s) p h (block p (place p u)) (block_has p (place p u) a.0))) [
        | inl t ↦ all_in_true (block p (place p u)) (mem s) t u a.1 ∙ sym (all_in_true (block p (place p u)) (mem s) t v bv)
        | inr t ↦ not-true (mem s u) (all_in_true (block p (place p u)) (λ w. not (mem s w)) t u a.1) ∙ sym (not-true (mem s v) (all_in_true (block p (place p u)) (λ w. not (mem s w)) t v bv))
      ]

  -- and a union of blocks passes
  pub test-from_union : IsUnion n p (mem s) → list_all (in_or_apart s) p ≡ true
  test-from_union union = grind (arith, has-all (in_or_apart s) p, has_block p, in_union n p (mem s) is union, or_left, or_right, true_all_in)

  -- a block is in a union of blocks where its name is
  pub subset-name : IsUnion n p (mem s) → (c : List ℕ) → Has p c → is_subset c s ≡ mem s (last_of c)
  subset-name union c k =
      let r = has_block p c k in
      let f = is.full r.0 r.1 in
      let m = mem_last (block p r.0) f.0 f.2 in
      ap (λ b. all_in b (mem s)) (sym r.2) ∙ in_union n p (mem s) is union r.0 (last_of (block p r.0)) r.1 m ∙ ap (λ b. mem s (last_of b)) r.2

  -- so merging puts the set among the blocks that are not in it
  pub merged-outside : IsUnion n p (mem s) → insert_block s (filter (λ b. not (is_subset b s)) p) ≡ merged p s
  merged-outside union = ap (insert_block s) (filter-has (λ b. not (is_subset b s)) (λ b. not (mem s (last_of b))) p (λ c k. ap not (subset-name union c k)))

-- a nonempty union of blocks merged keeps the partition
pub keeps-merged : (p : PartitionValue) (x : List ℕ) → KeepsPartition p → IsUnionAt p x → 0 < length x → KeepsPartition (record { order = p.order; blocks = merged p.blocks x })
keeps-merged p x keeps union some = record {
  few = keeps.few;
  partition = merged_blocks p.order p.blocks x keeps.partition union.union union.set.rising (member-of_set p.order x union.set some) (mem-within p.order x union.set);
}

-- the test of the code: a set within 1 to n of which each block has all or none of its vertices
pub union-test : (p : PartitionValue) (s full : List ℕ) → IsPartition p.order p.blocks → IsRisingIn 128 s → IsRisingIn p.order full → is_subset s full ≡ true → list_all (in_or_apart s) p.blocks ≡ true → IsUnionAt p s
union-test p s full is rises all sub h = record {
  set = set-part 128 p.order s full rises all (all_in_true s (mem full) sub);
  union = union-from_test p.order p.blocks s is.partition h;
}

pub within-test : (p : PartitionValue) (s full : List ℕ) → ((v : ℕ) → Within p.order v → mem full v ≡ true) → IsUnionAt p s → is_subset s full ≡ true
within-test p s full all union = true_all_in s (mem full) (λ v m. all v (mem-within p.order s union.set v m))
