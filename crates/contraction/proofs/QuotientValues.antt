-- The value that the code makes is the quotient with its remembered edges: the joined pairs of
-- the contracted graph are the edges of the quotient, since a pair of places a < b has two
-- different blocks.
use Rattle.graph_core.proofs.from_counting.Common.{◌≡◌, ℕ, ◌≤◌, ◌==◌, Bool, true, false, not, cond, ◌&&◌, List, [], ◌∷◌, length, refl, sym, ap, ap₂, ◌∙◌, arith, inl, inr, filter, map, nat_lt, subst, nat_tests, HasPair, rows_only, rising_list, rising_pairs, everything, some}
use Rattle.graph_core.proofs.Common.{contracted-graph, contracted-size, size-graph_of, Graph, IsGraph, has_ends, size, AreBlocks, contracted, blocks_adjacent, quotient, IsWithinLimits, graph_of, pair_of}
use Rattle.graph_core.specs.declared.ends.Ends.{Ends}
use Rattle.contraction.proofs.BlockLists.{length-partition}
use Rattle.contraction.proofs.JoinedPairs.{joined-limits, joined-once}
use Rattle.contraction.specs.Contracted.{ContractedValue, contraction}
use Rattle.contraction.specs.Pairs.{EachOnce, joined_pairs}
use Rattle.contraction.specs.Partition.{KeepsPartition, PartitionValue}

-- tests that agree on the pairs keep the same pairs
filter-pairs : (t u : ℕ → ℕ → Bool) (ks : List (ℕ × ℕ)) → ((a b : ℕ) → HasPair ks a b → t a b ≡ u a b) → filter (λ k. t k.0 k.1) ks ≡ filter (λ k. u k.0 k.1) ks
filter-pairs t u [] h = refl
filter-pairs t u (k ∷ ks) h = ap₂ (λ b q. cond b (k ∷ q) q) (h k.0 k.1 (inl (refl, refl))) (filter-pairs t u ks (λ a b m. h a b (inr m)))

-- the pairs of places that edges join are the edges of the quotient
pub joined-quotient : (g : Graph) (p : List (List ℕ)) → record { order = length p; ends = joined_pairs (contracted g p) } ≡ quotient g p
unfolding joined_pairs contracted quotient
joined-quotient g p = ap (λ (ks : List (ℕ × ℕ)). record { order = length p; ends = ks })
    (filter-pairs (λ a b. some (size (contracted g p)) (has_ends (contracted g p) a b)) (blocks_adjacent g p) (rising_pairs (length p))
    (λ a b h. same a b (rows_only (length p) a b (rising_list (length p) everything) h).2))
  where
    differ : (a b : ℕ) → nat_lt a b ≡ true → (a == b) ≡ false
    differ a b h = grind (arith, nat_tests, h)

    same : (a b : ℕ) → nat_lt a b ≡ true → some (size (contracted g p)) (has_ends (contracted g p) a b) ≡ blocks_adjacent g p a b
    same a b l = ap (λ k. some k (has_ends (contracted g p) a b)) (contracted-size g p) ∙ ap (λ t. not t && some (size g) (has_ends (contracted g p) a b)) (sym (differ a b l))

pub few-blocks : (p : PartitionValue) (n : ℕ) → KeepsPartition p → n ≡ length p.blocks → n ≤ 128
few-blocks p n keeps e = let l = length-partition p.order p.blocks keeps.partition in let f = keeps.few in omega arith

module _ (g : Graph) (p : List (List ℕ)) (n : ℕ) (ends : List Ends) (is : n ≡ length p) (at : graph_of (length p) ends ≡ contracted g p) where
  here : graph_of n ends ≡ contracted g p
  here = ap (λ k. graph_of k ends) is ∙ at

  pub ends-graph : IsGraph g → AreBlocks g.order p → IsGraph (graph_of n ends)
  ends-graph graph blocks = subst IsGraph (sym here) (contracted-graph g p graph blocks)

  pub length-ends : length ends ≡ size g
  length-ends = sym (size-graph_of n ends) ∙ ap size here ∙ contracted-size g p

  module _ (pairs : List Ends) (joined : map pair_of pairs ≡ joined_pairs (contracted g p)) where
    joined-here : map pair_of pairs ≡ joined_pairs (graph_of n ends)
    joined-here = joined ∙ ap joined_pairs (sym here)

    pub pairs-limits : n ≤ 128 → size g ≤ 2048 → IsWithinLimits (graph_of n pairs)
    pairs-limits few edges = subst (λ (ks : List (ℕ × ℕ)). IsWithinLimits (record { order = n; ends = ks })) (sym joined-here) (joined-limits (graph_of n ends) few (let s = ap size here in let t = contracted-size g p in omega arith))

    pub pairs-once : EachOnce (map pair_of pairs)
    pairs-once = subst EachOnce (sym joined-here) (joined-once (graph_of n ends))

    pub pairs-quotient : graph_of n pairs ≡ quotient g p
    pairs-quotient = ap₂ (λ k (ks : List (ℕ × ℕ)). record { order = k; ends = ks }) is joined ∙ joined-quotient g p

    pub contraction-same : (q : ContractedValue) → q.order ≡ g.order → q.size ≡ size g → q.blocks ≡ p → q.graph ≡ graph_of n pairs →
        q.edges ≡ map (λ k. rising_list (length ends) (has_ends (graph_of 0 ends) k.0 k.1)) (map pair_of pairs) → q ≡ contraction g p
    contraction-same q order edge_count blocks graph edges = grind (arith, pairs-quotient, length-ends)

-- the ends that the code made are those of the contracted graph
pub ends-at : (g : Graph) (p : PartitionValue) (edges made read : List Ends) → p.order ≡ g.order → graph_of g.order edges ≡ g → read ≡ made → graph_of (length p.blocks) made ≡ contracted (graph_of p.order edges) p.blocks → graph_of (length p.blocks) read ≡ contracted g p.blocks
ends-at g p edges made read order all same at = ap (graph_of (length p.blocks)) same ∙ at ∙ ap (λ h. contracted h p.blocks) (ap (λ n. graph_of n edges) order ∙ all)
