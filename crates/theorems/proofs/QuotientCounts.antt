-- What a partition counts, its quotient counts.
-- Idea: by induction on the number of blocks. A cut at the partition is a nontrivial tight shore
-- of the quotient, and below it both count the same, since the quotients of the quotient are
-- those of the graph.
use Rattle.tree_check.proofs.from_counting.Common.{[], ◌≡◌, ◌∙◌, ◌↔◌, ℕ, zero, suc, ◌≤◌, ◌<◌, List, ◌∷◌, ◌++◌, length, not, inl, inr, refl, sym, ap, arith, subst, rising_list-congr, Within, IsRisingIn, mem, complement}
use Rattle.report_text.proofs.from_contraction.QuotientLaws.{tight_at_up}
use Rattle.bench_top.proofs.from_mcg6_lines.Counts.{same_counts}
use Rattle.theorems.proofs.Quotients.{bipartite-or, leaf-quotient}
use Rattle.graph_core.proofs.Common.{at_rep, rep, rep_in, complement_of-rises, complement_of-rising_list, mem-complement_of, quotient_graph, quotient-order, quotient_edge, nontrivial-same, tight-same, complement-tight, length-singles, singles-partition, IsCovered, Graph, IsGraph, IsMultigraph, first_end, second_end, IsPartition, complement_of, merged, singles, quotient, IsTightAt, blocks_in, IsNontrivial}
use Rattle.bench_top.proofs.from_mcg6_lines.SingleLeaves.{one_brace, one_brick}
use Rattle.bench_top.specs.from_mcg6_lines.Standings.{IsCounted}
use Rattle.tree_core.proofs.Common.{IsTally, tally_of, IsCutAt, IsDerivationAt, IsLeafAt, IsTightShore, kept_at, merged_at, leaves_at, Shape, cut, leaf, kept-covers, kept-partition, merged-covers, merged-partition, root-covered, partitions-leaves_at, shore-cut, last-place}
use Rattle.tree_core.specs.declared.tallies.LeafKind.TheVariants.{Brick, Brace}
use Rattle.tree_core.specs.declared.tallies.Tally.{Tally}
use Rattle.theorems.proofs.CoarserPartitions.{down, down-is, down-rises, mem-down, mem-down_at}
use Rattle.theorems.proofs.CoarserQuotients.{merged-quotient}
use Rattle.theorems.proofs.LeafKindLists.{one-tally, tallies-joined, tally-exists, tally-once}
use Rattle.theorems.proofs.PickedDerivations.{kept-fewer, merged-fewer, some-tree_at}
use Rattle.theorems.proofs.SidesAcrossCuts.{shore-member}
use Rattle.theorems.specs.Derivations.{IsCountedAt, both}

-- the quotient has no loop
pub loopless : (g : Graph) (p : List (List ℕ)) → IsGraph g → IsPartition g.order p → IsMultigraph (quotient g p)
loopless g p is pp = grind (arith, quotient_graph, quotient_edge, first_end, quotient, second_end)

-- a leaf
leaf-counted : (g : Graph) (p : List (List ℕ)) (tally : Tally) → IsGraph g → IsPartition g.order p → IsCovered (quotient g p) → IsLeafAt g p → IsTally g (p ∷ []) tally → IsCounted (quotient g p) tally
leaf-counted g p tally is pp covered none counts = elim (bipartite-or (quotient g p) (quotient_graph g p is pp.partition)) [
  | inl sides ↦
      subst (IsCounted (quotient g p)) (sym (tally-once g (p ∷ []) tally (tally_of (Brace ∷ [])) counts (one-tally g p Brace sides)))
      (one_brace (quotient g p) (loopless g p is pp) covered (sides, leaf-quotient g p is pp.partition none))
  | inr odd ↦
      subst (IsCounted (quotient g p)) (sym (tally-once g (p ∷ []) tally (tally_of (Brick ∷ [])) counts (one-tally g p Brick odd)))
      (one_brick (quotient g p) (loopless g p is pp) covered (odd, leaf-quotient g p is pp.partition none))
]

-- a cut at the partition, as a shore of the quotient
module _ (g : Graph) (is : IsGraph g) (p : List (List ℕ)) (pp : IsPartition g.order p) (x : List ℕ) (cuts : IsCutAt g p x) where
  abbrev h : Graph
  h = quotient g p

  abbrev y : List ℕ
  y = down g.order p pp x

  same : (i : ℕ) → Within (length p) i → blocks_in p (mem x) i ≡ mem y i
  same i w = sym (mem-down_at g.order p pp x i w)

  some-vertex : 1 ≤ g.order
  some-vertex = grind arith

  pub shore-down : IsTightShore h y
  shore-down = record {
    set = subst (λ n. IsRisingIn n y) (sym (quotient-order g p)) (down-rises g.order p pp x);
    tight = tight-same h (blocks_in p (mem x)) (mem y) (quotient_graph g p is pp.partition) (λ i w. same i (subst (λ n. Within n i) (quotient-order g p) w)) (tight_at_up g p is pp.partition (mem x) cuts.tight);
    nontrivial = subst (λ n. IsNontrivial n (mem y)) (sym (quotient-order g p)) (nontrivial-same (length p) (blocks_in p (mem x)) (mem y) same cuts.nontrivial);
    canonical = ap (mem y) (quotient-order g p ∙ sym (last-place g.order p pp some-vertex)) ∙ mem-down g.order p pp x cuts.tight.union g.order (some-vertex, omega arith) ∙ cuts.canonical;
  }

  rest-tight : IsTightAt g p (mem (complement_of g.order x))
  rest-tight = complement-tight g is p pp.partition x cuts.tight

  rest-down : complement_of h.order y ≡ down g.order p pp (complement_of g.order x)
  rest-down =
      ap (λ n. complement_of n y) (quotient-order g p)
      ∙ complement_of-rising_list (length p) y
      ∙ rising_list-congr (length p) (complement (mem y)) (blocks_in p (mem (complement_of g.order x)))
      (λ i w.
      ap not (sym (same i w) ∙ at_rep g.order p pp.partition (mem x) cuts.tight.union i w)
      ∙ sym (mem-complement_of g.order x (rep p i) (rep_in g.order p pp.partition i w).0)
      ∙ sym (at_rep g.order p pp.partition (mem (complement_of g.order x)) rest-tight.union i w))
      ∙ sym (down-is g.order p pp (complement_of g.order x))

  pub merged-same : quotient g (merged_at g.order p x) ≡ quotient h (merged_at h.order (singles h.order) y)
  merged-same = merged-quotient g is p pp x cuts.set cuts.tight.union (shore-member g is p pp.partition x cuts.set cuts.tight)

  pub kept-same : quotient g (kept_at g.order p x) ≡ quotient h (kept_at h.order (singles h.order) y)
  kept-same =
      merged-quotient g is p pp (complement_of g.order x) (complement_of-rises g.order x) rest-tight.union (shore-member g is p pp.partition (complement_of g.order x) (complement_of-rises g.order x) rest-tight)
      ∙ ap (λ (z : List ℕ). quotient h (merged (singles h.order) z)) (sym rest-down)

-- what the quotient counts, the partition counts, if it is so the other way round
up-from : (g : Graph) (p : List (List ℕ)) (tally : Tally) → IsGraph g → IsPartition g.order p → IsCovered (quotient g p) → ((other : Tally) → IsCountedAt g p other → IsCounted (quotient g p) other) → IsCounted (quotient g p) tally → IsCountedAt g p tally
up-from g p tally is pp covered lead counted =
    let t = some-tree_at g p is pp covered in
    let other = tally-exists g is (leaves_at g.order p t.0) (partitions-leaves_at g p t.0 pp t.1) in
    let found : IsCountedAt g p other.0 = record { tree = t.0; derives = t.1; counts = other.1 } in
    subst (IsCountedAt g p) (same_counts (quotient g p) other.0 tally (quotient_graph g p is pp.partition) (lead other.0 found) counted) found

-- the two counts at a cut
pub cut-counted : (h : Graph) (y : List ℕ) (a b : Tally) → IsCovered h → IsCutAt h (singles h.order) y → IsCountedAt h (kept_at h.order (singles h.order) y) a → IsCountedAt h (merged_at h.order (singles h.order) y) b → IsCounted h (both a b)
cut-counted h y a b covered cuts kept merged = record {
  tree = cut y kept.tree merged.tree;
  derivation = record { covered = covered; derives = (cuts, kept.derives, merged.derives) };
  counts = tallies-joined h (leaves_at h.order (kept_at h.order (singles h.order) y) kept.tree) (leaves_at h.order (merged_at h.order (singles h.order) y) merged.tree) a b kept.counts merged.counts;
}

count-down : (fuel : ℕ) (g : Graph) (p : List (List ℕ)) (tally : Tally) → IsGraph g → IsPartition g.order p → IsCovered (quotient g p) → length p < fuel → IsCountedAt g p tally → IsCounted (quotient g p) tally
count-down zero g p tally is pp covered less counted = absurd (omega arith)
count-down (suc fuel) g p tally is pp covered less counted =
    go (λ f q other. count-down fuel f q other) counted.tree counted.derives counted.counts
  where
    go : ((f : Graph) (q : List (List ℕ)) (other : Tally) → IsGraph f → IsPartition f.order q → IsCovered (quotient f q) → length q < fuel → IsCountedAt f q other → IsCounted (quotient f q) other) →
        (t : Shape) → IsDerivationAt g p t → IsTally g (leaves_at g.order p t) tally → IsCounted (quotient g p) tally
    go below leaf derives counts = leaf-counted g p tally is pp covered derives counts
    go below (cut x k m) derives counts =
        let cuts = derives.0 in
        let h = quotient g p in
        let hs = quotient_graph g p is pp.partition in
        let y = down g.order p pp x in
        let single = singles-partition h.order in
        let own = root-covered h (singles h.order) hs refl covered in
        let low = shore-cut h y hs (shore-down g is p pp x cuts) in
        let kept_p = kept_at g.order p x in
        let merged_p = merged_at g.order p x in
        let kept_h = kept_at h.order (singles h.order) y in
        let merged_h = merged_at h.order (singles h.order) y in
        let as_many = length-singles h.order in
        let order = quotient-order g p in
        let fewer_a = kept-fewer g p x is pp cuts in
        let fewer_b = merged-fewer g p x is pp cuts in
        let fewer_c = kept-fewer h (singles h.order) y hs single low in
        let fewer_d = merged-fewer h (singles h.order) y hs single low in
        let pk = kept-partition g p x is pp cuts in
        let pm = merged-partition g p x is pp cuts in
        let ck = kept-covers g p x is pp cuts covered in
        let cm = merged-covers g p x is pp cuts covered in
        let a = tally-exists g is (leaves_at g.order kept_p k) (partitions-leaves_at g kept_p k pk derives.1) in
        let b = tally-exists g is (leaves_at g.order merged_p m) (partitions-leaves_at g merged_p m pm derives.2) in
        let ca = below g kept_p a.0 is pk ck (omega arith) (record { tree = k; derives = derives.1; counts = a.1 }) in
        let cb = below g merged_p b.0 is pm cm (omega arith) (record { tree = m; derives = derives.2; counts = b.1 }) in
        let qk = kept-partition h (singles h.order) y hs single low in
        let qm = merged-partition h (singles h.order) y hs single low in
        let vk = kept-covers h (singles h.order) y hs single low own in
        let vm = merged-covers h (singles h.order) y hs single low own in
        let up_a = up-from h kept_h a.0 hs qk vk (λ other found. below h kept_h other hs qk vk (omega arith) found) (subst (λ (q : Graph). IsCounted q a.0) (kept-same g is p pp x cuts) ca) in
        let up_b = up-from h merged_h b.0 hs qm vm (λ other found. below h merged_h other hs qm vm (omega arith) found) (subst (λ (q : Graph). IsCounted q b.0) (merged-same g is p pp x cuts) cb) in
        subst (IsCounted h) (sym (tally-once g (leaves_at g.order kept_p k ++ leaves_at g.order merged_p m) tally (both a.0 b.0) counts (tallies-joined g (leaves_at g.order kept_p k) (leaves_at g.order merged_p m) a.0 b.0 a.1 b.1)))
        (cut-counted h y a.0 b.0 covered low up_a up_b)

pub quotient-counts : (g : Graph) (p : List (List ℕ)) (tally : Tally) → IsGraph g → IsPartition g.order p → IsCovered (quotient g p) → IsCountedAt g p tally ↔ IsCounted (quotient g p) tally
quotient-counts g p tally is pp covered = grind (arith, count-down, length, up-from)
