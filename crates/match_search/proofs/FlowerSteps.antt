-- The blossom of a forest is shrunk to its base: what the search hands on, and what comes back. The
-- shrunk graph has fewer vertices, and its frame is one of the graph.
use Rattle.graph_core.proofs.from_counting.Common.{◌≡◌, ℕ, zero, suc, ◌+◌, ◌≤◌, ◌<◌, true, false, ◌==◌, ◌∙◌, arith, sym, subst, eqb-true, fun_ext, half, not-true, some_true, Within, count, is_odd, Set, complement, none, union}
use Rattle.graph_core.proofs.Common.{missed_count, size}
use Rattle.match_search.specs.Common.{Frame, HasMates, IsNearPerfect, every_other, listed, picked, IsFlower}
use Rattle.match_search.proofs.ContractedForests.{contracted_forest}
use Rattle.match_search.proofs.ContractedFrames.{contracted_missed, frame_contracted, frame_whole}
use Rattle.match_search.proofs.OddCycles.{cycle_size, every_other-near_perfect}
use Rattle.match_search.proofs.ShrunkForests.{H, IsContracted, IsWalkedForest, ShrunkForest, contracted_mates, left_edges, rs, wz}
use Rattle.match_search.proofs.ShrunkFrames.{complement_size}

module _ (given : ShrunkForest) (flower : IsFlower given.g given.r given.f given.outer given.walked.k given.walked.v given.mate given.c given.z) where
  open given use {g, is, r, f, outer, inner, parent, mate, c, z, es, shrunk, fits}

  abbrev n : ℕ
  n = flower.length_of

  pub member_in : (u : ℕ) → c u ≡ true → Within g.order u
  member_in u t = let at = some_true n (λ i. flower.vertex i == u) (sym (flower.members u) ∙ t) in subst (Within g.order) (eqb-true (flower.vertex at.0) u at.2) (flower.cycle.within at.0 at.1)

  near_sets : (t : ℕ) → Within g.order t → c t ≡ true → (d : Set) × IsNearPerfect g c t d
  near_sets t w q =
      let at = some_true n (λ i. flower.vertex i == t) (sym (flower.members t) ∙ q) in
      let near = every_other-near_perfect g r n flower.vertex flower.edge flower.cycle at.0 at.1 in
      (picked n (every_other at.0) flower.edge, subst (λ (x : Set). IsNearPerfect g x t (picked n (every_other at.0) flower.edge)) (sym (fun_ext flower.members)) (subst (λ (u : ℕ). IsNearPerfect g (listed n flower.vertex) u (picked n (every_other at.0) flower.edge)) (eqb-true (flower.vertex at.0) t at.2) near))

  halves : (k : ℕ) × (count g.order c ≡ suc (k + k)) × (1 ≤ k)
  halves = go n flower.cycle.odd flower.cycle.three (subst (λ (x : Set). count g.order x ≡ n) (sym (fun_ext flower.members)) (cycle_size g r n flower.vertex flower.edge flower.cycle))
    where
      go : (t : ℕ) → is_odd t ≡ true → 3 ≤ t → count g.order c ≡ t → (k : ℕ) × (count g.order c ≡ suc (k + k)) × (1 ≤ k)
      go zero o l s = absurd (omega arith)
      go (suc t) o l s = let q = half t (not-true (is_odd t) o) in (q.0, (let a = q.1 in omega arith), (let a = q.1 in omega arith))

  pub fewer_below : count g.order (complement (rs given)) < count g.order (complement r)
  fewer_below = let h = halves in let a = complement_size g is r c z es shrunk fits.left (wz given) fits.base h.0 h.1 in let b = h.2 in omega arith

  pub missed_below : missed_count (H given) (rs given) (left_edges given) ≡ missed_count g r f
  missed_below = contracted_missed given

  pub frame_wider : (outer2 inner2 : Set) → Frame (H given) (rs given) (count (size (H given)) (left_edges given)) outer2 inner2 → Frame g r (count (size g) f) (union outer2 c) inner2
  frame_wider = frame_contracted given near_sets halves.0 halves.1

  pub frame_all : ((u : ℕ) → Within g.order u → r u ≡ false → c u ≡ true) → Frame g r (count (size g) f) c none
  frame_all = frame_whole given near_sets halves.0 halves.1

  module _ (outer' inner' : Set) (parent' mate' : ℕ → ℕ) (after : IsContracted outer inner parent mate c z outer' inner' parent' mate') where
    pub forest_below : IsWalkedForest (H given) (rs given) (left_edges given) outer' inner' parent' mate'
    forest_below = contracted_forest given outer' inner' parent' mate' after

    pub mates_below : HasMates (H given) (rs given) (left_edges given) mate'
    mates_below = contracted_mates given outer' inner' parent' mate' after
