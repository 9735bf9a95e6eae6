-- The opening of a blossom after its shrinking, in the words of what its caller knows. Where the
-- base is free, the cycle is paired round from it; else the mate of the base is near a vertex of
-- the cycle, its tip.
use Rattle.graph_core.proofs.from_counting.Common.{◌≡◌, ◌≢◌, ℕ, suc, ◌≤◌, true, arith, length, List, get_or, get_or_default_zero, Within, Set, mem}
use Rattle.graph_core.proofs.Common.{Graph}
use Rattle.match_search.specs.Common.{IsCompleted, MayOpen, blossom_length, Touches, paired_round, with_mate, with_pair, numbers}
use Rattle.match_search.specs.declared.blossom.Blossom.{Blossom}
use Rattle.match_search.specs.declared.instance.Instance.{Instance}
use Rattle.match_search.proofs.BlossomMates.{below_size, outside_edge, outside_near, outside_within}
use Rattle.match_search.proofs.BlossomSteps.{blossom_short, opened_free, opened_taken, same_count}

-- the cycle has three vertices at least and few, and the first one is the base that the code reads
pub record IsSmallCycle (g : Graph) (mate : List ℕ) (b : Blossom) (base : ℕ) : Type 0 where
  pub three : 3 ≤ blossom_length b
  pub short : blossom_length b ≤ 128
  pub few : g.order ≤ 128
  pub long : length mate ≡ suc g.order
  pub base_is : base ≡ numbers b.cycle.items 1

module _ (g : Graph) (r f m n : Set) (s : Instance) (mate : List ℕ) (b : Blossom) (is : MayOpen g r f m n s mate b) where
  pub small_cycle : (base : ℕ) → base ≡ get_or b.cycle.items 1 base → IsSmallCycle g mate b base
  small_cycle base read = grind (arith, blossom_short g is.instance_is.graph r f m (blossom_length b) (numbers b.cycle.items) is.edge is.opened, get_or_default_zero b.cycle.items 1 base)

  -- where the base is free
  pub opened_base : numbers mate (numbers b.cycle.items 1) ≡ 0 → (new : List ℕ) → ((v : ℕ) → numbers new v ≡ paired_round (numbers mate) (blossom_length b) (numbers b.cycle.items) 1 (blossom_length b) v) → IsCompleted g r f m n new
  opened_base free new round =
      let done = opened_free g is.instance_is.graph r f m (blossom_length b) (numbers b.cycle.items) is.edge is.opened n (numbers mate) is.mates free (numbers new) round in
      let low = below_size g is.instance_is.graph r f m (blossom_length b) (numbers b.cycle.items) is.edge is.opened in
      let same_m = same_count g is.instance_is.graph r f m (blossom_length b) (numbers b.cycle.items) is.edge is.opened m in
      let same_n = same_count g is.instance_is.graph r f m (blossom_length b) (numbers b.cycle.items) is.edge is.opened n in
      (done.0, done.1, (let d = done.2 in omega arith))

  -- where it has a mate
  module _ (taken : numbers mate (numbers b.cycle.items 1) ≢ 0) where
    pub mate_within : Within g.order (numbers mate (numbers b.cycle.items 1))
    mate_within = outside_within g is.instance_is.graph r f m (blossom_length b) (numbers b.cycle.items) is.edge is.opened n (numbers mate) is.mates taken

    pub mate_near : (i : ℕ) × Within (blossom_length b) i × (mem s.left (numbers b.cycle.items i) ≡ true) × Touches s (numbers mate (numbers b.cycle.items 1)) (numbers b.cycle.items i)
    mate_near = outside_near g is.instance_is.graph r f m (blossom_length b) (numbers b.cycle.items) is.edge is.opened n (numbers mate) is.mates taken s is.instance_is

    pub opened_tip : (t : ℕ) → Within (blossom_length b) t → Touches s (numbers mate (numbers b.cycle.items 1)) (numbers b.cycle.items t) → (new : List ℕ) →
        ((v : ℕ) → numbers new v ≡ paired_round (with_pair (with_mate (numbers mate) (numbers b.cycle.items 1) 0) (numbers mate (numbers b.cycle.items 1)) (numbers b.cycle.items t)) (blossom_length b) (numbers b.cycle.items) t (blossom_length b) v) → IsCompleted g r f m n new
    opened_tip t inside near new round =
        let edge = outside_edge g is.instance_is.graph r f m (blossom_length b) (numbers b.cycle.items) is.edge is.opened n (numbers mate) is.mates taken s is.instance_is t inside near in
        let done = opened_taken g is.instance_is.graph r f m (blossom_length b) (numbers b.cycle.items) is.edge is.opened n (numbers mate) is.mates taken t inside edge.0 edge.1 edge.2 (numbers new) round in
        let low = below_size g is.instance_is.graph r f m (blossom_length b) (numbers b.cycle.items) is.edge is.opened in
        let same_m = same_count g is.instance_is.graph r f m (blossom_length b) (numbers b.cycle.items) is.edge is.opened m in
        let same_n = same_count g is.instance_is.graph r f m (blossom_length b) (numbers b.cycle.items) is.edge is.opened n in
        (done.0, done.1, (let d = done.2 in omega arith))
