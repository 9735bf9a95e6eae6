-- The exchange law by names: the two pairs of partitions are the same leaves by the names of the
-- images.
use Rattle.graph_core.proofs.from_counting.Common.{◌≡◌, ℕ, Bool, true, false, ◌||◌, ◌&&◌, not, List, map, sym, ap, ◌∙◌, arith, or_right, mem-rising_list, rising_list-rises, Within, IsRisingIn, last_of, mem, union}
use Rattle.graph_core.proofs.Common.{tight_congr, tight_rest, merged_blocks, Some, merge_of, IsCovered, Graph, IsGraph, IsPartition, contracted, merged, IsTightAt}
use Rattle.tree_core.proofs.Common.{kept_at, merged_at, kept_image, merged_image, inner_rest, outer_rest, union_list}
use Rattle.move_laws.proofs.BigShores.{Stage}
use Rattle.move_laws.proofs.Rising.{bounds}
use Rattle.move_laws.proofs.CarriedLeaves.{images-same_leaf}
use Rattle.move_laws.proofs.SwitchImages.{kept_names, merged_names}
use Rattle.move_laws.proofs.ExchangedParts.{in_inner_rest, in_outer_rest, inner_rest-mem, iso_a, iso_b, kept_partition, merge_congr, merged_partition, outer_rest-mem}
use Rattle.move_laws.specs.Common.{Corner, IsSameLeaf}

module _ (g : Graph) (p : List (List ℕ)) (x u v : List ℕ) (s t : ℕ) (is : IsGraph g) (list : IsPartition g.order p) (cov : IsCovered (contracted g p)) (sx : IsRisingIn g.order x) (su : IsRisingIn g.order u) (sv : IsRisingIn g.order v) (corner : Corner g p (mem x) (mem u) (mem v) s t) where
  stage : Stage g p
  stage = record { graph = is; list = list; covered = cov }

  -- the new shore, and its complement
  shore : List ℕ
  shore = union_list g.order (outer_rest g.order x v) u

  other : List ℕ
  other = union_list g.order (inner_rest g.order x u) v

  shore_mem : (w : ℕ) → Within g.order w → mem shore w ≡ ((not (mem x w) && not (mem v w)) || mem u w)
  unfolding shore
  shore_mem w ww = mem-rising_list g.order (union (mem (outer_rest g.order x v)) (mem u)) w ww ∙ ap (λ k. k || mem u w) (outer_rest-mem g p stage x u v s t sx su sv corner w ww)

  other_mem : (w : ℕ) → Within g.order w → mem other w ≡ ((mem x w && not (mem u w)) || mem v w)
  unfolding other
  other_mem w ww = mem-rising_list g.order (union (mem (inner_rest g.order x u)) (mem v)) w ww ∙ ap (λ k. k || mem v w) (inner_rest-mem g p stage x u v s t sx su sv corner w ww)

  shore_tight : IsTightAt g p (mem shore)
  shore_tight = tight_congr g is p list.partition _ (mem shore) (λ w ww. sym (shore_mem w ww)) corner.new

  other_tight : IsTightAt g p (mem other)
  other_tight = tight_congr g is p list.partition (λ w. not (mem shore w)) (mem other) (λ w ww. ap not (shore_mem w ww) ∙ turned (mem x w) (mem u w) (mem v w) (corner.inside w ww) (corner.outside w ww) ∙ sym (other_mem w ww)) (tight_rest g is p list.partition (mem shore) shore_tight)
    where
      turned : (x u v : Bool) → (u ≡ true → x ≡ true) → (v ≡ true → x ≡ false) → not ((not x && not v) || u) ≡ ((x && not u) || v)
      turned x u v h k = grind arith

  shore_some : Some g.order (mem shore)
  shore_some = (s, corner.left.within, shore_mem s corner.left.within ∙ or_right _ (mem u s) corner.left.holds)

  other_some : Some g.order (mem other)
  other_some = (t, corner.right.within, other_mem t corner.right.within ∙ or_right _ (mem v t) corner.right.holds)

  shore_rises : IsRisingIn g.order shore
  unfolding shore
  shore_rises = rising_list-rises g.order (union (mem (outer_rest g.order x v)) (mem u))

  other_rises : IsRisingIn g.order other
  unfolding other
  other_rises = rising_list-rises g.order (union (mem (inner_rest g.order x u)) (mem v))

  pub exchanged_kept : IsSameLeaf g (kept_at g.order p x) (merged p (union_list g.order (outer_rest g.order x v) u)) (map (λ b. last_of (kept_image g.order x u v b)) (kept_at g.order p x))
  unfolding shore stage
  exchanged_kept =
      let sk = kept_partition g p stage x u v s t sx su sv corner in
      let mq = merge_congr g.order p (merged p shore) (mem shore) (union (in_outer_rest g p stage x u v s t sx su sv corner) (mem u)) shore_mem (merge_of g is p shore list.partition shore_tight shore_some (bounds shore_rises)) in
      let lq = merged_blocks g.order p shore list shore_tight.union shore_rises.rising shore_some (bounds shore_rises) in
      images-same_leaf g is _ _ (λ b. last_of (kept_image g.order x u v b)) (kept_at g.order p x) (kept_at g.order p x) (merged p shore) (kept_names g p stage x u v s t sx su sv corner) sk lq
      (iso_a g p stage x u v s t sx su sv corner (merged p shore) mq) (λ u v wu wv same. same)

  pub exchanged_merged : IsSameLeaf g (merged_at g.order p x) (merged p (union_list g.order (inner_rest g.order x u) v)) (map (λ b. last_of (merged_image g.order x u v b)) (merged_at g.order p x))
  unfolding other stage
  exchanged_merged =
      let sk = merged_partition g p stage x u v s t sx su sv corner in
      let mq = merge_congr g.order p (merged p other) (mem other) (union (in_inner_rest g p stage x u v s t sx su sv corner) (mem v)) other_mem (merge_of g is p other list.partition other_tight other_some (bounds other_rises)) in
      let lq = merged_blocks g.order p other list other_tight.union other_rises.rising other_some (bounds other_rises) in
      images-same_leaf g is _ _ (λ b. last_of (merged_image g.order x u v b)) (merged_at g.order p x) (merged_at g.order p x) (merged p other) (merged_names g p stage x u v s t sx su sv corner) sk lq
      (iso_b g p stage x u v s t sx su sv corner (merged p other) mq) (λ u v wu wv same. same)
