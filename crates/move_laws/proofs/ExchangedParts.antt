-- The exchange law at a list of blocks: x is a tight shore, u a block inside and v a block outside,
-- and the set of u and the rest of the outside is tight too. There is no other condition on x: it
-- may be trivial, and it may contain the highest-numbered vertex.
use Rattle.graph_core.proofs.from_counting.Common.{List, ap, cond, not, ℕ, Bool, true, false, ◌&&◌, ◌||◌, ◌∙◌, ◌≡◌, arith, mem-rising_list, Within, IsRisingIn, mem, Set, complement, minus, union}
use Rattle.graph_core.proofs.Common.{complement_of-rises, mem-complement_of, union-complement_of, merged_blocks, Some, merged_merges, Graph, IsMerge, IsPartition, complement_of, IsUnion}
use Rattle.tree_core.proofs.Common.{kept_at, merged_at, inner_rest, outer_rest}
use Rattle.move_laws.proofs.BigShores.{Stage}
use Rattle.move_laws.proofs.Exchange.{exchange_kept, exchange_merged}
use Rattle.move_laws.proofs.Rising.{bounds}
use Rattle.move_laws.specs.Common.{Corner, Isomorphism}

pub merge_congr : (n : ℕ) (p q : List (List ℕ)) (x y : Set) → ((v : ℕ) → Within n v → x v ≡ y v) → IsMerge n p x q → IsMerge n p y q
merge_congr n p q x y h m = grind arith

module _ (g : Graph) (p : List (List ℕ)) (stage : Stage g p) (x u v : List ℕ) (s t : ℕ) (sx : IsRisingIn g.order x) (su : IsRisingIn g.order u) (sv : IsRisingIn g.order v) (corner : Corner g p (mem x) (mem u) (mem v) s t) where
  abbrev pub in_inner_rest : Set
  in_inner_rest = minus (mem x) (mem u)

  abbrev pub in_outer_rest : Set
  in_outer_rest = minus (complement (mem x)) (mem v)

  abbrev pub map_a : ℕ → ℕ
  map_a w = cond (in_outer_rest w) s w

  abbrev pub map_b : ℕ → ℕ
  map_b w = cond (in_inner_rest w) t w

  pub outer_rest-mem : (w : ℕ) → Within g.order w → mem (outer_rest g.order x v) w ≡ in_outer_rest w
  outer_rest-mem w ww = mem-rising_list g.order (minus (mem (complement_of g.order x)) (mem v)) w ww ∙ ap (λ b. b && not (mem v w)) (mem-complement_of g.order x w ww)

  pub inner_rest-mem : (w : ℕ) → Within g.order w → mem (inner_rest g.order x u) w ≡ in_inner_rest w
  inner_rest-mem w ww = mem-rising_list g.order (minus (mem x) (mem u)) w ww

  inside-some : Some g.order (mem x)
  inside-some = (s, corner.left.within, corner.inside s corner.left.within corner.left.holds)

  outside-some : Some g.order (mem (complement_of g.order x))
  outside-some = (t, corner.right.within, mem-complement_of g.order x t corner.right.within ∙ ap not (corner.outside t corner.right.within corner.right.holds))

  -- the partitions of the two children
  pub rest-union : IsUnion g.order p (mem (complement_of g.order x))
  rest-union = union-complement_of g.order p x corner.shore.union

  pub kept_merge : IsMerge g.order p (mem (complement_of g.order x)) (kept_at g.order p x)
  kept_merge = merged_merges g.order p (complement_of g.order x) stage.list.partition rest-union outside-some (bounds (complement_of-rises g.order x))

  pub merged_merge : IsMerge g.order p (mem x) (merged_at g.order p x)
  merged_merge = merged_merges g.order p x stage.list.partition corner.shore.union inside-some (bounds sx)

  pub kept_partition : IsPartition g.order (kept_at g.order p x)
  kept_partition = merged_blocks g.order p (complement_of g.order x) stage.list rest-union (complement_of-rises g.order x).rising outside-some (bounds (complement_of-rises g.order x))

  pub merged_partition : IsPartition g.order (merged_at g.order p x)
  merged_partition = merged_blocks g.order p x stage.list corner.shore.union sx.rising inside-some (bounds sx)

  kept_is : IsMerge g.order p (union in_outer_rest (mem v)) (kept_at g.order p x)
  kept_is = merge_congr g.order p (kept_at g.order p x) (mem (complement_of g.order x)) (union in_outer_rest (mem v)) (λ w ww. mem-complement_of g.order x w ww ∙ regions (mem x w) (mem v w) (corner.outside w ww)) kept_merge
    where
      regions : (a b : Bool) → (b ≡ true → a ≡ false) → not a ≡ ((not a && not b) || b)
      regions a b h = grind arith

  merged_is : IsMerge g.order p (union in_inner_rest (mem u)) (merged_at g.order p x)
  merged_is = merge_congr g.order p (merged_at g.order p x) (mem x) (union in_inner_rest (mem u)) (λ w ww. regions (mem x w) (mem u w) (corner.inside w ww)) merged_merge
    where
      regions : (a b : Bool) → (b ≡ true → a ≡ true) → a ≡ ((a && not b) || b)
      regions a b h = grind arith

  pub iso_a : (q : List (List ℕ)) → IsMerge g.order p (union in_outer_rest (mem u)) q → Isomorphism g (kept_at g.order p x) q (λ w. cond (in_outer_rest w) t w) map_a
  iso_a q m = exchange_kept g stage.graph p stage.list.partition stage.covered (mem x) (mem u) (mem v) s t corner (kept_at g.order p x) q kept_is m

  pub iso_b : (q : List (List ℕ)) → IsMerge g.order p (union in_inner_rest (mem v)) q → Isomorphism g (merged_at g.order p x) q (λ w. cond (in_inner_rest w) s w) map_b
  iso_b q m = exchange_merged g stage.graph p stage.list.partition stage.covered (mem x) (mem u) (mem v) s t corner (merged_at g.order p x) q merged_is m
