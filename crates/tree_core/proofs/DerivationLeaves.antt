-- The leaves of a derivation, by induction down the tree: the partition at each is one, since
-- merging keeps partitions, and no nontrivial shore is tight there.
use Rattle.std.proofs.Common.{ℕ, List, [], ◌∷◌, All, arith}
use Rattle.std.proofs.lemmas.List.Elements.{All-append}
use Rattle.graph_core.proofs.Common.{Graph, IsPartition, singles, singles-partition}
use Rattle.tree_core.specs.Common.{Shape, leaf, cut, IsDerivationAt, IsDerivation, IsLeafAt, kept_at, merged_at, leaves_at, leaves}
use Rattle.tree_core.proofs.DerivationStands.{cut-nonempty, cut-below, partition-merged, partition-kept}

-- of the one item of a list
pub all-one : {A : Type 0} (P : A → Type 0) (x : A) → P x → All P (x ∷ [])
all-one P x is h d less = grind arith

pub partitions-leaves_at : (g : Graph) (p : List (List ℕ)) (t : Shape) → IsPartition g.order p → IsDerivationAt g p t → All (IsPartition g.order) (leaves_at g.order p t)
partitions-leaves_at g p leaf is derives = all-one (IsPartition g.order) p is
partitions-leaves_at g p (cut x k m) is derives =
    let cuts = derives.0 in
    let some = cut-nonempty g p x is cuts in
    All-append (IsPartition g.order) (leaves_at g.order (kept_at g.order p x) k) (leaves_at g.order (merged_at g.order p x) m)
    (partitions-leaves_at g (kept_at g.order p x) k (partition-kept g.order p x is cuts.set some (cut-below g p x cuts) cuts.tight.union) derives.1)
    (partitions-leaves_at g (merged_at g.order p x) m (partition-merged g.order p x is cuts.set some cuts.tight.union) derives.2)

uncut-leaves_at : (g : Graph) (p : List (List ℕ)) (t : Shape) → IsDerivationAt g p t → All (IsLeafAt g) (leaves_at g.order p t)
uncut-leaves_at g p leaf derives = all-one (IsLeafAt g) p derives
uncut-leaves_at g p (cut x k m) derives =
    All-append (IsLeafAt g) (leaves_at g.order (kept_at g.order p x) k) (leaves_at g.order (merged_at g.order p x) m)
    (uncut-leaves_at g (kept_at g.order p x) k derives.1)
    (uncut-leaves_at g (merged_at g.order p x) m derives.2)

pub partitions-leaves : (g : Graph) (t : Shape) → IsDerivation g t → All (IsPartition g.order) (leaves g.order t)
partitions-leaves g t is = partitions-leaves_at g (singles g.order) t (singles-partition g.order) is.derives

pub uncut-leaves : (g : Graph) (t : Shape) → IsDerivation g t → All (IsLeafAt g) (leaves g.order t)
uncut-leaves g t is = uncut-leaves_at g (singles g.order) t is.derives
