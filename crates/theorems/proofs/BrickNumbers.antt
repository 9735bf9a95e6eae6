-- The numbers of bricks and of braces.
-- Idea: any two derivations count alike, since their leaves are paired; a derivation that begins
-- with a given cut counts what the trees of the two sides count; and all leaves are bipartite if
-- and only if the graph is, by induction on the tree.
use Rattle.tree_check.proofs.from_counting.Common.{◌≡◌, ◌∙◌, ◌↔◌, ℕ, ◌+◌, ◌*◌, ◌≤◌, List, refl, sym, ap, arith, AllByRecursion, mem}
use Rattle.bench_top.proofs.from_mcg6_lines.Counts.{same_counts}
use Rattle.graph_core.proofs.Common.{complement_of-rises, mem-complement_of, complement-tight, singles-partition, IsCovered, Graph, IsBipartite, IsGraph, IsMultigraph, IsPartition, complement_of, singles, quotient}
use Rattle.bench_top.specs.from_mcg6_lines.Standings.{IsCounted}
use Rattle.tree_core.specs.declared.tallies.Tally.{Tally}
use Rattle.theorems.proofs.LeafKindLists.{HasSides, all-joined, all-separated, count-from_sides, kinds-in_order, sides-from_count, tally-exists, tally-sum}
use Rattle.theorems.proofs.PartitionSides.{HasSideAt, bipartite-from_side, side-from_bipartite}
use Rattle.theorems.proofs.PickedDerivations.{some-tree}
use Rattle.theorems.proofs.QuotientCounts.{cut-counted, quotient-counts}
use Rattle.theorems.proofs.SidesAcrossCuts.{shore-member, shore-merge, side-kept, sides-pasted}
use Rattle.theorems.specs.Derivations.{IsCountedAt, both}
use Rattle.tree_core.proofs.Common.{few-leaves, kept-covers, kept-partition, merged-covers, merged-partition, root-covered, partitions-leaves, shore-cut, length-leaves_at, IsCutAt, IsDerivationAt, IsTightShore, kept_at, merged_at, leaves, leaves_at, Shape, cut, leaf, bipartite_from_singles, singles_from_bipartite}

-- some derivation counts, and each other one counts the same
pub one-count : (g : Graph) → IsGraph g → IsCovered g → (tally : Tally) × IsCounted g tally × ((other : Tally) → IsCounted g other → other ≡ tally)
one-count g is covered =
    let t = some-tree g is covered in
    let tally = tally-exists g is (leaves g.order t.0) (partitions-leaves g t.0 t.1) in
    let counted : IsCounted g tally.0 = record { tree = t.0; derivation = t.1; counts = tally.1 } in
    (tally.0, counted, λ other found. same_counts g other tally.0 is found counted)

pub count-sum : (g : Graph) (tally : Tally) → IsCounted g tally → tally.bricks + tally.braces ≡ tally.leaves
count-sum g tally counted = (tally-sum g (leaves g.order counted.tree) tally counted.counts).0

pub few-counted : (g : Graph) (tally : Tally) → IsGraph g → IsCounted g tally → 4 ≤ g.order → 2 * tally.leaves + 2 ≤ g.order
few-counted g tally is counted four = grind (arith, few-leaves, length-leaves_at, singles, tally-sum, leaves)

-- the count of a graph is the sum of those of both contractions
counted-kept : (g : Graph) (x : List ℕ) (a : Tally) → IsGraph g → IsCovered g → IsTightShore g x → IsCounted (quotient g (kept_at g.order (singles g.order) x)) a → IsCountedAt g (kept_at g.order (singles g.order) x) a
counted-kept g x a is covered shore counted = grind (arith, singles, singles-partition, shore-cut, quotient-counts, kept_at, kept-partition, kept-covers, root-covered)

counted-merged : (g : Graph) (x : List ℕ) (b : Tally) → IsGraph g → IsCovered g → IsTightShore g x → IsCounted (quotient g (merged_at g.order (singles g.order) x)) b → IsCountedAt g (merged_at g.order (singles g.order) x) b
counted-merged g x b is covered shore counted = grind (arith, singles, singles-partition, shore-cut, quotient-counts, merged_at, merged-partition, merged-covers, root-covered)

pub sum-over_cut : (g : Graph) (x : List ℕ) (s a b : Tally) → IsGraph g → IsTightShore g x → IsCounted g s → IsCounted (quotient g (kept_at g.order (singles g.order) x)) a → IsCounted (quotient g (merged_at g.order (singles g.order) x)) b → s ≡ both a b
sum-over_cut g x s a b is shore counted one two =
    let covered = counted.derivation.covered in
    same_counts g s (both a b) is counted
    (cut-counted g x a b covered (shore-cut g x is shore) (counted-kept g x a is covered shore one) (counted-merged g x b is covered shore two))

-- sides at a cut and below it
module _ (g : Graph) (is : IsGraph g) (p : List (List ℕ)) (x : List ℕ) (pp : IsPartition g.order p) (cuts : IsCutAt g p x) (covered : IsCovered (quotient g p)) where
  abbrev rest : List ℕ
  rest = complement_of g.order x

  sides-down : HasSideAt g p → HasSideAt g (kept_at g.order p x) × HasSideAt g (merged_at g.order p x)
  sides-down side = (
    side-kept g is p pp.partition rest (complement_of-rises g.order x) (complement-tight g is p pp.partition x cuts.tight) covered side,
    side-kept g is p pp.partition x cuts.set cuts.tight covered side,
  )

  sides-up : HasSideAt g (kept_at g.order p x) → HasSideAt g (merged_at g.order p x) → HasSideAt g p
  sides-up kept others =
      let turned = complement-tight g is p pp.partition x cuts.tight in
      let rises = complement_of-rises g.order x in
      sides-pasted g is p (merged_at g.order p x) (kept_at g.order p x) (mem x) (mem rest) pp.partition cuts.tight.union turned.union
      (shore-merge g is p pp.partition x cuts.set cuts.tight) (shore-merge g is p pp.partition rest rises turned) (λ v w. mem-complement_of g.order x v w)
      (shore-member g is p pp.partition x cuts.set cuts.tight) (shore-member g is p pp.partition rest rises turned) kept others

-- all leaves are bipartite if and only if the quotient at the root is
module _ (g : Graph) (is : IsGraph g) where
  leaves-two : (p : List (List ℕ)) (t : Shape) → IsPartition g.order p → IsCovered (quotient g p) → IsDerivationAt g p t → HasSideAt g p → AllByRecursion (HasSides g) (leaves_at g.order p t)
  leaves-two p leaf pp covered derives side = (bipartite-from_side g is p pp.partition side, tt)
  leaves-two p (cut x k m) pp covered derives side =
      let cuts = derives.0 in
      let below = sides-down g is p x pp cuts covered side in
      all-joined (HasSides g) (leaves_at g.order (kept_at g.order p x) k) (leaves_at g.order (merged_at g.order p x) m)
      (leaves-two (kept_at g.order p x) k (kept-partition g p x is pp cuts) (kept-covers g p x is pp cuts covered) derives.1 below.0)
      (leaves-two (merged_at g.order p x) m (merged-partition g p x is pp cuts) (merged-covers g p x is pp cuts covered) derives.2 below.1)

  two-from_leaves : (p : List (List ℕ)) (t : Shape) → IsPartition g.order p → IsCovered (quotient g p) → IsDerivationAt g p t → AllByRecursion (HasSides g) (leaves_at g.order p t) → HasSideAt g p
  two-from_leaves p leaf pp covered derives all = side-from_bipartite g is p pp.partition all.0
  two-from_leaves p (cut x k m) pp covered derives all =
      let cuts = derives.0 in
      let parts = all-separated (HasSides g) (leaves_at g.order (kept_at g.order p x) k) (leaves_at g.order (merged_at g.order p x) m) all in
      sides-up g is p x pp cuts covered
      (two-from_leaves (kept_at g.order p x) k (kept-partition g p x is pp cuts) (kept-covers g p x is pp cuts covered) derives.1 parts.0)
      (two-from_leaves (merged_at g.order p x) m (merged-partition g p x is pp cuts) (merged-covers g p x is pp cuts covered) derives.2 parts.1)

pub no-brick : (g : Graph) (tally : Tally) → IsMultigraph g → IsCounted g tally → (tally.bricks ≡ 0) ↔ IsBipartite g
no-brick g tally is counted =
    let p = singles g.order in
    let pp = singles-partition g.order in
    let derives = counted.derivation.derives in
    let covered = root-covered g p is.ends refl counted.derivation.covered in
    let ps = leaves g.order counted.tree in
    let kinds = kinds-in_order g ps counted.counts.kinds counted.counts.right in
    let bricks = ap (λ (t : Tally). t.bricks) counted.counts.is in (
      λ none. bipartite_from_singles g is (bipartite-from_side g is.ends p pp.partition (two-from_leaves g is.ends p counted.tree pp covered derives (sides-from_count g ps counted.counts.kinds kinds (sym bricks ∙ none)))),
      λ sides. bricks ∙ count-from_sides g ps counted.counts.kinds kinds (leaves-two g is.ends p counted.tree pp covered derives (side-from_bipartite g is.ends p pp.partition (singles_from_bipartite g is sides))),
    )
