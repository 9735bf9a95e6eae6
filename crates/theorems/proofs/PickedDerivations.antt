-- A matching covered graph has a derivation, whatever rule picks the cuts.
-- Idea: if no candidate is left, the node is a leaf; else the picked candidate is a cut, and
-- both partitions below it have fewer blocks.
use Rattle.std.proofs.Common.{[], ◌≡◌, ℕ, zero, suc, ◌+◌, ◌<◌, ◌≤◌, List, ◌∷◌, length, get_or, refl, ap, arith}
use Rattle.std.proofs.lemmas.Option.{slice_get-get_or}
use Rattle.bench_tasks.proofs.from_decomposer.Picking.{cut-from_candidate}
use Rattle.bench_tasks.specs.from_decomposer.Common.{NamedPicks, IsPicked, IsPickedAt}
use Rattle.bench_tasks.specs.from_decomposer.declared.orders.NamedOrder.TheVariants.{First}
use Rattle.graph_core.proofs.Common.{singles-partition, IsCovered, Graph, IsGraph, IsPartition, singles, quotient}
use Rattle.theorems.specs.Derivations.{ChoosesPlaces, PicksChosen}
use Rattle.tree_check.proofs.from_tight_cuts.PartitionCandidates.{found-at, none-at}
use Rattle.tree_check.specs.from_tight_cuts.Common.{Candidate, candidates_at}
use Rattle.tree_core.proofs.Common.{blocks-below, kept-covers, kept-length, kept-partition, merged-covers, merged-length, merged-partition, root-covered, shore-cut, IsCutAt, IsDerivation, IsDerivationAt, IsLeafAt, IsTightShore, kept_at, merged_at, Shape, cut, cut_count, leaf}

-- of each nonempty list, whatever the number, the rule picks a place of the list
abbrev pub PicksSome : (List Candidate → ℕ → ℕ → Type 0) → Type 0
PicksSome picks = (list : List Candidate) (k : ℕ) → 0 < length list → (place : ℕ) × picks list k place × (place < length list)

-- no candidate: a leaf
uncut : (g : Graph) (p : List (List ℕ)) → IsGraph g → IsPartition g.order p → IsCovered (quotient g p) → candidates_at g p ≡ [] → IsLeafAt g p
unfolding IsLeafAt
uncut g p is pp covered none = (none-at g p is pp covered).0 none

-- the partitions below a cut have fewer blocks
module _ (g : Graph) (p : List (List ℕ)) (x : List ℕ) (is : IsGraph g) (pp : IsPartition g.order p) (cuts : IsCutAt g p x) where
  room : (4 ≤ length (kept_at g.order p x)) × (4 ≤ length (merged_at g.order p x)) × (length (kept_at g.order p x) + length (merged_at g.order p x) ≡ length p + 2)
  room = blocks-below g p x _ _ cuts (kept-length g p x is pp cuts) (merged-length g p x is pp cuts)

  pub kept-fewer : length (kept_at g.order p x) < length p
  kept-fewer = let some = room.1 in let sum = room.2 in omega arith

  pub merged-fewer : length (merged_at g.order p x) < length p
  merged-fewer = let some = room.0 in let sum = room.2 in omega arith

module _ (picks : List Candidate → ℕ → ℕ → Type 0) (some : PicksSome picks) (g : Graph) (is : IsGraph g) where
  pub picked_at : (fuel : ℕ) (p : List (List ℕ)) (k : ℕ) → IsPartition g.order p → IsCovered (quotient g p) → length p < fuel → (t : Shape) × IsDerivationAt g p t × IsPickedAt picks g p k t
  picked_at zero p k pp covered less = absurd (omega arith)
  picked_at (suc fuel) p k pp covered less = go (λ q j. picked_at fuel q j) (candidates_at g p) refl
    where
      go : ((q : List (List ℕ)) (j : ℕ) → IsPartition g.order q → IsCovered (quotient g q) → length q < fuel → (t : Shape) × IsDerivationAt g q t × IsPickedAt picks g q j t) →
          (list : List Candidate) → candidates_at g p ≡ list → (t : Shape) × IsDerivationAt g p t × IsPickedAt picks g p k t
      go below [] e = (leaf, uncut g p is pp covered e, e)
      go below (c ∷ list) e =
          let e2 = ap length e in
          let choice = some (candidates_at g p) k (omega arith) in
          let d = get_or (candidates_at g p) choice.0 c in
          let cuts = cut-from_candidate g p d (found-at g p is pp covered choice.0 c choice.2) in
          let x = d.shore in
          let fewer = kept-fewer g p x is pp cuts in
          let fewer2 = merged-fewer g p x is pp cuts in
          let kept = below (kept_at g.order p x) (k + 1) (kept-partition g p x is pp cuts) (kept-covers g p x is pp cuts covered) (omega arith) in
          let merged = below (merged_at g.order p x) (k + 1 + cut_count kept.0) (merged-partition g p x is pp cuts) (merged-covers g p x is pp cuts covered) (omega arith) in (
            cut x kept.0 merged.0,
            (cuts, kept.1, merged.1),
            ((choice.0, d, choice.1, slice_get-get_or (candidates_at g p) choice.0 c choice.2, refl), kept.2, merged.2),
          )

  pub picked-tree : IsCovered g → (t : Shape) × IsDerivation g t × IsPicked picks g t
  picked-tree covered =
      let t = picked_at (length (singles g.order) + 1) (singles g.order) 0 (singles-partition g.order) (root-covered g (singles g.order) is refl covered) (omega arith) in
      (t.0, record { covered = covered; derives = t.1 }, t.2)

-- a rule that chooses places
pub chosen-tree : (choose : List Candidate → ℕ → ℕ) (g : Graph) → ChoosesPlaces choose → IsGraph g → IsCovered g → (t : Shape) × IsDerivation g t × IsPicked (PicksChosen choose) g t
chosen-tree choose g places is covered = picked-tree (PicksChosen choose) (λ list k some. (choose list k, refl, places list k some)) g is covered

-- the first place
pub first-some : PicksSome (NamedPicks First)
first-some list k some = (0, refl, some)

pub some-tree_at : (g : Graph) (p : List (List ℕ)) → IsGraph g → IsPartition g.order p → IsCovered (quotient g p) → (t : Shape) × IsDerivationAt g p t
some-tree_at g p is pp covered = let t = picked_at (NamedPicks First) first-some g is (length p + 1) p 0 pp covered (omega arith) in (t.0, t.1)

pub some-tree : (g : Graph) → IsGraph g → IsCovered g → (t : Shape) × IsDerivation g t
some-tree g is covered = let t = picked-tree (NamedPicks First) first-some g is covered in (t.0, t.1)

-- a derivation that begins with a given cut
pub first-tree : (g : Graph) (y : List ℕ) → IsGraph g → IsCovered g → IsTightShore g y → (a : Shape) × (b : Shape) × IsDerivation g (cut y a b)
first-tree g y is covered tight =
    let p = singles g.order in
    let pp = singles-partition g.order in
    let above = root-covered g p is refl covered in
    let cuts = shore-cut g y is tight in
    let a = some-tree_at g (kept_at g.order p y) is (kept-partition g p y is pp cuts) (kept-covers g p y is pp cuts above) in
    let b = some-tree_at g (merged_at g.order p y) is (merged-partition g p y is pp cuts) (merged-covers g p y is pp cuts above) in
    (a.0, b.0, record { covered = covered; derives = (cuts, a.1, b.1) })
