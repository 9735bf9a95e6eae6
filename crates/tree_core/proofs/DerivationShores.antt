-- Each shore of a derivation is a nontrivial tight shore of the graph itself. What is tight at a
-- merged partition was tight before, so down the tree each tight shore is tight in the graph; and
-- a union of blocks has at least as many vertices as blocks.
use Rattle.graph_core.proofs.from_counting.Common.{ℕ, ◌≤◌, ◌&&◌, ◌==◌, List, [], ◌∷◌, ◌++◌, length, All, refl, sym, ap, ◌∙◌, arith, eq-eqb, eqb-true, All-append, and_from, and_parts, count_congr, count_mono, count, mem, Set}
use Rattle.graph_core.proofs.Common.{at_rep, at_place, block_count_rest, count_over, rep, rep_in, rep_place, union_rest, place_in, complement_of-rises, complement-tight, blocks-singles, singles-tight, tight-singles, length-singles, singles-partition, IsCovered, Graph, IsGraph, AreBlocks, IsPartition, complement_of, place, singles, quotient, IsTightAt, IsUnion, block_count, blocks_in, IsNontrivial, IsTight}
use Rattle.contraction.proofs.MergedQuotients.{tight-before}
use Rattle.tree_core.proofs.CutsBelow.{kept-covers, kept-partition, merged-covers, merged-partition, root-covered}
use Rattle.tree_core.proofs.DerivationLeaves.{all-one}
use Rattle.tree_core.specs.Common.{IsCutAt, IsDerivation, IsDerivationAt, IsTightShore, kept_at, merged_at, Shape, leaf, cut, shores}

-- a union of blocks has at least as many vertices as blocks: each block has a first vertex
pub blocks-few : (n : ℕ) (p : List (List ℕ)) → AreBlocks n p → (x : Set) → IsUnion n p x → block_count p x ≤ count n x
blocks-few n p pp x union =
    let firsts : Set = λ v. x v && (rep p (place p v) == v) in
    let same = count_over (length p) n (blocks_in p x) firsts (rep p) (place p)
    (λ i w held. (
      (rep_in n p pp i w).0,
      and_from (x (rep p i)) (rep p (place p (rep p i)) == rep p i) (sym (at_rep n p pp x union i w) ∙ held)
          (eq-eqb (rep p (place p (rep p i))) (rep p i) (ap (rep p) (rep_place n p pp i w))),
      rep_place n p pp i w,
    ))
    (λ v w held. let parts = and_parts (x v) (rep p (place p v) == v) held in (
      (place_in n p pp v w).0,
      at_place n p pp x union v w ∙ parts.0,
      eqb-true (rep p (place p v)) v parts.1,
    )) in
    let fewer = count_mono n firsts x (λ v w held. (and_parts (x v) (rep p (place p v) == v) held).0) in
    omega arith

-- so what has three blocks inside and outside has three vertices inside and outside
pub nontrivial-vertices : (n : ℕ) (p : List (List ℕ)) → AreBlocks n p → (x : Set) → IsUnion n p x → IsNontrivial (length p) (blocks_in p x) → IsNontrivial n x
nontrivial-vertices n p pp x union t = grind (arith, blocks-few, union_rest, block_count_rest)

-- the cuts that a derivation may name at the single vertices are the canonical nontrivial tight
-- shores
pub cut-shore : (g : Graph) (x : List ℕ) → IsGraph g → IsCutAt g (singles g.order) x → IsTightShore g x
cut-shore g x is cuts = record {
  set = cuts.set;
  tight = tight-singles g (mem x) is cuts.tight;
  nontrivial = nontrivial-vertices g.order (singles g.order) (singles-partition g.order).partition (mem x) cuts.tight.union cuts.nontrivial;
  canonical = cuts.canonical;
}

pub shore-cut : (g : Graph) (x : List ℕ) → IsGraph g → IsTightShore g x → IsCutAt g (singles g.order) x
shore-cut g x is shore = grind (arith, length-singles, count_congr, blocks-singles, singles-tight g (mem x) is shore.tight)

-- what is tight at p is tight in the graph
abbrev pub TightAbove : Graph → List (List ℕ) → Type 0
TightAbove g p = (y : Set) → IsTightAt g p y → IsTight g y

shores-at : (g : Graph) (p : List (List ℕ)) (t : Shape) → IsGraph g → IsPartition g.order p → IsCovered (quotient g p) → TightAbove g p → IsDerivationAt g p t → All (IsTightShore g) (shores t)
shores-at g p leaf is pp covered above derives = λ k d less. absurd (omega arith)
shores-at g p (cut x k m) is pp covered above derives =
    let cuts = derives.0 in
    let rest = complement_of g.order x in
    let here : IsTightShore g x = record {
      set = cuts.set;
      tight = above (mem x) cuts.tight;
      nontrivial = nontrivial-vertices g.order p pp.partition (mem x) cuts.tight.union cuts.nontrivial;
      canonical = cuts.canonical;
    } in
    All-append (IsTightShore g) (x ∷ []) (shores k ++ shores m) (all-one (IsTightShore g) x here)
    (All-append (IsTightShore g) (shores k) (shores m)
    (shores-at g (kept_at g.order p x) k is (kept-partition g p x is pp cuts) (kept-covers g p x is pp cuts covered)
    (λ y tight. above y (tight-before g p rest is pp.partition (complement_of-rises g.order x) (complement-tight g is p pp.partition x cuts.tight) covered y tight)) derives.1)
    (shores-at g (merged_at g.order p x) m is (merged-partition g p x is pp cuts) (merged-covers g p x is pp cuts covered)
    (λ y tight. above y (tight-before g p x is pp.partition cuts.set cuts.tight covered y tight)) derives.2))

pub tight-shores : (g : Graph) (t : Shape) → IsGraph g → IsDerivation g t → All (IsTightShore g) (shores t)
tight-shores g t is derives =
    shores-at g (singles g.order) t is (singles-partition g.order) (root-covered g (singles g.order) is refl derives.covered) (λ y tight. tight-singles g y is tight) derives.derives
