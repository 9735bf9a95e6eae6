-- Families of tight cuts of which no two cross, trees of tight cuts, and pairings of their leaves
-- (Lovász 1987; Lucchesi and Murty, "Perfect Matchings"). A cut is given by its canonical shore,
-- the one without the greatest vertex.
-- Stated by: theorems.
use Rattle.std.specs.Prelude.{◌≡◌, ℕ, ◌≤◌, Bool, true, false, List, [], ◌∷◌, length}
use Rattle.tree_check.specs.from_counting.Common.{Within, IsIn, mem, Set, complement, every, none, some_set}
use Rattle.graph_core.specs.Common.{Graph, IsMultigraph, IsSimple, adjacent, edges_in_cut, in_cut, size, IsPerfectAt, blocks_adjacent, IsUnion, block_count}
use Rattle.tree_core.specs.Common.{IsTightShore, kept_at, merged_at, leaf_at, Shape, cut, leaf}

-- the cuts of x and y cross: none of the four corners x ∩ y, x − y, y − x and the complement of
-- x ∪ y in {1, .., n} is empty
pub record Cross (n : ℕ) (x y : Set) : Type 0 where
  pub both : (v : ℕ) × Within n v × (x v ≡ true) × (y v ≡ true)
  pub first : (v : ℕ) × Within n v × (x v ≡ true) × (y v ≡ false)
  pub second : (v : ℕ) × Within n v × (x v ≡ false) × (y v ≡ true)
  pub neither : (v : ℕ) × Within n v × (x v ≡ false) × (y v ≡ false)

-- a maximal family f of nontrivial tight cuts of which no two cross, given by their canonical
-- shores: a cut that crosses none of f is in f
pub record IsMaximalLaminar (g : Graph) (f : List (List ℕ)) : Type 0 where
  pub cuts : (x : List ℕ) → IsIn x f → IsTightShore g x
  pub laminar : (x y : List ℕ) → IsIn x f → IsIn y f → ¬ Cross g.order (mem x) (mem y)
  pub maximal : (y : List ℕ) → IsTightShore g y → ((x : List ℕ) → IsIn x f → ¬ Cross g.order (mem x) (mem y)) → IsIn y f

-- no item stands twice in the list
abbrev pub AreDistinct : {A : Type 0} → List A → Type 0
AreDistinct [] = Unit {0}
AreDistinct (x ∷ xs) = (¬ IsIn x xs) × AreDistinct xs

-- a nontrivial tight cut of the graph at the stage p, where each block of p is one vertex: x is a
-- union of blocks, at least three are inside and at least three outside, and |m ∩ ∂(x)| = 1 for
-- each perfect matching m of the stage
pub record IsTightCutAt (g : Graph) (p : List (List ℕ)) (x : Set) : Type 0 where
  pub union : IsUnion g.order p x
  pub inside : 3 ≤ block_count p x
  pub outside : 3 ≤ block_count p (complement x)
  pub once : (m : Set) → IsPerfectAt g p m → edges_in_cut g m x ≡ 1

-- a tree of nontrivial tight cuts from the stage p on: below a cut each side is made one block in
-- turn, and where the tree ends the stage has no nontrivial tight cut
abbrev pub IsTightCutTreeAt : Graph → List (List ℕ) → Shape → Type 0
IsTightCutTreeAt g p leaf = (x : Set) → ¬ IsTightCutAt g p x
IsTightCutTreeAt g p (cut x kept merged) = IsTightCutAt g p (mem x) × IsTightCutTreeAt g (kept_at g.order p x) kept × IsTightCutTreeAt g (merged_at g.order p x) merged

-- f takes 1 to n one to one onto 1 to m
pub record IsBijection (n m : ℕ) (f : ℕ → ℕ) : Type 0 where
  pub within : (i : ℕ) → Within n i → Within m (f i)
  pub once : (i j : ℕ) → Within n i → Within n j → f i ≡ f j → i ≡ j
  pub onto : (k : ℕ) → Within m k → (i : ℕ) × Within n i × (f i ≡ k)

-- the leaves p and q are one graph up to multiplicities of edges: f is a bijection of their
-- blocks that preserves adjacency
pub record IsSameGraph (g : Graph) (p q : List (List ℕ)) (f : ℕ → ℕ) : Type 0 where
  pub bijection : IsBijection (length p) (length q) f
  pub adjacent : (i j : ℕ) → Within (length p) i → Within (length p) j → blocks_adjacent g p i j ≡ blocks_adjacent g q (f i) (f j)

-- a one-to-one pairing of two lists of leaves, and for each two partners such a bijection
pub record PairsLeaves (g : Graph) (ps qs : List (List (List ℕ))) (partner : ℕ → ℕ) (blocks : ℕ → ℕ → ℕ) : Type 0 where
  pub pairs : IsBijection (length ps) (length qs) partner
  pub same : (i : ℕ) → Within (length ps) i → IsSameGraph g (leaf_at ps i) (leaf_at qs (partner i)) (blocks i)

-- f is an isomorphism of the underlying simple graphs of g and h: a bijection of their vertices
-- that preserves adjacency both ways
pub record IsIsomorphism (g h : Graph) (f : ℕ → ℕ) : Type 0 where
  pub bijection : IsBijection g.order h.order f
  pub edges : (u v : ℕ) → Within g.order u → Within g.order v → adjacent g none u v ≡ adjacent h none (f u) (f v)

-- isomorphic simple graphs pass the test alike
abbrev pub RespectsIsomorphism : (Graph → Bool) → Type 0
RespectsIsomorphism test = (g h : Graph) (f : ℕ → ℕ) → IsMultigraph g → IsMultigraph h → IsSimple g → IsSimple h → IsIsomorphism g h f → test g ≡ test h

-- bipartite, as a test: some vertex set has all edges in its cut
abbrev pub is_two_sided : Graph → Bool
is_two_sided g = some_set g.order (λ x. every (size g) (in_cut g x))
