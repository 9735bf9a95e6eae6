-- The first refusal of a tree of cuts: the first node in preorder that breaks a rule of
-- derivations, and the first rule that it breaks. At a cut the rules are that the shore is a
-- union of blocks, has an odd number of them, at least three inside and outside, and is tight
-- (Lovász 1987); at a leaf, that there is no nontrivial tight cut.
-- Stated by: tree_check, bench_reports, theorems. Used by: bench_outcomes, bench_top.
use Rattle.std.specs.Prelude.{◌≡◌, ◌⊎◌, ℕ, ◌+◌, ◌-◌, ◌≤◌, true, false, List, [], length, Some}
use Rattle.graph_core.specs.from_counting.Common.{is_odd, mem, IsRisingIn, Set}
use Rattle.graph_core.specs.Common.{IsCovered, Graph, edges_in_cut, size, IsPerfectAt, singles, IsUnion, block_count, blocks_in, IsNontrivial}
use Rattle.tight_cuts.specs.Common.{first_shore, candidates_at}
use Rattle.tree_core.specs.Common.{IsCutAt, IsDerivationAt, kept_at, merged_at, Shape, leaf, cut, node_count}

-- why a node is refused, with what shows it
pub data Why : Type 0 where
  not_blocks : Why
  even : Why
  trivial : Why
  not_tight : (matching : List ℕ) → Why
  not_leaf : (shore : List ℕ) → Why

-- the numbers of the reasons
abbrev pub why_number : Why → ℕ
why_number not_blocks = 1
why_number even = 2
why_number trivial = 3
why_number (not_tight m) = 4
why_number (not_leaf c) = 5

-- a reason without the matching that it shows: any that crosses the cut may be shown
abbrev pub without_matching : Why → Why
without_matching not_blocks = not_blocks
without_matching even = even
without_matching trivial = trivial
without_matching (not_tight m) = not_tight []
without_matching (not_leaf c) = not_leaf c

-- edges of g in rising order that are a perfect matching at p with at least two edges in the cut
-- of x
pub record CrossesAt (g : Graph) (p : List (List ℕ)) (x : Set) (m : List ℕ) : Type 0 where
  pub rising : IsRisingIn (size g) m
  pub perfect : IsPerfectAt g p (mem m)
  pub twice : 2 ≤ edges_in_cut g (mem m) x

-- the first rule that a cut with the shore x breaks at p: each reason says that the rules before
-- it are kept
abbrev pub BreaksCut : Graph → List (List ℕ) → Set → Why → Type 0
BreaksCut g p x not_blocks = IsUnion g.order p x → ⊥
BreaksCut g p x even = IsUnion g.order p x × (is_odd (block_count p x) ≡ false)
BreaksCut g p x trivial = IsUnion g.order p x × (is_odd (block_count p x) ≡ true) × (IsNontrivial (length p) (blocks_in p x) → ⊥)
BreaksCut g p x (not_tight m) = IsUnion g.order p x × (is_odd (block_count p x) ≡ true) × IsNontrivial (length p) (blocks_in p x) × CrossesAt g p x m
BreaksCut g p x (not_leaf c) = ⊥

-- the rule that a leaf breaks at p: there is a candidate, and the shore of the first is shown
abbrev pub BreaksLeaf : Graph → List (List ℕ) → Why → Type 0
BreaksLeaf g p not_blocks = ⊥
BreaksLeaf g p even = ⊥
BreaksLeaf g p trivial = ⊥
BreaksLeaf g p (not_tight m) = ⊥
BreaksLeaf g p (not_leaf c) = first_shore (candidates_at g p) ≡ Some c

-- the shores of the tree are sets of numbers below n, as rising lists
abbrev pub HasShores : ℕ → Shape → Type 0
HasShores n leaf = Unit {0}
HasShores n (cut x k m) = IsRisingIn (n - 1) x × HasShores n k × HasShores n m

-- the first node in preorder, counted from 1, of the tree at p that breaks a rule, and the first
-- rule that it breaks: the node itself, or one in the `kept` tree, or one in the `merged` tree
-- if the `kept` one is a derivation
abbrev pub IsRefusedAt : Graph → List (List ℕ) → Shape → ℕ → Why → Type 0
IsRefusedAt g p leaf node why = (node ≡ 1) × BreaksLeaf g p why
IsRefusedAt g p (cut x k m) node why =
    ((node ≡ 1) × BreaksCut g p (mem x) why)
    ⊎ ((IsCutAt g p x × ((j : ℕ) × (node ≡ 1 + j) × IsRefusedAt g (kept_at g.order p x) k j why))
    ⊎ (IsCutAt g p x × IsDerivationAt g (kept_at g.order p x) k × ((j : ℕ) × (node ≡ 1 + node_count k + j) × IsRefusedAt g (merged_at g.order p x) m j why)))

-- the first refusal of a tree of a matching covered graph
pub record IsRefused (g : Graph) (t : Shape) (node : ℕ) (why : Why) : Type 0 where
  pub covered : IsCovered g
  pub refused : IsRefusedAt g (singles g.order) t node why
