-- 3-connected graphs, and the two kinds of tight cuts (Edmonds, Lovász and Pulleyblank 1982), which
-- Carvalho, Lucchesi and Murty (2018) call ELP cuts. A barrier cut is given by the barrier, and a
-- 2-separation cut by the cut pair.
-- Stated by: theorems.
use Rattle.std.specs.Prelude.{◌≡◌, ℕ, ◌≤◌, ◌⊎◌, true, false, not}
use Rattle.tree_check.specs.from_counting.Common.{Within, count, Set, pair_set, singleton, union}
use Rattle.graph_core.specs.Common.{Graph, HasPerfect, IsBarrier, IsCutPair, IsNontrivial, IsTight, Joined, joined}

-- 3-connected: at least four vertices, and G − r is connected for each r with |r| ≤ 2
pub record IsThreeConnected (g : Graph) : Type 0 where
  pub four : 4 ≤ g.order
  pub connected : (r : Set) → count g.order r ≤ 2 → (a b : ℕ) → Within g.order a → Within g.order b → r a ≡ false → r b ≡ false → Joined g r a b

-- s is a barrier, and one shore of the cut of x is a component of g without s
pub record IsBarrierCutOf (g : Graph) (x s : Set) : Type 0 where
  pub barrier : IsBarrier g s
  pub vertex : ℕ
  pub within : Within g.order vertex
  pub outside : s vertex ≡ false
  pub same : ((v : ℕ) → Within g.order v → joined g s vertex v ≡ x v) ⊎ ((v : ℕ) → Within g.order v → joined g s vertex v ≡ not (x v))

-- a cut pair without which g has a perfect matching, and a component without it that has, with u,
-- a nontrivial tight cut
pub record SeparationCut (g : Graph) (u v : ℕ) : Type 0 where
  pub pair : IsCutPair g u v
  pub perfect : HasPerfect g (pair_set u v)
  pub vertex : ℕ
  pub within : Within g.order vertex
  pub outside : pair_set u v vertex ≡ false
  pub tight : IsTight g (union (joined g (pair_set u v) vertex) (singleton u))
  pub nontrivial : IsNontrivial g.order (union (joined g (pair_set u v) vertex) (singleton u))

-- {u, v} is a cut pair without which g has a perfect matching, and one shore of the cut of y is a
-- component of g - u - v with u
pub record IsSeparationCutOf (g : Graph) (y : Set) (u v : ℕ) : Type 0 where
  pub pair : IsCutPair g u v
  pub perfect : HasPerfect g (pair_set u v)
  pub vertex : ℕ
  pub within : Within g.order vertex
  pub outside : pair_set u v vertex ≡ false
  pub same : ((w : ℕ) → Within g.order w → union (joined g (pair_set u v) vertex) (singleton u) w ≡ y w) ⊎ ((w : ℕ) → Within g.order w → union (joined g (pair_set u v) vertex) (singleton u) w ≡ not (y w))

-- an ELP cut: a nontrivial tight cut that is a barrier cut or a 2-separation cut
abbrev pub IsElpCut : Graph → Set → Type 0
IsElpCut g y = IsTight g y × IsNontrivial g.order y × (((s : Set) × IsBarrierCutOf g y s) ⊎ ((u : ℕ) × (v : ℕ) × IsSeparationCutOf g y u v))

-- z contains a barrier with at least two vertices, or the shore of a 2-separation cut that is a
-- component with one vertex of the cut pair
abbrev pub HoldsReason : Graph → Set → Type 0
HoldsReason g z =
    ((s : Set) × IsBarrier g s × (2 ≤ count g.order s) × ((v : ℕ) → Within g.order v → s v ≡ true → z v ≡ true)) ⊎
    ((u : ℕ) × (v : ℕ) × (c : SeparationCut g u v) × ((w : ℕ) → Within g.order w → union (joined g (pair_set u v) c.vertex) (singleton u) w ≡ true → z w ≡ true))
