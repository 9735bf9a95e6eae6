-- Decompositions that visit the places of one graph and list the kinds of their leaves.
-- Stated by: decomposer.
use Rattle.std.specs.Prelude.{◌≡◌, ℕ, ◌+◌, ◌++◌, List}
use Rattle.graph_core.specs.Common.{Graph}
use Rattle.tight_cuts.specs.Common.{Candidate}
use Rattle.tree_core.specs.Common.{AreLeafKinds, IsDerivationAt, PlaceValue, Shape, cut_count, leaves_at}
use Rattle.tree_core.specs.declared.tallies.LeafKind.{LeafKind}
use Rattle.decomposer.specs.Picked.{IsPickedAt}

-- a place of g
abbrev pub IsPlaceOf : Graph → PlaceValue → Type 0
IsPlaceOf g place = place.graph ≡ g

-- the kinds of the leaves of the tree at p are appended
pub record AppendsKinds (g : Graph) (p : List (List ℕ)) (t : Shape) (old new : List LeafKind) : Type 0 where
  pub kinds : List LeafKind
  pub right : AreLeafKinds g (leaves_at g.order p t) kinds
  pub appended : new ≡ old ++ kinds

-- a derivation at a place with so many cuts before it, which is the tree that is picked there; the
-- kinds of its leaves are appended, and so many cuts stand before what follows it
pub record FindsKinds (picks : List Candidate → ℕ → ℕ → Type 0) (place : PlaceValue) (before : ℕ) (old : List LeafKind) (t : Shape) (after : ℕ) (new : List LeafKind) : Type 0 where
  pub derives : IsDerivationAt place.graph place.blocks t
  pub picked : IsPickedAt picks place.graph place.blocks before t
  pub kinds : AppendsKinds place.graph place.blocks t old new
  pub cuts : after ≡ before + cut_count t
