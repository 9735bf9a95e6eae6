-- What the test of one cut answers: the cut is tight, or a perfect matching crosses it more than
-- once.
-- Stated by: tight_cuts. Used by: tree_check.
use Rattle.std.specs.Prelude.{◌≡◌, ℕ, ◌<◌, ◌≤◌, ◌==◌, ◌||◌, true}
use Rattle.graph_core.specs.from_counting.Common.{Within, Set, none, mem}
use Rattle.graph_core.specs.Common.{Graph, edges_in_cut, first_end, in_cut, second_end, size, IsEnd, IsPerfect, Together, IsTight}
use Rattle.barrier_kit.specs.from_match_core.Common.{IsOf, MatchingValue, RowsValue, are_partners, edges_of}
use Rattle.tight_cuts.specs.declared.tightness.Tightness.{Tightness}
use Rattle.tight_cuts.specs.declared.tightness.Tightness.TheVariants.{Tight, Crossed}

-- a perfect matching of g with at least two edges in the cut of x
pub record CrossesTwice (g : Graph) (x : Set) (m : MatchingValue) : Type 0 where
  pub of : IsOf g m
  pub perfect : IsPerfect g none (mem (edges_of m))
  pub twice : 2 ≤ edges_in_cut g (mem (edges_of m)) x

-- the answer on the cut of x is right: it is tight, or it is not and a perfect matching shows it
abbrev pub IsTightness : Graph → Set → Tightness → Type 0
IsTightness g x Tight = IsTight g x
IsTightness g x (Crossed m) = (IsTight g x → ⊥) × CrossesTwice g x m

-- no later edge of the cut of x lies in a perfect matching together with edge e
abbrev pub NoLaterWith : Graph → Set → ℕ → Type 0
NoLaterWith g x e = (f : ℕ) → e < f → f ≤ size g → in_cut g x f ≡ true → Together g e f → ⊥

-- the rows are those of g without the ends of edge e
pub record AreRowsWithout (g : Graph) (e : ℕ) (rows : RowsValue) : Type 0 where
  pub graph : rows.graph ≡ g
  pub removed : (v : ℕ) → mem rows.removed v ≡ ((first_end g e == v) || (second_end g e == v))

-- the ends of edge f are partners in g without r, seen from both of them
abbrev pub AreEndsPartners : Graph → Set → ℕ → Type 0
AreEndsPartners g r f = (are_partners g r (first_end g f) (second_end g f) ≡ true) × (are_partners g r (second_end g f) (first_end g f) ≡ true)

-- edge e leaves x at u: u is in x, and the other end of e is not
pub record Leaves (g : Graph) (x : Set) (u e : ℕ) : Type 0 where
  pub inside : x u ≡ true
  pub end : IsEnd g e u
  pub cut : in_cut g x e ≡ true

-- no perfect matching has an edge that leaves x at u and one that leaves x at a later vertex
abbrev pub LeavesAlone : Graph → Set → ℕ → Type 0
LeavesAlone g x u = (m : Set) (e f v : ℕ) → IsPerfect g none m → Within (size g) e → Within (size g) f → m e ≡ true → m f ≡ true → Leaves g x u e → Leaves g x v f → u < v → ⊥

-- edges leave x at no more than one vertex after u
abbrev pub HasFewLater : Graph → Set → ℕ → Type 0
HasFewLater g x u = (e f v w : ℕ) → Within (size g) e → Within (size g) f → u < v → u < w → Leaves g x v e → Leaves g x w f → v ≡ w

-- h has the vertices and the edges of g, each with its ends; but those that join u to the rest of x
-- may have other ends
pub record IsTurned (g : Graph) (x : Set) (u : ℕ) (h : Graph) : Type 0 where
  pub order : h.order ≡ g.order
  pub long : size h ≡ size g
  pub same : (d : ℕ) → Within (size g) d → (IsEnd g d u → in_cut g x d ≡ true) → (first_end h d ≡ first_end g d) × (second_end h d ≡ second_end g d)
