-- How the code represents an alternating forest: an inner vertex names its parent, and the path
-- goes on from there by mates.
-- Stated by: match_search. Used by: match_core.
use Rattle.std.specs.Prelude.{◌≢◌, ◌≡◌, ℕ, suc, ◌+◌, ◌≤◌, ◌==◌, ◌&&◌, ◌||◌, ◌⊎◌, not, true, false, length, List, Option, Some, None}
use Rattle.graph_core.specs.from_counting.Common.{Set, mem}
use Rattle.graph_core.specs.Common.{Graph}
use Rattle.match_search.specs.Forests.{IsAlternatingForest}
use Rattle.match_search.specs.Frames.{shrunk_vertex}
use Rattle.match_search.specs.Mates.{HasMates, with_mate}
use Rattle.match_search.specs.Instances.{IsInstance, Touches}
use Rattle.match_search.specs.Rows.{numbers}
use Rattle.match_search.specs.declared.instance.Instance.{Instance}
use Rattle.match_search.specs.declared.alternating.AlternatingForest.{AlternatingForest}
use Rattle.match_search.specs.declared.growing.Adjacent.{Adjacent}

-- the instance is g - r, and the mates are those of a matching f of it
pub record HoldsMatching (g : Graph) (r f : Set) (s : Instance) (mate : List ℕ) : Type 0 where
  pub instance_is : IsInstance g r s
  pub long : length mate ≡ suc g.order
  pub mates : HasMates g r f (numbers mate)

-- the candidates contain each vertex that is left and has no mate
abbrev pub MayBeExposed : List ℕ → List ℕ → List ℕ → Type 0
MayBeExposed left mate candidates = (v : ℕ) → mem left v ≡ true → numbers mate v ≡ 0 → mem candidates v ≡ true

-- the roots are the vertices that are left and have no mate
abbrev pub AreExposed : List ℕ → List ℕ → List ℕ → Type 0
AreExposed left mate roots = (v : ℕ) → mem roots v ≡ (mem left v && (numbers mate v == 0))

-- the length of the row of parents of a forest of n vertices
pub record IsSized (n : ℕ) (t : AlternatingForest) : Type 0 where
  pub parents_long : length t.parent.items ≡ suc n

-- the path up from u: its mate is a child of p, and the path of u is that of p extended by its mate
-- and u
pub record GoesUp (mate : List ℕ) (t : AlternatingForest) (k : ℕ → ℕ) (v : ℕ → ℕ → ℕ) (u p : ℕ) : Type 0 where
  pub parent : numbers t.parent.items (numbers mate u) ≡ p
  pub outer : mem t.outer p ≡ true
  pub pairs : k u ≡ suc (k p)
  pub inner : v u (suc (k p + k p)) ≡ numbers mate u
  pub before : (j : ℕ) → j ≤ k p + k p → v u j ≡ v p j

-- the sets, the parents and the mates are a forest for f in g - r; k, v and e are the numbers of
-- pairs of edges, the vertices and the edges of its paths
pub record HoldsAlternating (g : Graph) (r f : Set) (mate : List ℕ) (t : AlternatingForest) : Type 0 where
  pub k : ℕ → ℕ
  pub v : ℕ → ℕ → ℕ
  pub e : ℕ → ℕ → ℕ
  pub forest : IsAlternatingForest g r f (mem t.outer) (mem t.inner) k v e
  pub parents_long : length t.parent.items ≡ suc g.order
  pub up : (u : ℕ) → mem t.outer u ≡ true → k u ≢ 0 → (p : ℕ) × GoesUp mate t k v u p

-- h is t with these roots, which are outer and active, and no other vertices
pub record HasRestarted (t h : AlternatingForest) (roots : List ℕ) : Type 0 where
  pub outer : h.outer ≡ roots
  pub inner : (v : ℕ) → mem h.inner v ≡ false
  pub active : h.active ≡ roots
  pub parents_long : length h.parent.items ≡ length t.parent.items

-- h is t with an inner vertex y, whose parent is x, and with its mate z as an outer vertex, which
-- is active
pub record HasBranched (t h : AlternatingForest) (x y z : ℕ) : Type 0 where
  pub outer : (v : ℕ) → mem h.outer v ≡ (mem t.outer v || (z == v))
  pub inner : (v : ℕ) → mem h.inner v ≡ (mem t.inner v || (y == v))
  pub active : (v : ℕ) → mem h.active v ≡ (mem t.active v || (z == v))
  pub parents_long : length h.parent.items ≡ length t.parent.items
  pub parent : (v : ℕ) → numbers h.parent.items v ≡ with_mate (numbers t.parent.items) y x v

-- h is t after the members of c were taken out: the base z is outer and active, and the parent of
-- what had a parent in c
pub record HasContracted (t h : AlternatingForest) (c : Set) (z : ℕ) : Type 0 where
  pub outer : (v : ℕ) → mem h.outer v ≡ ((mem t.outer v && not (c v)) || (z == v))
  pub inner : (v : ℕ) → mem h.inner v ≡ (mem t.inner v && not (c v))
  pub active : (v : ℕ) → mem h.active v ≡ ((mem t.active v && not (c v)) || (z == v))
  pub parents_long : length h.parent.items ≡ length t.parent.items
  pub parent : (y : ℕ) → mem h.inner y ≡ true → numbers h.parent.items y ≡ shrunk_vertex c z (numbers t.parent.items y)

-- x is in the set
pub record IsMember (set : List ℕ) (x : ℕ) : Type 0 where
  pub member : mem set x ≡ true

-- x is done: each neighbour of it that is left, except x itself, is inner
abbrev pub IsDone : Instance → AlternatingForest → ℕ → Type 0
IsDone s t x = (y : ℕ) → Touches s x y → mem s.left y ≡ true → x ≢ y → mem t.inner y ≡ true

-- x is settled: each neighbour of it that is left, except x itself, is inner or active
abbrev pub IsSettledVertex : Instance → AlternatingForest → ℕ → Type 0
IsSettledVertex s t x = (y : ℕ) → Touches s x y → mem s.left y ≡ true → x ≢ y → (mem t.inner y ≡ true) ⊎ (mem t.active y ≡ true)

-- the instance is g - r, the mates are those of a matching f of it, and the forest is one for f
-- that can grow on from its active vertices: they are outer, and each other outer vertex is settled
pub record GrowsForest (g : Graph) (r f : Set) (s : Instance) (mate : List ℕ) (t : AlternatingForest) : Type 0 where
  pub matching : HoldsMatching g r f s mate
  pub holds : HoldsAlternating g r f mate t
  pub active_outer : (x : ℕ) → mem t.active x ≡ true → mem t.outer x ≡ true
  pub settled : (x : ℕ) → mem t.outer x ≡ true → mem t.active x ≡ false → IsSettledVertex s t x

-- two different outer vertices of the forest that an edge joins
pub record IsClosingPair (s : Instance) (t : AlternatingForest) (o : Adjacent) : Type 0 where
  pub v_outer : mem t.outer o.v ≡ true
  pub w_outer : mem t.outer o.w ≡ true
  pub different : o.v ≢ o.w
  pub w_left : mem s.left o.w ≡ true
  pub adjacent : Touches s o.v o.w

-- a forest that can grow on, with two outer vertices that an edge joins, or one that no edge leaves
pub record IsGrownForest (g : Graph) (r f : Set) (s : Instance) (mate : List ℕ) (t : AlternatingForest) (closing : Option Adjacent) : Type 0 where
  pub grows : GrowsForest g r f s mate t
  pub done : closing ≡ None → (x : ℕ) → mem t.outer x ≡ true → IsDone s t x
  pub closing_pair : (o : Adjacent) → closing ≡ Some o → IsClosingPair s t o
