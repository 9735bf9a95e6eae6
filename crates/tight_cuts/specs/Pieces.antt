-- Tight cuts through one edge: the pieces of the edge, and the network in which each piece is one
-- node.
-- Stated by: tight_cuts, theorems.
use Rattle.std.specs.Prelude.{◌≡◌, ℕ, zero, suc, ◌≢◌, ◌⊎◌, true, false, List, [], ◌∷◌, ◌++◌, ◌==◌, ◌||◌, cond}
use Rattle.graph_core.specs.from_counting.Common.{Within, Set, none, pair_set, mem}
use Rattle.graph_core.specs.Common.{Graph, size, first_end, second_end, IsPerfect, Together, IsTight, joined}
use Rattle.flow_core.specs.Common.{Arc, Net}
use Rattle.tight_cuts.specs.PairSums.{weight}

-- z is a tight set with a and the first vertex of the pair, and with neither b nor the second
pub record SeparatesTightly (g : Graph) (a b : ℕ) (k : ℕ × ℕ) (z : Set) : Type 0 where
  pub tight : IsTight g z
  pub has_a : z a ≡ true
  pub has_x : z k.0 ≡ true
  pub lacks_b : z b ≡ false
  pub lacks_y : z k.1 ≡ false

-- h has the vertices of g, and for edges some that lie together with e, without e itself; among
-- these are the other edges of some perfect matching that holds e
pub record IsBeside (g : Graph) (e : ℕ) (h : Graph) : Type 0 where
  pub order : h.order ≡ g.order
  pub from : (f : ℕ) → Within (size h) f → (d : ℕ) × Within (size g) d × (d ≢ e) × Together g e d × (first_end h f ≡ first_end g d) × (second_end h f ≡ second_end g d)
  pub base : Set
  pub perfect : IsPerfect g none base
  pub held : base e ≡ true
  pub every : (d : ℕ) → Within (size g) d → d ≢ e → base d ≡ true → (f : ℕ) × Within (size h) f × (first_end h f ≡ first_end g d) × (second_end h f ≡ second_end g d)

-- the arcs of the edges 1 to e that join different groups, with the edges' weights
abbrev pub arcs_of : Graph → List (List ℕ) → (ℕ → ℕ) → ℕ → List Arc
arcs_of g ms group zero = []
arcs_of g ms group (suc e) = arcs_of g ms group e ++ cond (group (first_end g (suc e)) == group (second_end g (suc e))) [] (record { a = group (first_end g (suc e)); b = group (second_end g (suc e)); capacity = weight ms (suc e) } ∷ [])

-- the network on k groups
abbrev pub contracted_net : Graph → List (List ℕ) → (ℕ → ℕ) → ℕ → Net
contracted_net g ms group k = record { nodes = k; arcs = arcs_of g ms group (size g) }

-- v is c, or in the piece of x: its component in h without a and b
abbrev pub in_piece : Graph → (a b : ℕ) → ℕ → ℕ → Set
in_piece h a b c x v = (c == v) || joined h (pair_set a b) x v

-- the vertices in groups, each named by a node 1 to r: a with the piece of k.0 is one and named
-- a, b with the piece of k.1 is one and named b, and each other piece is one
pub record IsGrouping (g h : Graph) (a b : ℕ) (k : ℕ × ℕ) (r : ℕ) (group : ℕ → ℕ) : Type 0 where
  pub nodes : (v : ℕ) → Within g.order v → Within r (group v)
  pub source : (v : ℕ) → Within g.order v → in_piece h a b a k.0 v ≡ true → group v ≡ a
  pub sink : (v : ℕ) → Within g.order v → in_piece h a b b k.1 v ≡ true → group v ≡ b
  pub kept : (u v : ℕ) → Within g.order u → Within g.order v → joined h (pair_set a b) u v ≡ true → group u ≡ group v
  pub apart : (u v : ℕ) → Within g.order u → Within g.order v → group u ≡ group v →
      (joined h (pair_set a b) u v ≡ true)
      ⊎ (((in_piece h a b a k.0 u ≡ true) × (in_piece h a b a k.0 v ≡ true)) ⊎ ((in_piece h a b b k.1 u ≡ true) × (in_piece h a b b k.1 v ≡ true)))

-- the first number of a list
abbrev pub head_or : List ℕ → ℕ → ℕ
head_or [] d = d
head_or (x ∷ xs) d = x

-- the first number of the first list that holds v, and v itself if none does
abbrev pub leader : List (List ℕ) → ℕ → ℕ
leader [] v = v
leader (p ∷ ps) v = cond (mem p v) (head_or p v) (leader ps v)

-- the group of a vertex whose piece is led by l, if x and y lead the pieces of the first and
-- the second vertex
abbrev pub group_of : (a b x y l : ℕ) → ℕ
group_of a b x y l = cond (l == x) a (cond (l == y) b l)
