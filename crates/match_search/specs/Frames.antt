-- Frames: why a matching of G - R is maximum, with the vertices that some maximum matching misses
-- (Edmonds 1965; Lovász and Plummer, "Matching Theory", chapters 1 and 3), and the shrinking of a
-- vertex set to one of its vertices.
-- Stated by: match_search. Used by: match_core, theorems.
use Rattle.std.specs.Prelude.{◌≡◌, ℕ, ◌+◌, ◌*◌, ◌≤◌, true, false, List, ◌==◌, nat_lt, ◌&&◌, ◌||◌, not, length, map, cond}
use Rattle.graph_core.specs.from_counting.Common.{Within, bit, count, is_odd, Set, complement, union}
use Rattle.graph_core.specs.Common.{Graph, HasEnds, degree, first_end, second_end, size, with_ends, IsMatching}

-- z if v is in c, otherwise v
abbrev pub shrunk_vertex : Set → ℕ → ℕ → ℕ
shrunk_vertex c z v = cond (c v) z v

-- es is the ends of g with each vertex of c replaced by z: an edge inside c becomes a loop at z
pub record IsShrunk (g : Graph) (c : Set) (z : ℕ) (es : List (ℕ × ℕ)) : Type 0 where
  pub same : length es ≡ size g
  pub first_ends : (e : ℕ) → Within (size g) e → first_end (with_ends g es) e ≡ shrunk_vertex c z (first_end g e)
  pub second_ends : (e : ℕ) → Within (size g) e → second_end (with_ends g es) e ≡ shrunk_vertex c z (second_end g e)

-- the ends of g with each vertex of c replaced by z
abbrev pub shrunk_ends : Graph → Set → ℕ → List (ℕ × ℕ)
shrunk_ends g c z = map (λ d. (shrunk_vertex c z d.0, shrunk_vertex c z d.1)) g.ends

-- the vertices removed after the shrinking: r, and c except z
abbrev pub shrunk_removed : Set → Set → ℕ → Set
shrunk_removed r c z v = r v || (c v && not (v == z))

-- the edges of e meet each vertex of c except t exactly once, and no other vertex: a near-perfect
-- matching of c
pub record IsNearPerfect (g : Graph) (c : Set) (t : ℕ) (e : Set) : Type 0 where
  pub degrees : (v : ℕ) → Within g.order v → degree g e v ≡ bit (c v && not (v == t))

-- the labels 1 to k mark classes of odd size, such that no edge of g - x leaves a class; 0 marks no
-- class
pub record IsOddLabelling (g : Graph) (x : Set) (label : ℕ → ℕ) (k : ℕ) : Type 0 where
  pub low : (v : ℕ) → Within g.order v → label v ≤ k
  pub away : (v : ℕ) → Within g.order v → x v ≡ true → label v ≡ 0
  pub along : (e : ℕ) → Within (size g) e → x (first_end g e) ≡ false → x (second_end g e) ≡ false → label (first_end g e) ≡ label (second_end g e)
  pub odd : (j : ℕ) → Within k j → is_odd (count g.order (λ v. label v == j)) ≡ true

-- why no matching of g - r has more than k edges: there are p odd classes outside s, so at least p
-- - |s| vertices are missed
pub record IsCertificate (g : Graph) (r : Set) (k : ℕ) (s : Set) (label : ℕ → ℕ) (p : ℕ) : Type 0 where
  pub outside : (v : ℕ) → Within g.order v → s v ≡ true → r v ≡ false
  pub labels : IsOddLabelling g (union r s) label p
  pub sizes : count g.order (complement r) + count g.order s ≡ 2 * k + p

-- a certificate for k edges, whose classes are the outer vertices: each is missed by some matching
-- of k edges, and each inner vertex is adjacent to an outer one
pub record Frame (g : Graph) (r : Set) (k : ℕ) (outer inner : Set) : Type 0 where
  pub label : ℕ → ℕ
  pub classes : ℕ
  pub certificate : IsCertificate g r k inner label classes
  pub labelled : (v : ℕ) → Within g.order v → outer v ≡ nat_lt 0 (label v)
  pub missable : (v : ℕ) → Within g.order v → outer v ≡ true → (m : Set) × IsMatching g r m × (count (size g) m ≡ k) × (degree g m v ≡ 0)
  pub seen : (i : ℕ) → Within g.order i → inner i ≡ true → (e : ℕ) × (o : ℕ) × Within (size g) e × HasEnds g e i o × (outer o ≡ true)
