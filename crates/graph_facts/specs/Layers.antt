-- What a search from vertex 1 finds in a graph, by the parity of the number of steps.
-- Stated by: graph_facts.
use Rattle.std.specs.Prelude.{◌≡◌, ◌↔◌, ◌||◌, ℕ, true, false, not}
use Rattle.allowed_edges.specs.from_counting.Common.{Within, Set, none}
use Rattle.graph_core.specs.Common.{Graph, IsSide, Joined, adjacent}

-- walks from 1 reach the vertices of even and odd, and no others; for each side of g, even is
-- inside if 1 is, and odd is inside if 1 is not; the neighbours of a vertex that is in only one of
-- the two sets are in the other
pub record AreLayers (g : Graph) (even odd : Set) : Type 0 where
  pub reached : (v : ℕ) → ((even v || odd v) ≡ true) ↔ Joined g none 1 v
  pub alike : (x : Set) → IsSide g x → (v : ℕ) → even v ≡ true → x v ≡ x 1
  pub unlike : (x : Set) → IsSide g x → (v : ℕ) → odd v ≡ true → x v ≡ not (x 1)
  pub over : (u w : ℕ) → even u ≡ true → odd u ≡ false → adjacent g none u w ≡ true → odd w ≡ true
  pub back : (u w : ℕ) → odd u ≡ true → even u ≡ false → adjacent g none u w ≡ true → even w ≡ true

-- the same, except that the neighbours of the vertices of open_set may be missing
pub record AreOpenLayers (g : Graph) (even odd open_set : Set) : Type 0 where
  pub start : even 1 ≡ true
  pub among : (v : ℕ) → open_set v ≡ true → (even v || odd v) ≡ true
  pub within : (v : ℕ) → (even v || odd v) ≡ true → Within g.order v
  pub reached : (v : ℕ) → (even v || odd v) ≡ true → Joined g none 1 v
  pub done : (u w : ℕ) → (even u || odd u) ≡ true → open_set u ≡ false → adjacent g none u w ≡ true → (even w || odd w) ≡ true
  pub alike : (x : Set) → IsSide g x → (v : ℕ) → even v ≡ true → x v ≡ x 1
  pub unlike : (x : Set) → IsSide g x → (v : ℕ) → odd v ≡ true → x v ≡ not (x 1)
  pub over : (u w : ℕ) → even u ≡ true → odd u ≡ false → open_set u ≡ false → adjacent g none u w ≡ true → odd w ≡ true
  pub back : (u w : ℕ) → odd u ≡ true → even u ≡ false → open_set u ≡ false → adjacent g none u w ≡ true → even w ≡ true
