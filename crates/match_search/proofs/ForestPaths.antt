-- The paths to the two ends of a closing edge: they are paths of the forest, with outer and inner
-- vertices in turn.
use Rattle.graph_core.proofs.from_counting.Common.{◌≡◌, ℕ, suc, ◌+◌, ◌≤◌, ◌<◌, true, refl, sym, ap, ◌∙◌, arith, subst, length, List, is_odd, Set, mem}
use Rattle.graph_core.proofs.Common.{Graph}
use Rattle.match_search.specs.Common.{AreClosingPaths, ClosesForest, second_start, IsAlternating, part}
use Rattle.match_search.specs.declared.alternating.AlternatingForest.{AlternatingForest}
use Rattle.match_search.specs.declared.growing.Adjacent.{Adjacent}
use Rattle.match_search.specs.declared.paths.Paths.{Paths}
use Rattle.match_search.proofs.Alike.{path_alike}
use Rattle.match_search.proofs.Forests.{outer_edge}
use Rattle.match_search.proofs.LongerPaths.{ends_by}
use Rattle.match_search.proofs.Reaching.{pairs_few}

-- the numbers of pairs of two paths are small: a path meets no vertex twice
pub short_paths : (g : Graph) (r f : Set) (mate : List ℕ) (t : AlternatingForest) (o : Adjacent) (first second : ℕ) (is : ClosesForest g r f mate t o) → first ≡ is.holds.k o.v → second ≡ is.holds.k o.w → (first + first < 128) × (second + second < 128)
short_paths g r f mate t o first second is first_is second_is =
    let few = is.few in
    let v_few = pairs_few g r f mate t is.holds o.v is.v_outer in
    let w_few = pairs_few g r f mate t is.holds o.w is.w_outer in
    (omega arith, omega arith)

module _ (g : Graph) (r f : Set) (mate : List ℕ) (t : AlternatingForest) (o : Adjacent) (is : ClosesForest g r f mate t o) (w : Paths) (first : w.first ≡ is.holds.k o.v) (second : w.second ≡ is.holds.k o.w)
    (long : length w.row.items ≡ second_start w + suc (w.second + w.second)) (first_written : (j : ℕ) → j ≤ w.first + w.first → part w.row.items 0 j ≡ is.holds.v o.v j) (second_written : (j : ℕ) → j ≤ w.second + w.second → part w.row.items (second_start w) j ≡ is.holds.v o.w j) where
  path_of : (u k : ℕ) → mem t.outer u ≡ true → k ≡ is.holds.k u → IsAlternating g r f k (is.holds.v u) (is.holds.e u)
  path_of u k ou q = subst (λ (x : ℕ). IsAlternating g r f x (is.holds.v u) (is.holds.e u)) (sym q) (is.holds.forest.path u ou)

  last_of : (u k : ℕ) → mem t.outer u ≡ true → k ≡ is.holds.k u → is.holds.v u (k + k) ≡ u
  last_of u k ou q = ap (λ (x : ℕ). is.holds.v u (x + x)) q ∙ is.holds.forest.last u ou

  sides_of : (u k : ℕ) → mem t.outer u ≡ true → k ≡ is.holds.k u → (j : ℕ) → j ≤ k + k → mem t.inner (is.holds.v u j) ≡ is_odd j
  sides_of u k ou q j l = (is.holds.forest.sides u ou j (omega arith)).1

  top : part w.row.items 0 (w.first + w.first) ≡ o.v
  top = first_written (w.first + w.first) (omega arith) ∙ last_of o.v w.first is.v_outer first

  side : part w.row.items (second_start w) (w.second + w.second) ≡ o.w
  side = second_written (w.second + w.second) (omega arith) ∙ last_of o.w w.second is.w_outer second

  pub forest_paths : AreClosingPaths g r f mate w
  forest_paths = record {
    graph = is.graph;
    few = is.few;
    long = is.long;
    mates = is.mates;
    row_long = long;
    inner = mem t.inner;
    first_edges = is.holds.e o.v;
    second_edges = is.holds.e o.w;
    first_path = path_alike g r f w.first (is.holds.v o.v) (is.holds.e o.v) (part w.row.items 0) (is.holds.e o.v) first_written (λ j l. refl) (path_of o.v w.first is.v_outer first);
    second_path = path_alike g r f w.second (is.holds.v o.w) (is.holds.e o.w) (part w.row.items (second_start w)) (is.holds.e o.w) second_written (λ j l. refl) (path_of o.w w.second is.w_outer second);
    first_sides = λ j l. ap (mem t.inner) (first_written j l) ∙ sides_of o.v w.first is.v_outer first j l;
    second_sides = λ j l. ap (mem t.inner) (second_written j l) ∙ sides_of o.w w.second is.w_outer second j l;
    different = λ q. is.different (sym top ∙ q ∙ side);
    edge = is.edge.0;
    real = is.edge.1;
    ends = ends_by g is.edge.0 is.edge.0 (part w.row.items 0 (w.first + w.first)) o.v (part w.row.items (second_start w) (w.second + w.second)) o.w refl top side is.edge.2;
    off = outer_edge g is.graph r f is.mates.matching (mem t.outer) (mem t.inner) is.holds.k is.holds.v is.holds.e is.holds.forest is.edge.0 o.v o.w is.edge.1 is.edge.2 is.v_outer (is.holds.forest.apart o.w is.w_outer);
  }
