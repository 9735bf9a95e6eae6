-- What the neighbours of an outer vertex show that are left and not inner. Each further branch is a
-- step nearer to the end.
use Rattle.graph_core.proofs.from_counting.Common.{◌≡◌, ◌≢◌, ℕ, suc, ◌+◌, ◌-◌, ◌*◌, ◌≤◌, ◌<◌, true, false, ◌==◌, ap, ◌∙◌, arith, not, ◌&&◌, ◌||◌, List, [], both_ways, and_from, false_from_ne_true, count_le, Within, count, Set, mem}
use Rattle.graph_core.proofs.Common.{count_gained, count_lost, Graph}
use Rattle.match_search.specs.Common.{HoldsAlternating, IsDone, AreNear, Touches}
use Rattle.match_search.specs.declared.instance.Instance.{Instance}
use Rattle.match_search.specs.declared.alternating.AlternatingForest.{AlternatingForest}
use Rattle.match_search.proofs.SymmetricDifference.{path_short}

module _ (s : Instance) (t : AlternatingForest) (x : ℕ) (met near reach : List ℕ) (met_is : AreNear s x met) (near_is : (v : ℕ) → mem near v ≡ (mem met v && not (x == v)))
    (reach_is : (v : ℕ) → mem reach v ≡ (mem near v && not (mem t.inner v))) where
  pub reach_parts : (y : ℕ) → mem reach y ≡ true → Touches s x y × (mem s.left y ≡ true) × (x ≢ y) × (mem t.inner y ≡ false)
  reach_parts y h = grind arith

  -- where nothing is reached, the vertex is done
  pub none_reached : reach ≡ [] → IsDone s t x
  none_reached e y n l d = grind arith

-- an outer vertex is few pairs of edges from its root
pub pairs_few : (g : Graph) (r f : Set) (mate : List ℕ) (t : AlternatingForest) → (h : HoldsAlternating g r f mate t) (u : ℕ) → mem t.outer u ≡ true → suc (h.k u + h.k u) ≤ g.order
pairs_few g r f mate t holds u o = path_short g r (holds.k u) (holds.v u) (holds.e u) (holds.forest.path u o).path

pub branch_less : (n : ℕ) (inner inner' opens opens' : Set) (y z : ℕ) → Within n y → Within n z → inner y ≡ false → opens z ≡ false → ((v : ℕ) → inner' v ≡ (inner v || (y == v))) → ((v : ℕ) → opens' v ≡ (opens v || (z == v))) →
    2 * (n - count n inner') + count n opens' < 2 * (n - count n inner) + count n opens
branch_less n inner inner' opens opens' y z wy wz iy oz hi ho = grind (arith, count_gained n inner inner' y wy iy hi, count_gained n opens opens' z wz oz ho, count_le n inner')

pub drop_less : (n k : ℕ) (opens opens' : Set) (x : ℕ) → Within n x → opens x ≡ true → ((v : ℕ) → opens' v ≡ (opens v && not (x == v))) → k + count n opens' < k + count n opens
drop_less n k opens opens' x w o h = let a = count_lost n opens opens' x w o h in omega arith

-- what is in one set and not in another's meet with it, which is empty, is not in the other
pub unmet : (a b both : List ℕ) (v : ℕ) → ((v : ℕ) → mem both v ≡ (mem a v && mem b v)) → both ≡ [] → mem a v ≡ true → mem b v ≡ false
unmet a b both v h e o = false_from_ne_true (mem b v) (λ t. both_ways (mem both v) (ap (λ (r : List ℕ). mem r v) e) (h v ∙ and_from (mem a v) (mem b v) o t))
