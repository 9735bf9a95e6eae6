-- Where the search branches: from an outer vertex it reaches one that is left, and neither outer
-- nor inner. The rows have room for the branch, the forest holds again, and the search is one
-- step nearer to its end.
use Rattle.graph_core.proofs.from_counting.Common.{◌≡◌, ◌≢◌, ℕ, ◌+◌, ◌-◌, ◌*◌, ◌<◌, true, false, ◌==◌, arith, not, ◌&&◌, ◌||◌, List, [], length, both_ways, false_from_ne_true, Within, count, Set, mem}
use Rattle.graph_core.proofs.Common.{Graph}
use Rattle.match_search.specs.Common.{HasBranched, HoldsAlternating, HoldsMatching, AreNear, Touches, numbers}
use Rattle.match_search.specs.declared.instance.Instance.{Instance}
use Rattle.match_search.specs.declared.alternating.AlternatingForest.{AlternatingForest}
use Rattle.match_search.proofs.Instances.{left_parts}
use Rattle.match_search.proofs.ParentForests.{branch_holds, branch_mate, oz}
use Rattle.match_search.proofs.Reaching.{branch_less, reach_parts, unmet}

-- the numbers of a branch from x by y to the mate of y are within the rows
pub record FitsBranch (mate : List ℕ) (t : AlternatingForest) (x y : ℕ) : Type 0 where
  pub y_mate : y < length mate
  pub y_in : y < length t.parent.items
  pub y_vertex : Within 128 y
  pub z_vertex : Within 128 (numbers mate y)

module _ (s : Instance) (mate : List ℕ) (t : AlternatingForest) (x y : ℕ) (met near reach both : List ℕ) (ox : mem t.outer x ≡ true)
    (met_is : AreNear s x met) (near_is : (v : ℕ) → mem near v ≡ (mem met v && not (x == v))) (reach_is : (v : ℕ) → mem reach v ≡ (mem near v && not (mem t.inner v)))
    (both_is : (v : ℕ) → mem both v ≡ (mem reach v && mem t.outer v)) (apart : both ≡ []) (reached : mem reach y ≡ true)
    (g : Graph) (r f : Set) (is : HoldsMatching g r f s mate) (holds : HoldsAlternating g r f mate t) where
  parts : Touches s x y × (mem s.left y ≡ true) × (x ≢ y) × (mem t.inner y ≡ false)
  parts = reach_parts s t x met near reach met_is near_is reach_is y reached

  oy : mem t.outer y ≡ false
  oy = unmet reach t.outer both y both_is apart reached

  y_in_graph : Within g.order y
  y_in_graph = (left_parts g r s is.instance_is y parts.1).0

  z_in_graph : Within g.order (numbers mate y)
  z_in_graph = (branch_mate g r f s mate is t holds x y ox parts.0 parts.1 parts.2 oy parts.3).0

  pub fits_branch : FitsBranch mate t x y
  fits_branch = grind (arith, y_in_graph, z_in_graph)

  pub holds_branched : (h : AlternatingForest) → HasBranched t h x y (numbers mate y) → HoldsAlternating g r f mate h
  holds_branched = branch_holds g r f s mate is t holds x y ox parts.0 parts.1 parts.2 oy parts.3

  -- one more vertex is inner, and one more is open
  pub nearer_end : (opens opens' inner' : List ℕ) → ((v : ℕ) → mem opens v ≡ true → mem t.outer v ≡ true) → ((v : ℕ) → mem inner' v ≡ (mem t.inner v || (y == v))) → ((v : ℕ) → mem opens' v ≡ (mem opens v || (numbers mate y == v))) →
      2 * (length s.rows.items - count (length s.rows.items) (mem inner')) + count (length s.rows.items) (mem opens') < 2 * (length s.rows.items - count (length s.rows.items) (mem t.inner)) + count (length s.rows.items) (mem opens)
  nearer_end opens opens' inner' outer inner_is opens_is =
      let each = is.instance_is.one_each in
      let wy = y_in_graph in
      let wz = z_in_graph in
      let free = oz g r f s mate is t holds x y ox parts.0 parts.1 parts.2 oy parts.3 in
      let shut = false_from_ne_true (mem opens (numbers mate y)) (λ q. both_ways (mem t.outer (numbers mate y)) free (outer (numbers mate y) q)) in
      branch_less (length s.rows.items) (mem t.inner) (mem inner') (mem opens) (mem opens') y (numbers mate y) (omega arith) (omega arith) parts.3 shut inner_is opens_is
