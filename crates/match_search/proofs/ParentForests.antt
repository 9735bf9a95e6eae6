-- Forests by parents: the first one, one more branch, and the last one as a frame. The path of a
-- new outer vertex is that of its grandparent, and on by its mate; all other paths stay.
use Rattle.graph_core.proofs.from_counting.Common.{◌≡◌, ◌≢◌, ℕ, suc, ◌+◌, Bool, true, false, cond, ◌==◌, refl, sym, ap, ◌∙◌, arith, eq-eqb, ne_eqb, inl, inr, ◌&&◌, ◌||◌, nat_lt, nat_le, length, List, leb-true, cases_eq, both_ways, and_parts, Within, count, Set, none, mem}
use Rattle.graph_core.proofs.Common.{Graph, HasEnds, IsGraph, degree, size}
use Rattle.match_search.specs.Common.{AreExposed, GrowsForest, IsAlternatingForest, Frame, Touches, HoldsMatching, HoldsAlternating, HasBranched, HasRestarted, GoesUp, IsDone, IsSized, numbers}
use Rattle.match_search.specs.declared.instance.Instance.{Instance}
use Rattle.match_search.specs.declared.alternating.AlternatingForest.{AlternatingForest}
use Rattle.match_search.proofs.Alike.{forest_alike}
use Rattle.match_search.proofs.Forests.{first_outer, forest_start, final_frame, met, turned}
use Rattle.match_search.proofs.GrownRows.{with_put}
use Rattle.match_search.proofs.ForestSteps.{grown, more_e, more_inner, more_k, more_outer, more_v}
use Rattle.match_search.proofs.Instances.{left_from, left_parts, near_edge}
use Rattle.match_search.proofs.LongerPaths.{end_within, longer, longer_below, longer_at}
use Rattle.match_search.proofs.MatePairs.{mate_back, with_here, with_there}

-- a forest that grows has the length that a search needs
pub grows_sized : (g : Graph) (r f : Set) (s : Instance) (mate : List ℕ) (t : AlternatingForest) → GrowsForest g r f s mate t → IsSized (length s.rows.items) t
grows_sized g r f s mate t grows = let long = grows.holds.parents_long in let each = grows.matching.instance_is.one_each in record { parents_long = omega arith }

module _ (g : Graph) (r f : Set) (s : Instance) (mate : List ℕ) (is : HoldsMatching g r f s mate) where
  -- each exposed vertex a root
  pub roots_hold : (t : AlternatingForest) → ((v : ℕ) → mem t.outer v ≡ (mem s.left v && (numbers mate v == 0))) → ((v : ℕ) → mem t.inner v ≡ false) →
      length t.parent.items ≡ suc g.order → HoldsAlternating g r f mate t
  roots_hold t outer inner parents_long = record {
    k = λ u. 0;
    v = λ u j. u;
    e = λ u j. 0;
    forest = forest_alike g r f (first_outer g is.instance_is.graph r f is.mates.matching) none (λ u. 0) (λ u j. u) (λ u j. 0)
        (mem t.outer) (mem t.inner) (λ u. 0) (λ u j. u) (λ u j. 0) (λ u. outer u ∙ same u) inner (λ u o. refl) (λ u o j l. refl) (λ u o j l. refl)
        (forest_start g is.instance_is.graph r f is.mates.matching);
    parents_long = parents_long;
    up = λ u o n. absurd (n refl);
  }
    where
      exposed_is : (u : ℕ) → Within g.order u → (numbers mate u == 0) ≡ (degree g f u == 0)
      exposed_is u w = elim (cases_eq (numbers mate u) 0) [
        | inl q ↦ eq-eqb (numbers mate u) 0 q ∙ sym (eq-eqb (degree g f u) 0 (is.mates.exposed u w q))
        | inr q ↦ let d = is.mates.paired u w q in ne_eqb (numbers mate u) 0 q ∙ sym (ne_eqb (degree g f u) 0 (λ z. let a = (met g f d.0 u (numbers mate u) d.1 d.2 d.3).0 in absurd (omega arith)))
      ]

      go : (a b x y : Bool) → (a ≡ true → x ≡ y) → ((a && b) && x) ≡ (a && (b && y))
      go a b x y h = grind arith

      same : (u : ℕ) → (mem s.left u && (numbers mate u == 0)) ≡ first_outer g is.instance_is.graph r f is.mates.matching u
      same u = grind (arith, go, nat_lt, nat_le, and_parts, leb-true, exposed_is)

  -- a forest of roots can grow
  pub roots_grow : (before t : AlternatingForest) (roots : List ℕ) → AreExposed s.left mate roots → length before.parent.items ≡ suc (length s.rows.items) → HasRestarted before t roots → GrowsForest g r f s mate t
  roots_grow before t roots exposed long start = grind (arith, roots_hold, mem, both_ways)

  module _ (t : AlternatingForest) (holds : HoldsAlternating g r f mate t) where
    -- the active vertices do not matter
    pub active_holds : (active : List ℕ) → HoldsAlternating g r f mate (record t { active = active })
    active_holds active = record {
      k = holds.k;
      v = holds.v;
      e = holds.e;
      forest = holds.forest;
      parents_long = holds.parents_long;
      up = λ u o n. let p = holds.up u o n in (p.0, record { parent = p.1.parent; outer = p.1.outer; pairs = p.1.pairs; inner = p.1.inner; before = p.1.before });
    }

    -- where no edge leaves the forest, it is a frame
    pub done_frame : ((x : ℕ) → mem t.outer x ≡ true → IsDone s t x) → Frame g r (count (size g) f) (mem t.outer) (mem t.inner)
    done_frame done = final_frame g is.instance_is.graph r f is.mates.matching (mem t.outer) (mem t.inner) holds.k holds.v holds.e holds.forest
        (λ d x y w ends rx ry n o.
        let wx = end_within g is.instance_is.graph d x y w ends in
        let wy = end_within g is.instance_is.graph d y x w (turned g d x y ends) in
        done x o y (is.instance_is.touched d x y w ends wx wy rx ry n) (left_from g r s is.instance_is y wy ry) n)

    -- the forest with the neighbour y of an outer vertex x, and with the mate of y
    module _ (x y : ℕ) (ox : mem t.outer x ≡ true) (near : Touches s x y) (ly : mem s.left y ≡ true) (xy : x ≢ y) (oy : mem t.outer y ≡ false) (iy : mem t.inner y ≡ false) where
      abbrev pub z : ℕ
      z = numbers mate y

      is_graph : IsGraph g
      is_graph = is.instance_is.graph

      wy : Within g.order y
      wy = (left_parts g r s is.instance_is y ly).0

      ry : r y ≡ false
      ry = (left_parts g r s is.instance_is y ly).1

      matched : numbers mate y ≢ 0
      matched q = both_ways (mem t.outer y) oy (holds.forest.misses y wy ry (is.mates.exposed y wy q))

      pub branch_mate : Within g.order z × (numbers mate z ≡ y)
      branch_mate = mate_back g is_graph r f (numbers mate) is.mates y wy matched

      edge : (d : ℕ) × Within (size g) d × HasEnds g d x y
      edge = near_edge g r s is.instance_is x y (holds.forest.outer_in x ox).0 (holds.forest.outer_in x ox).1 near ly xy

      pair : (d : ℕ) × Within (size g) d × (f d ≡ true) × HasEnds g d y z
      pair = is.mates.paired y wy matched

      mates_of : (mem t.outer y ≡ mem t.inner z) × (mem t.inner y ≡ mem t.outer z)
      mates_of = Rattle.match_search.proofs.Forests.mates_of g is_graph r f is.mates.matching (mem t.outer) (mem t.inner) holds.k holds.v holds.e holds.forest pair.0 y z pair.1 pair.2 pair.3

      pub oz : mem t.outer z ≡ false
      oz = sym mates_of.1 ∙ iy

      module _ (h : AlternatingForest) (grew : HasBranched t h x y z) where
        bigger : IsAlternatingForest g r f (more_outer g is_graph r f is.mates.matching (mem t.outer) (mem t.inner) holds.k holds.v holds.e holds.forest edge.0 x y pair.0 z edge.1 edge.2 ox ry oy iy pair.1 pair.2 pair.3)
            (more_inner g is_graph r f is.mates.matching (mem t.outer) (mem t.inner) holds.k holds.v holds.e holds.forest edge.0 x y pair.0 z edge.1 edge.2 ox ry oy iy pair.1 pair.2 pair.3)
            (more_k g is_graph r f is.mates.matching (mem t.outer) (mem t.inner) holds.k holds.v holds.e holds.forest edge.0 x y pair.0 z edge.1 edge.2 ox ry oy iy pair.1 pair.2 pair.3)
            (more_v g is_graph r f is.mates.matching (mem t.outer) (mem t.inner) holds.k holds.v holds.e holds.forest edge.0 x y pair.0 z edge.1 edge.2 ox ry oy iy pair.1 pair.2 pair.3)
            (more_e g is_graph r f is.mates.matching (mem t.outer) (mem t.inner) holds.k holds.v holds.e holds.forest edge.0 x y pair.0 z edge.1 edge.2 ox ry oy iy pair.1 pair.2 pair.3)
        bigger = grown g is_graph r f is.mates.matching (mem t.outer) (mem t.inner) holds.k holds.v holds.e holds.forest edge.0 x y pair.0 z edge.1 edge.2 ox ry oy iy pair.1 pair.2 pair.3

        abbrev path : ℕ → ℕ → ℕ
        path = more_v g is_graph r f is.mates.matching (mem t.outer) (mem t.inner) holds.k holds.v holds.e holds.forest edge.0 x y pair.0 z edge.1 edge.2 ox ry oy iy pair.1 pair.2 pair.3

        abbrev more : ℕ → ℕ
        more = more_k g is_graph r f is.mates.matching (mem t.outer) (mem t.inner) holds.k holds.v holds.e holds.forest edge.0 x y pair.0 z edge.1 edge.2 ox ry oy iy pair.1 pair.2 pair.3

        -- the new path
        abbrev along : ℕ → ℕ
        along = longer (suc (holds.k x + holds.k x)) (holds.v x) y z

        not_z : (u : ℕ) → mem t.outer u ≡ true → u ≢ z
        not_z u o q = both_ways (mem t.outer z) oz (ap (mem t.outer) (sym q) ∙ o)

        kept : (u : ℕ) → mem t.outer u ≡ true → mem h.outer u ≡ true
        kept u o = grew.outer u ∙ ap (λ b. b || (z == u)) o

        pairs_at : (u : ℕ) → u ≢ z → more u ≡ holds.k u
        pairs_at u n = ap (λ (b : Bool). cond b (suc (holds.k x)) (holds.k u)) (ne_eqb u z n)

        path_at : (u j : ℕ) → u ≢ z → path u j ≡ holds.v u j
        path_at u j n = ap (λ (b : Bool). (cond b along (holds.v u)) j) (ne_eqb u z n)

        -- the path up from the new outer vertex
        up_new : (u : ℕ) → u ≡ z → GoesUp mate h more path u x
        up_new u q = grind (arith, branch_mate, with_here, kept, eq-eqb, pairs_at, not_z, longer_at, longer_below, path_at)

        up_old : (u p : ℕ) → u ≢ z → mem t.outer u ≡ true → GoesUp mate t holds.k holds.v u p → GoesUp mate h more path u p
        up_old u p n o go = record {
          parent = grew.parent (numbers mate u) ∙ with_there (numbers t.parent.items) y x (numbers mate u) (λ q. n (sym back ∙ ap (numbers mate) q)) ∙ go.parent;
          outer = kept p go.outer;
          pairs = pairs_at u n ∙ go.pairs ∙ ap suc (sym (pairs_at p (not_z p go.outer)));
          inner = path_at u (suc (more p + more p)) n ∙ ap (λ k. holds.v u (suc (k + k))) (pairs_at p (not_z p go.outer)) ∙ go.inner;
          before = λ j l. let k = pairs_at p (not_z p go.outer) in path_at u j n ∙ go.before j (omega arith) ∙ sym (path_at p j (not_z p go.outer));
        }
          where
            wu : Within g.order u
            wu = (holds.forest.outer_in u o).0

            back : numbers mate (numbers mate u) ≡ u
            back = (mate_back g is_graph r f (numbers mate) is.mates u wu (grind arith)).1

        pub branch_holds : HoldsAlternating g r f mate h
        branch_holds = record {
          k = more;
          v = path;
          e = more_e g is_graph r f is.mates.matching (mem t.outer) (mem t.inner) holds.k holds.v holds.e holds.forest edge.0 x y pair.0 z edge.1 edge.2 ox ry oy iy pair.1 pair.2 pair.3;
          forest = forest_alike g r f _ _ _ _ _ (mem h.outer) (mem h.inner) (more) path (more_e g is_graph r f is.mates.matching (mem t.outer) (mem t.inner) holds.k holds.v holds.e holds.forest edge.0 x y pair.0 z edge.1 edge.2 ox ry oy iy pair.1 pair.2 pair.3)
              (λ u. grew.outer u ∙ with_put (mem t.outer) z u) (λ u. grew.inner u ∙ with_put (mem t.inner) y u) (λ u o. refl) (λ u o j l. refl) (λ u o j l. refl) bigger;
          parents_long = grew.parents_long ∙ holds.parents_long;
          up = λ u o n. elim (cases_eq u z) [
            | inl q ↦ (x, up_new u q)
            | inr q ↦ let ot = old_outer u q o in let p = holds.up u ot (λ k. n (pairs_at u q ∙ k)) in (p.0, up_old u p.0 q ot p.1)
          ];
        }
          where
            old_outer : (u : ℕ) → u ≢ z → mem h.outer u ≡ true → mem t.outer u ≡ true
            old_outer u q o = sym (ap (λ b. cond b true (mem t.outer u)) (ne_eqb u z q)) ∙ sym (with_put (mem t.outer) z u) ∙ sym (grew.outer u) ∙ o
