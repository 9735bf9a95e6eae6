-- A matching that misses one vertex: its exposed vertex is the root. A blossom of its forest is
-- shrunk: the forest grows on in the shrunk graph, and the frame of this graph is one of the graph,
-- with the blossom among the outer vertices.
use Rattle.graph_core.proofs.from_counting.Common.{◌≡◌, ◌≢◌, ℕ, suc, ◌<◌, Bool, true, false, sym, ap, ap₂, ◌∙◌, arith, inl, inr, not, cond, ◌&&◌, ◌||◌, ◌==◌, refl, subst, eq-eqb, eqb-true, ne_eqb, List, [], ◌∷◌, length, Option, None, fun_ext, and_from, and_parts, count_congr, count_of_one, cases_eq, false_from_ne_true, not-true, or_cases, or_left, or_right, only_one, or_false, true≢false, Within, count, Set, mem, none}
use Rattle.graph_core.proofs.Common.{Graph, degree, size, missed_count}
use Rattle.match_search.specs.Common.{AreExposed, GrowsForest, HasContracted, HasMates, HasRestarted, HoldsAlternating, HoldsForest, HoldsMatching, IsGrownForest, IsInstance, IsSettledVertex, HasOuter, HoldsFlower, HoldsRooted, Frame, IsMissableRow, Touches, numbers, IsShrinking, every_other, picked, shrunk_ends}
use Rattle.match_search.specs.declared.flower.Flower.{Flower}
use Rattle.match_search.specs.declared.alternating.AlternatingForest.{AlternatingForest}
use Rattle.match_search.specs.declared.growing.Adjacent.{Adjacent}
use Rattle.match_search.specs.declared.instance.Instance.{Instance}
use Rattle.match_search.proofs.AugmentedMates.{left_is}
use Rattle.match_search.proofs.FlowerSteps.{fewer_below, forest_below, frame_all, frame_wider, mates_below, member_in, missed_below}
use Rattle.match_search.proofs.Forests.{mates_of}
use Rattle.match_search.proofs.ForestWalks.{has_pairs}
use Rattle.match_search.proofs.Instances.{left_from, left_parts}
use Rattle.match_search.proofs.MatePairs.{mate_back}
use Rattle.match_search.proofs.MateSteps.{left_count}
use Rattle.match_search.proofs.ParentForests.{done_frame, roots_grow}
use Rattle.match_search.proofs.SameMates.{mates_degree}
use Rattle.match_search.proofs.ShrunkForests.{H, IsContracted, ShrunkForest, graph_below, left_edges, rs}
use Rattle.match_search.proofs.Shrinking.{shrunk_ends_shrunk}
use Rattle.match_search.proofs.ShrunkInstances.{shrunk_instance}
use Rattle.match_search.proofs.WalkedForests.{held_from, walked_of}

-- a vertex that is left and exposed is the root
module _ (g : Graph) (r f : Set) (s : Instance) (mate : List ℕ) (root : ℕ) (rooted : HoldsRooted g r f s mate root) where
  alone : (v : ℕ) → mem s.left v ≡ true → numbers mate v ≡ 0 → root ≡ v
  unfolding missed_count
  alone v l z =
      let p = left_parts g r s rooted.holds.instance_is v l in
      let q = left_parts g r s rooted.holds.instance_is root rooted.left in
      only_one g.order (λ w. not (r w) && (degree g f w == 0)) (counted rooted.one) root v q.0 p.0
      (missed root q.0 q.1 rooted.free) (missed v p.0 p.1 z)
    where
      counted : missed_count g r f ≡ 1 → count g.order (λ w. not (r w) && (degree g f w == 0)) ≡ 1
      counted q = q

      missed : (v : ℕ) → Within g.order v → r v ≡ false → numbers mate v ≡ 0 → (not (r v) && (degree g f v == 0)) ≡ true
      missed v w out z = and_from (not (r v)) (degree g f v == 0) (ap not out) (eq-eqb (degree g f v) 0 (rooted.holds.mates.exposed v w z))

  root_exposed : (roots : List ℕ) → roots ≡ root ∷ [] → AreExposed s.left mate roots
  root_exposed roots is v = grind (arith, mem, cases_eq, eq-eqb, and_from, ne_eqb, false_from_ne_true, and_parts, alone, eqb-true)

  -- the forest of the root alone can grow
  pub root_grows : (before t : AlternatingForest) (roots : List ℕ) → roots ≡ root ∷ [] → length before.parent.items ≡ suc (length s.rows.items) → HasRestarted before t roots → GrowsForest g r f s mate t
  root_grows before t roots is long start = roots_grow g r f s mate rooted.holds before t roots (root_exposed roots is) long start

  pub root_within : Within 128 root
  root_within = let p = left_parts g r s rooted.holds.instance_is root rooted.left in let few = rooted.holds.instance_is.few in (omega arith, omega arith)

-- a forest that no edge leaves has the outer vertices
pub outer_final : (g : Graph) (r f : Set) (s : Instance) (mate : List ℕ) (t : AlternatingForest) (closing : Option Adjacent) → IsGrownForest g r f s mate t closing → closing ≡ None → HasOuter g r f t.outer
outer_final g r f s mate t closing growth q = record {
  inner = mem t.inner;
  frame = done_frame g r f s mate growth.grows.matching t growth.grows.holds (growth.done q);
  within = λ v o. (growth.grows.holds.forest.outer_in v o).0;
}

-- a blossom of a forest that can grow on
pub record IsFound (g : Graph) (r f : Set) (s : Instance) (mate : List ℕ) (t : AlternatingForest) (b : Flower) : Type 0 where
  pub grows : GrowsForest g r f s mate t
  pub holds : HoldsAlternating g r f mate t
  pub held : HoldsFlower g r f mate t holds b

-- it is shrunk
module _ {g : Graph} {r f : Set} {s : Instance} {mate : List ℕ} {t : AlternatingForest} {b : Flower} (found : IsFound g r f s mate t b) where
  open found use {grows, holds as h, held}

  abbrev is : IsInstance g r s
  is = grows.matching.instance_is

  abbrev mates : HasMates g r f (numbers mate)
  mates = grows.matching.mates

  abbrev c : Set
  c = mem b.members

  abbrev given : ShrunkForest
  given = record {
    g = g;
    is = is.graph;
    r = r;
    f = f;
    outer = mem t.outer;
    inner = mem t.inner;
    parent = numbers t.parent.items;
    mate = numbers mate;
    has = mates;
    walked = walked_of g r f mate t h;
    c = c;
    z = b.base;
    es = shrunk_ends g c b.base;
    shrunk = shrunk_ends_shrunk g c b.base;
    e1 = picked held.length_of (every_other 1) held.edge;
    fits = held.fits;
  }

  abbrev pub shrunk_graph_of : Graph
  shrunk_graph_of = H given

  abbrev pub shrunk_out : Set
  shrunk_out = rs given

  abbrev pub shrunk_edges : Set
  shrunk_edges = left_edges given

  in_graph : (v : ℕ) → c v ≡ true → Within g.order v
  in_graph = member_in given held

  pub flower_within : (v : ℕ) → mem b.members v ≡ true → Within (length s.rows.items) v
  flower_within v m = let w = in_graph v m in let each = is.one_each in (w.0, omega arith)

  pub base_within : Within (length s.rows.items) b.base × Within 128 b.base
  base_within = let w = in_graph b.base held.fits.base in let each = is.one_each in let few = is.few in ((omega arith, omega arith), (omega arith, omega arith))

  pub inner_within : (v : ℕ) → mem t.inner v ≡ true → v < length t.parent.items
  inner_within v i = let w = (h.forest.inner_in v i).0 in let long = h.parents_long in omega arith

  abbrev held_forest : HoldsForest mate t
  held_forest = record { g = g; r = r; f = f; holds = h; mates = mates; long = grows.matching.long; few = is.few }

  -- the parent of an inner vertex is outer
  pub parent_within : (y : ℕ) → mem t.inner y ≡ true → Within 128 (numbers t.parent.items y)
  parent_within y i =
      let p = h.forest.inner_in y i in
      let n : numbers mate y ≢ 0 = λ q. let free = mates.exposed y p.0 q in let one = p.2 in absurd (omega arith) in
      let e = mates.paired y p.0 n in
      let oz : mem t.outer (numbers mate y) ≡ true = sym (mates_of g is.graph r f mates.matching (mem t.outer) (mem t.inner) h.k h.v h.e h.forest e.0 y (numbers mate y) e.1 e.2 e.3).1 ∙ i in
      let back = (mate_back g is.graph r f (numbers mate) mates y p.0 n).1 in
      let wy = p.0 in
      let up = h.up (numbers mate y) oz (has_pairs mate t held_forest (numbers mate y) oz (λ q. absurd (omega arith))) in
      let w = (h.forest.outer_in up.0 up.1.outer).0 in
      let here : numbers t.parent.items y ≡ up.0 = ap (numbers t.parent.items) (sym back) ∙ up.1.parent in
      let few = is.few in (omega arith, omega arith)

  -- the outer vertices of the shrunk graph, with those of the blossom
  pub outer_up : (below result : List ℕ) → HasOuter shrunk_graph_of shrunk_out shrunk_edges below → ((v : ℕ) → mem result v ≡ (mem below v || mem b.members v)) → HasOuter g r f result
  outer_up below result has wide = record {
    inner = has.inner;
    frame = subst (λ (o : Set). Frame g r (count (size g) f) o has.inner) (sym (fun_ext wide))
        (frame_wider given held (mem below) has.inner has.frame);
    within = λ v q. elim (or_cases (mem below v) (mem b.members v) (sym (wide v) ∙ q)) [
      | inl o ↦ has.within v o
      | inr o ↦ in_graph v o
    ];
  }

  -- a blossom with all vertices that are left: they are outer
  pub outer_whole : ((v : ℕ) → mem s.left v ≡ true → mem b.members v ≡ true) → HasOuter g r f b.members
  outer_whole whole = record {
    inner = none;
    frame = frame_all given held (λ u w q. whole u (left_from g r s is u w q));
    within = in_graph;
  }

  module _ (i : Instance) (shrink : IsShrinking s c b.base i) where
    below_instance : IsInstance shrunk_graph_of shrunk_out i
    below_instance = shrunk_instance g c b.base _ given.shrunk held.fits.base r s i is
        held.fits.left in_graph shrink (graph_below given)

    pub flower_less : count (length i.rows.items) (mem i.left) < count (length s.rows.items) (mem s.left)
    flower_less =
        let a = left_count shrunk_graph_of shrunk_out i below_instance in
        let d = left_count g r s is in
        let e = fewer_below given held in omega arith

    -- as many vertices are missed
    pub below_one : missed_count g r f ≡ 1 → missed_count shrunk_graph_of shrunk_out shrunk_edges ≡ 1
    below_one one = missed_below given held ∙ one

    -- the members but the base are exposed
    module _ (u : AlternatingForest) (contracted : HasContracted t u c b.base) (new : List ℕ) (long : length new ≡ length mate) (off : List ℕ) (off_is : (v : ℕ) → mem off v ≡ (mem b.members v && not (b.base == v))) (exposed : (v : ℕ) → numbers new v ≡ cond (mem off v) 0 (numbers mate v)) where
      turned : (x y : ℕ) → (x == y) ≡ (y == x)
      turned x y = elim (cases_eq x y) [ inl q ↦ eq-eqb x y q ∙ sym (eq-eqb y x (sym q)) | inr q ↦ ne_eqb x y q ∙ sym (ne_eqb y x (λ s. q (sym s))) ]

      after : IsContracted (mem t.outer) (mem t.inner) (numbers t.parent.items) (numbers mate) c b.base (mem u.outer) (mem u.inner) (numbers u.parent.items) (numbers new)
      after = record { outer_is = contracted.outer; inner_is = contracted.inner; parents = contracted.parent; mates = λ v. exposed v ∙ ap (λ b. cond b 0 (numbers mate v)) (off_is v ∙ ap (λ b. c v && not b) (turned b.base v)) }

      both_false : (a d : Bool) → (a || d) ≡ false → (a ≡ false) × (d ≡ false)
      both_false a d q = grind arith

      outside : (a d : Bool) → d ≡ false → (a || d) ≡ true → a ≡ true
      outside a d q w = grind arith

      not_open : (a d : Bool) → d ≡ false → (a && not d) ≡ false → a ≡ false
      not_open a d q w = grind arith

      still_left : (a d e : Bool) → e ≡ false → (a && not (d && not e)) ≡ true → (a ≡ true) × (d ≡ false)
      still_left a d e q w = grind arith

      -- an outer vertex that is not active stays settled
      settled_below : (x : ℕ) → mem u.outer x ≡ true → mem u.active x ≡ false → IsSettledVertex i u x
      settled_below x o n y touches left other =
          let shut = both_false (mem t.active x && not (c x)) (b.base == x) (sym (contracted.active x) ∙ n) in
          let was = and_parts (mem t.outer x) (not (c x)) (outside (mem t.outer x && not (c x)) (b.base == x) shut.1 (sym (contracted.outer x) ∙ o)) in
          let away = not-true (c x) was.1 in
          let wx = (h.forest.outer_in x was.0).0 in
          let each = is.one_each in
          let members_each = is.members_each in
          let not_x : b.base ≢ x = λ q. true≢false (sym (eq-eqb b.base x q) ∙ shut.1) in
          elim (cases_eq b.base y) [
            | inl q ↦ inr (contracted.active y ∙ or_right (mem t.active y && not (c y)) (b.base == y) (eq-eqb b.base y q))
            | inr q ↦
                let there = still_left (mem s.left y) (c y) (b.base == y) (ne_eqb b.base y q) (sym (shrink.left y) ∙ left) in
                let wy = (left_parts g r s is y there.0).0 in
                let near : Touches s x y = (
                  touches.0,
                  ap (λ (xs : List ℕ). mem xs touches.0) (sym (shrink.rows.others x (omega arith, omega arith) not_x)) ∙ touches.1,
                  ap (λ (xs : List ℕ). mem xs touches.0) (sym (shrink.members.others y (omega arith, omega arith) q)) ∙ touches.2,
                ) in
                elim (grows.settled x was.0 (not_open (mem t.active x) (c x) away shut.0) y near there.0 other) [
                  | inl w ↦ inl (contracted.inner y ∙ and_from (mem t.inner y) (not (c y)) w (ap not there.1))
                  | inr w ↦ inr (contracted.active y ∙ or_left (mem t.active y && not (c y)) (b.base == y) (and_from (mem t.active y) (not (c y)) w (ap not there.1)))
                ]
          ]

      -- the forest grows on in the shrunk graph
      pub below_grows : GrowsForest shrunk_graph_of shrunk_out shrunk_edges i new u
      below_grows = record {
        matching = record {
          instance_is = below_instance;
          long = long ∙ grows.matching.long;
          mates = mates_below given held (mem u.outer) (mem u.inner) (numbers u.parent.items) (numbers new) after;
        };
        holds = held_from shrunk_graph_of shrunk_out shrunk_edges new u
            (forest_below given held (mem u.outer) (mem u.inner) (numbers u.parent.items) (numbers new) after)
            (contracted.parents_long ∙ h.parents_long);
        active_outer = λ x a. contracted.outer x ∙ elim (or_cases (mem t.active x && not (c x)) (b.base == x) (sym (contracted.active x) ∙ a)) [
          | inl q ↦ let w = and_parts (mem t.active x) (not (c x)) q in or_left (mem t.outer x && not (c x)) (b.base == x) (and_from (mem t.outer x) (not (c x)) (grows.active_outer x w.0) w.1)
          | inr q ↦ or_right (mem t.outer x && not (c x)) (b.base == x) q
        ];
        settled = settled_below;
      }

-- where one vertex is exposed, it is the root
pub rooted_from : (g : Graph) (r f : Set) (s : Instance) (mate exposed : List ℕ) (root : ℕ) → HoldsMatching g r f s mate → AreExposed s.left mate exposed → exposed ≡ root ∷ [] → HoldsRooted g r f s mate root
unfolding missed_count
rooted_from g r f s mate exposed root holds are is = record {
  holds = holds;
  one = count_congr g.order (λ v. not (r v) && (degree g f v == 0)) (λ v. root == v) (λ v w. each v w) ∙ count_of_one g.order (λ v. true) root (left_parts g r s holds.instance_is root parts.0).0;
  left = parts.0;
  free = eqb-true (numbers mate root) 0 parts.1;
}
  where
    member : (v : ℕ) → (mem s.left v && (numbers mate v == 0)) ≡ (root == v)
    member v = sym (are v) ∙ ap (λ (xs : List ℕ). mem xs v) is ∙ or_false (root == v)

    parts : (mem s.left root ≡ true) × ((numbers mate root == 0) ≡ true)
    parts = and_parts (mem s.left root) (numbers mate root == 0) (member root ∙ eq-eqb root root refl)

    each : (v : ℕ) → Within g.order v → (not (r v) && (degree g f v == 0)) ≡ (root == v)
    each v w = ap₂ (λ a b. a && b) (sym (left_is g r s holds.instance_is v w)) (ap (λ d. d == 0) (mates_degree g r f (numbers mate) holds.mates v w) ∙ (grind arith)) ∙ member v

-- the outer vertices are the row
pub outer_row : (g : Graph) (r f : Set) (s : Instance) (mate : List ℕ) (root : ℕ) → HoldsRooted g r f s mate root → (row : List ℕ) → HasOuter g r f row → IsMissableRow g r row
outer_row g r f s mate root rooted row has = grind arith
