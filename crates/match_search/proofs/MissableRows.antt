-- A vertex taken out of a graph with a matching. Its edge of the matching goes, so its mate is
-- exposed, and nothing else of the matching changes; of the instance the vertex alone goes.
use Rattle.graph_core.proofs.from_counting.Common.{◌≡◌, ◌≢◌, ℕ, suc, ◌-◌, ◌<◌, ◌≤◌, ◌==◌, ◌&&◌, ◌||◌, not, Bool, true, false, refl, sym, ap, ◌∙◌, arith, eqb-true, nat_lt, nat_le, inl, inr, subst, List, [], length, take, drop, ◌++◌, rules, take-append_seam, and_parts, and_from, cases_eq, or_cases, total_congr, Within, bit, count, mem, Set, meet, singleton, union}
use Rattle.graph_core.proofs.Common.{Graph, IsGraph, HasEnds, degree, first_end, second_end, IsMatching, missed_count, edge_at}
use Rattle.match_search.specs.Common.{HoldsMatching, IsInstance, IsSized, MayBeExposed, ServesRows, HasMates, with_mate, HasFrame, IsMissableRow, numbers}
use Rattle.match_search.specs.declared.answer.FinalSets.{FinalSets}
use Rattle.match_search.specs.declared.instance.Instance.{Instance}
use Rattle.match_search.specs.declared.row_space.RowSpace.{RowSpace}
use Rattle.match_search.proofs.ClosingPairs.{mates_alike}
use Rattle.match_search.proofs.Forests.{one_edge, turned}
use Rattle.match_search.proofs.Instances.{left_parts}
use Rattle.match_search.proofs.MatePairs.{mate_back, with_here, with_there}
use Rattle.match_search.proofs.NearPerfectSets.{degree_split}
use Rattle.match_search.proofs.SameMates.{mates_degree}

or_none : (a b : Bool) → (a || b) ≡ false → (a ≡ false) × (b ≡ false)
or_none a b h = grind arith

-- the instance with one vertex fewer
pub instance_without : (g : Graph) (r : Set) (u : ℕ) (s : Instance) (left : List ℕ) → IsInstance g r s → ((v : ℕ) → mem left v ≡ (mem s.left v && not (u == v))) → IsInstance g (union r (singleton u)) (record s { left = left })
instance_without g r u s left is less = search (rules, nat_lt 0, nat_le, or_none)

module _ (g : Graph) (is : IsGraph g) (r m : Set) (mate : ℕ → ℕ) (has : HasMates g r m mate) (u : ℕ) (wu : Within g.order u) where
  abbrev out : Set
  out = union r (singleton u)

  -- the edges of m that do not meet u
  abbrev less : Set
  less e = m e && not (first_end g e == u || second_end g e == u)

  abbrev own : ℕ → ℕ
  own = with_mate (with_mate mate (mate u) 0) u 0

  fewer : (v : ℕ) → degree g less v ≤ degree g m v
  fewer v = let s = degree_split g m less (meet m (λ e. first_end g e == u || second_end g e == u)) v (λ i wi. grind arith) in omega arith

  none_there : (d : ℕ) → (0 < d → ⊥) → d ≡ 0
  none_there d h = grind arith

  -- an edge that is left does not meet u
  misses : (e y : ℕ) → less e ≡ true → HasEnds g e u y → ⊥
  misses e y l ends = grind arith

  free_at : degree g less u ≡ 0
  free_at = none_there (degree g less u) (λ p. let d = edge_at g less u p in misses d.0 d.3.0 d.2 d.3.1)

  -- the mate of u is exposed
  free_mate : (v : ℕ) → Within g.order v → v ≢ u → v ≡ mate u → degree g less v ≡ 0
  free_mate v w n q = none_there (degree g less v) (λ p.
      let d = edge_at g less v p in
      let e = has.paired u wu (λ z. let t = q ∙ z in omega arith) in
      let ends : HasEnds g e.0 v u = turned g e.0 u v (subst (λ (x : ℕ). HasEnds g e.0 u x) (sym q) e.3) in
      let same = one_edge g r m has.matching d.0 e.0 v d.3.0 u w d.1 e.1 (and_parts (m d.0) (not (first_end g d.0 == u || second_end g d.0 == u)) d.2).0 e.2 d.3.1 ends in
      misses d.0 v d.2 (subst (λ (x : ℕ). HasEnds g x u v) (sym same) (turned g e.0 v u ends)))

  at_u : own u ≡ 0
  at_u = with_here (with_mate mate (mate u) 0) u 0 u refl

  gone : (v : ℕ) → v ≢ u → v ≡ mate u → own v ≡ 0
  gone v n q = with_there (with_mate mate (mate u) 0) u 0 v n ∙ with_here mate (mate u) 0 v q

  less_matching : IsMatching g out less
  less_matching = grind (arith, fewer, or_cases, eqb-true u, free_at)

  pub less_mates : HasMates g out less own
  less_mates = record {
    matching = less_matching;
    exposed = λ v w q. elim (cases_eq v u) [
      | inl e ↦ subst (λ x. degree g less x ≡ 0) (sym e) free_at
      | inr n ↦ grind (arith, cases_eq v (mate u), free_mate v w n, fewer v)
    ];
    paired = λ v w q. elim (cases_eq v u) [
      | inl e ↦ absurd (q (ap own e ∙ at_u))
      | inr n ↦ grind (arith, cases_eq v (mate u), gone v n, mate_back g is r m mate has v w, and_from)
    ];
  }

-- the instance and the mates with one vertex fewer represent a matching
pub held_without : (g : Graph) (r f : Set) (u : ℕ) (s : Instance) (mate own left : List ℕ) → HoldsMatching g r f s mate → Within g.order u → ((v : ℕ) → mem left v ≡ (mem s.left v && not (u == v))) → length own ≡ length mate →
    ((v : ℕ) → numbers own v ≡ with_mate (with_mate (numbers mate) (numbers mate u) 0) u 0 v) → (m : Set) × HoldsMatching g (union r (singleton u)) m (record s { left = left }) own
held_without g r f u s mate own left held wu out long each = (
  less g held.instance_is.graph r f (numbers mate) held.mates u wu,
  record {
    instance_is = instance_without g r u s left held.instance_is out;
    long = long ∙ held.long;
    mates = mates_alike g (union r (singleton u)) (less g held.instance_is.graph r f (numbers mate) held.mates u wu) (with_mate (with_mate (numbers mate) (numbers mate u) 0) u 0) (numbers own) each (less_mates g held.instance_is.graph r f (numbers mate) held.mates u wu);
  },
)

-- a row that is written back through a slice keeps its length
pub written_long : (len : ℕ) (new old : List ℕ) (n : ℕ) → length new ≡ len → len ≡ n → length (take len (new ++ drop (length new) old)) ≡ n
written_long len new old n long same = ap (λ k. length (take k (new ++ drop (length new) old))) (sym long) ∙ ap length (take-append_seam new (drop (length new) old)) ∙ long ∙ same

-- a space serves the next row if the lengths and the set of exposed vertices stay the same
pub serves_again : (g : Graph) (r f : Set) (s : Instance) (mate : List ℕ) (before after : RowSpace) → HoldsMatching g r f s mate → ServesRows s.left mate before → IsSized (length s.rows.items) after.forest → length after.own.items ≡ length mate → after.exposed ≡ before.exposed → ServesRows s.left mate after
serves_again g r f s mate before after held serves sized own same = grind (arith, mem)

-- an exposed vertex that is left then was exposed before, or is the mate
pub exposed_without : (g : Graph) (r : Set) (u : ℕ) (s : Instance) (mate own left before after : List ℕ) → IsInstance g r s → MayBeExposed s.left mate before → ((v : ℕ) → mem left v ≡ (mem s.left v && not (u == v))) →
    ((v : ℕ) → numbers own v ≡ with_mate (with_mate (numbers mate) (numbers mate u) 0) u 0 v) → ((v : ℕ) → mem before v ≡ true → mem after v ≡ true) → (numbers mate u ≢ 0 → mem after (numbers mate u) ≡ true) → MayBeExposed left own after
exposed_without g r u s mate own left before after is may out each old new v l z =
    let a = and_parts (mem s.left v) (not (u == v)) (sym (out v) ∙ l) in
    let w = (left_parts g r s is v a.0).0 in
    elim (cases_eq v (numbers mate u)) [
      | inl q ↦ ap (mem after) q ∙ new (λ t. let e = q ∙ t in omega arith)
      | inr n ↦ old v (may v a.0 (sym (with_there (numbers mate) (numbers mate u) 0 v n) ∙ sym (with_there (with_mate (numbers mate) (numbers mate u) 0) u 0 v (λ q. (grind arith))) ∙ sym (each v) ∙ z))
    ]

-- the exposed vertices that are left are those that the matching misses
module _ (g : Graph) (r : Set) (mate left row : List ℕ) (sets : FinalSets) (framed : HasFrame g r mate sets) (long : length mate ≡ suc g.order) (left_is : (v : ℕ) → Within g.order v → mem left v ≡ not (r v)) (missed : ℕ) (missed_is : missed ≡ count (length mate - 1) (λ v. mem left v && (numbers mate v == 0))) where
  counted : missed ≡ missed_count g r framed.m
  unfolding missed_count
  counted =
      missed_is ∙ ap (λ k. count k (λ v. mem left v && (numbers mate v == 0))) (omega arith)
      ∙ total_congr g.order (λ v. bit (mem left v && (numbers mate v == 0))) (λ v. bit (not (r v) && (degree g framed.m v == 0)))
      (λ v w. ap (λ b. bit (b && (numbers mate v == 0))) (left_is v w) ∙ ap (λ b. bit (not (r v) && b)) (sym (ap (λ d. d == 0) (mates_degree g r framed.m (numbers mate) framed.mates v w) ∙ (grind arith))))

  pub missable_row : (missed ≡ 1 → row ≡ sets.outer) → (missed ≢ 1 → row ≡ []) → ((v : ℕ) → mem row v ≡ true → Within g.order v) → IsMissableRow g r row
  missable_row one other within = grind (arith, mem, counted)
