-- The canonical partition of an elementary graph: its classes are the maximal barriers, so that the
-- components that a class leaves are factor-critical. A matching covered graph is elementary.
use Rattle.tree_check.proofs.from_counting.Common.{◌≡◌, ◌≢◌, ℕ, Bool, true, false, ◌==◌, ◌&&◌, ◌||◌, refl, sym, ◌∙◌, arith, eq-eqb, List, [], ◌∷◌, subst, ◌↔◌, inl, inr, and_from, both_ways, cases_eq, cases_lt, count_member, count_zero, member_count, not_not, same_tests, true_some, Within, count, Set, complement, none, pair_set, singleton}
use Rattle.barrier_kit.proofs.Common.{class_found, class_holds_barrier, class_is_barrier, equivalent_back, equivalent_over, equivalent_self, loop_free, perfect_congr, perfect_or_not, restrict, single_barrier, AreCutsMet}
use Rattle.graph_core.proofs.Common.{adjacent-edge, edges_in_cut, has_ends-cases, is_allowed_found, parity, Allowed, Equivalent, Graph, IsBarrier, IsBicritical, IsClass, IsCovered, IsGraph, IsPerfect, Joined, Walk, adjacent, first_end, has_ends, inside, is_allowed, joined, second_end, size}
use Rattle.theorems.proofs.AddedEdges.{allowed_from, ends_set}
use Rattle.theorems.proofs.BrickFacts.{turned_cut}
use Rattle.theorems.proofs.ThreeConnected.{count_pair}
use Rattle.theorems.proofs.ElementaryBarriers.{elementary_cut, elementary_perfect}
use Rattle.theorems.proofs.MaximalBarriers.{maximal_critical}
use Rattle.theorems.specs.Barriers.{IsElementary, IsMaximalBarrier, allowed_adjacent}
use Rattle.theorems.specs.Matchings.{IsFactorCritical}

module _ (g : Graph) (is : IsGraph g) (cov : IsCovered g) where
  -- a walk is one along allowed edges, where a step along a loop is left out
  allowed_walk : (u v : ℕ) (ws : List ℕ) → Walk (adjacent g none) u ws v → (xs : List ℕ) × Walk (allowed_adjacent g) u xs v
  allowed_walk u v [] w = ([], w)
  allowed_walk u v (x ∷ ws) w =
      let r = allowed_walk x v ws w.1 in
      elim (cases_eq u x) [
        | inl q ↦ (r.0, subst (λ y. Walk (allowed_adjacent g) y r.0 v) (sym q) r.1)
        | inr d ↦ (x ∷ r.0, (step d, r.1))
      ]
    where
      step : u ≢ x → allowed_adjacent g u x ≡ true
      step d =
          let e = (adjacent-edge g none u x w.0).2 in
          true_some (size g) (λ e. is_allowed g e && has_ends g u x e) e.0 e.1 (and_from (is_allowed g e.0) (has_ends g u x e.0) (is_allowed_found g e.0 e.1 (cov.allowed e.0 e.1 (λ q. d (no_loop e.0 e.2 q)))) e.2)
        where
          no_loop : (e : ℕ) → has_ends g u x e ≡ true → first_end g e ≡ second_end g e → u ≡ x
          no_loop e h q = elim (has_ends-cases g u x e h) [
            | inl p ↦ sym p.0 ∙ q ∙ p.1
            | inr p ↦ sym p.1 ∙ sym q ∙ p.0
          ]

  pub elementary : IsElementary g
  unfolding Joined
  elementary = record {
    two = cov.two;
    connected = λ u v wu wv. let j = cov.connected u v wu wv in allowed_walk u v j.0 j.1;
  }

module _ (g : Graph) (is : IsGraph g) (el : IsElementary g) where
  met : AreCutsMet g
  met = elementary_cut g is el

  some_perfect : (m : Set) × IsPerfect g none m
  some_perfect = elementary_perfect g is el

  pub class_maximal : (a : ℕ) (s : Set) → Within g.order a → IsClass g a s → IsMaximalBarrier g s
  class_maximal a s wa cl = record {
    barrier = class_is_barrier g a s is met some_perfect wa cl;
    maximal = λ t bar holds v wv tv. class_holds_barrier g a s t is wa cl bar (holds a wa (cl.all a wa (equivalent_self g a))) v wv tv;
  }

  pub maximal_class : (s : Set) → IsMaximalBarrier g s → (a : ℕ) × Within g.order a × IsClass g a s
  maximal_class s most =
      let a = some_vertex in
      let c = class_found g is met some_perfect a.0 a.1 in
      let within = class_holds_barrier g a.0 c.0 s is a.1 c.2 most.barrier a.2 in (
        a.0,
        a.1,
        record {
          holds = λ v wv sv. c.2.holds v wv (within v wv sv);
          all = λ v wv q. most.maximal c.0 c.1 within v wv (c.2.all v wv q);
        },
      )
    where
      one : Within g.order 1
      one = let t = el.two in omega arith

      some_vertex : (a : ℕ) × Within g.order a × (s a ≡ true)
      some_vertex = elim (cases_lt 0 (count g.order s)) [
        | inl l ↦ count_member g.order s l
        | inr l ↦
            let out : (v : ℕ) → Within g.order v → s v ≡ false = count_zero g.order s (omega arith) in
            absurd (both_ways (s 1) (out 1 one) (most.maximal (singleton 1) (single_barrier g is met some_perfect 1 one) (λ v wv sv. absurd (both_ways (s v) (out v wv) sv)) 1 one refl))
      ]

  pub one_class : (s : Set) (a : ℕ) → IsBarrier g s → Within g.order a → s a ≡ true →
      (c : Set) × IsClass g a c × ((v : ℕ) → Within g.order v → s v ≡ true → c v ≡ true) ×
      ((b : ℕ) (d : Set) → Within g.order b → IsClass g b d → ((v : ℕ) → Within g.order v → s v ≡ true → d v ≡ true) → (v : ℕ) → Within g.order v → c v ≡ d v)
  one_class s a bar wa sa =
      let c = class_found g is met some_perfect a wa in (
        c.0,
        c.2,
        class_holds_barrier g a c.0 s is wa c.2 bar sa,
        λ b d wb cd holds v wv.
            let ba = cd.holds a wa (holds a wa sa) in
            same_tests (c.0 v) (d v)
            (λ h. cd.all v wv (equivalent_over g b a v is met some_perfect wb wa wv ba (c.2.holds v wv h)))
            (λ h. c.2.all v wv (equivalent_over g a b v is met some_perfect wa wb wv (equivalent_back g b a ba) (cd.holds v wv h))),
      )

  pub class_critical : (a u : ℕ) (s : Set) → Within g.order a → IsClass g a s → Within g.order u → s u ≡ false → IsFactorCritical g (joined g s u)
  class_critical a u s wa cl wu su = maximal_critical g s u is some_perfect (class_maximal a s wa cl) wu su

-- an edge is in a perfect matching if and only if it joins two classes
joins_classes : (g : Graph) (e : ℕ) → IsGraph g → Within (size g) e → first_end g e ≢ second_end g e → Allowed g e ↔ (¬ Equivalent g (first_end g e) (second_end g e))
joins_classes g e is we d = (
  apart,
  λ h. elim (perfect_or_not g (ends_set g e)) [
    | inl p ↦ allowed_from g e is we d p
    | inr never ↦ absurd (h (inr (λ q. never q.0 q.1)))
  ],
)
  where
    own : inside g (ends_set g e) e ≡ true
    own = rw (eq-eqb (first_end g e) (first_end g e) refl, eq-eqb (second_end g e) (second_end g e) refl) (or_right_true (first_end g e == second_end g e))
      where
        or_right_true : (b : Bool) → (b || true) ≡ true
        or_right_true b = grind arith

    apart : Allowed g e → Equivalent g (first_end g e) (second_end g e) → ⊥
    apart m q = elim q [
      | inl same ↦ d same
      | inr none_left ↦
          let x : Set = ends_set g e in
          let few = count_pair g.order (first_end g e) (second_end g e) (is e we).0 (is e we).1 in
          let p = parity g is m.0 x m.1 in
          let one = member_count (size g) (λ i. m.0 i && inside g x i) e we (and_from (m.0 e) (inside g x e) m.2 own) in
          let t = turned_cut g m.0 x in
          let zero_cut : edges_in_cut g m.0 (complement x) ≡ 0 = omega arith in
          none_left (_, perfect_congr g (complement (complement x)) x _ (λ v wv. not_not (x v)) (restrict g m.0 (complement x) m.1 zero_cut))
    ]

-- a loop is in none, and its two ends are one
pub allowed_apart : (g : Graph) (e : ℕ) → IsGraph g → Within (size g) e → Allowed g e ↔ (¬ Equivalent g (first_end g e) (second_end g e))
allowed_apart g e is we = grind (arith, cases_eq, first_end, second_end, joins_classes, loop_free, none)

pub bicritical_single : (g : Graph) → IsBicritical g ↔ ((a b : ℕ) → Within g.order a → Within g.order b → Equivalent g a b → a ≡ b)
bicritical_single g = (
  (λ bi a b wa wb q. elim q [
    | inl same ↦ same
    | inr never ↦ elim (cases_eq a b) [
      | inl same ↦ same
      | inr d ↦ absurd (never (bi a b wa wb d))
    ]
  ]),
  (λ h a b wa wb d. elim (perfect_or_not g (pair_set a b)) [
    | inl m ↦ m
    | inr never ↦ absurd (d (h a b wa wb (inr (λ m. never m.0 m.1))))
  ]),
)
