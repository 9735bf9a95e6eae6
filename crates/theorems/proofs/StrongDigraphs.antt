-- No nontrivial tight shore parts a vertex a of the side from its mate b if and only if the digraph
-- of the matching without a and b is strongly connected. A walk that begins no step at a never
-- comes to b, since the only arc to b is that of a; and a tight shore with a and without b holds
-- what a walk that keeps away from both leads to.
use Rattle.tree_check.proofs.from_counting.Common.{◌≡◌, ◌≢◌, ℕ, Bool, true, false, cond, ◌==◌, refl, sym, ap, ◌∙◌, arith, ◌&&◌, ◌||◌, ◌↔◌, not, eq-eqb, ne_eqb, inl, inr, List, [], ◌∷◌, and_from, and_parts, both_ways, not-true, Within, Set, complement, none}
use Rattle.graph_core.proofs.Common.{IsClosed, Walk-stays, adjacent-edge, adjacent_within, IsCovered, Graph, IsGraph, IsPerfect, IsSide, HasOnlyTrivialTightCuts, Walk, adjacent}
use Rattle.quick_kinds.proofs.from_matching_digraph.ArcRows.{past-walks}
use Rattle.quick_kinds.proofs.from_matching_digraph.Shores.{second_member}
use Rattle.quick_kinds.proofs.from_matching_digraph.Spans.{none_at_all, none_spans}
use Rattle.quick_kinds.proofs.from_matching_digraph.TightShores.{at_ends, ends_of_mates, mate_one, mates_cross, tight_closed}
use Rattle.quick_kinds.specs.from_matching_digraph.Digraph.{NoArcLeaves, NoneParts, arc, are_mates, step_past}
use Rattle.theorems.specs.Braces.{IsStrongWithout, step_without}

tested : (u v : ℕ) → u ≢ v → not (v == u) ≡ true
tested u v d = ap not (ne_eqb v u (λ q. d (sym q)))

from_test : (u v : ℕ) → not (v == u) ≡ true → u ≢ v
from_test u v h q = both_ways (v == u) (not-true (v == u) h) (eq-eqb v u (sym q))

-- a walk that begins no step at a and ends elsewhere begins elsewhere
begins : (adj : ℕ → ℕ → Bool) (a u v : ℕ) (ws : List ℕ) → v ≢ a → Walk (step_past a adj) u ws v → u ≢ a
begins adj a u v [] va h q = va (sym h ∙ q)
begins adj a u v (w ∷ ws) va h q = from_test u a (and_parts (not (a == u)) (adj u w) h.0).0 q

module _ (g : Graph) (is : IsGraph g) (x m : Set) (a b : ℕ) where
  abbrev past : ℕ → ℕ → Bool
  past = step_past a (arc g x m)

  abbrev without : ℕ → ℕ → Bool
  without = step_without a b (arc g x m)

  arc_within : (u v : ℕ) → arc g x m u v ≡ true → Within g.order u × Within g.order v
  arc_within u v h = go (x u) h
    where
      go : (s : Bool) → cond s (are_mates g m u v) (adjacent g none u v) ≡ true → Within g.order u × Within g.order v
      go true h = ends_of_mates g is m u v h
      go false h = adjacent_within g none is u v h

  -- a step that keeps away from a and b is an arc that does not begin at a
  step_arc : (u v : ℕ) → without u v ≡ true → (past u v ≡ true) × (arc g x m u v ≡ true)
  step_arc u v h = grind arith

  -- a set that no arc leaves but from a holds what such a walk leads to
  kept : (y : Set) → NoArcLeaves g x m a y → (u v : ℕ) (ws : List ℕ) → y u ≡ true → Walk without u ws v → y v ≡ true
  unfolding IsClosed
  kept y closed u v ws yu h = Walk-stays g.order without y (λ s t k. arc_within s t (step_arc s t k).1) (λ s t ws wt ys k. closed s t ws wt ys (step_arc s t k).0) u v ws yu h

module _ (g : Graph) (is : IsGraph g) (cov : IsCovered g) (m : Set) (perfect : IsPerfect g none m) (x : Set) (two : IsSide g x) where
  module _ (a b : ℕ) (mates : are_mates g m a b ≡ true) (xa : x a ≡ true) where
    wa : Within g.order a
    wa = (ends_of_mates g is m a b mates).0

    wb : Within g.order b
    wb = (ends_of_mates g is m a b mates).1

    xb : x b ≡ false
    xb = flip (x a) (x b) (mates_cross g is x m two perfect a b mates) xa
      where
        flip : (s t : Bool) → s ≡ not t → s ≡ true → t ≡ false
        flip s t h k = grind arith

    -- the only arc to b from another vertex is that of a
    into : (u : ℕ) → u ≢ a → u ≢ b → arc g x m u b ≡ true → ⊥
    into u ua ub h = go (x u) refl h
      where
        turn : (s t : Bool) → ((s && not t) || (not s && t)) ≡ true → ((t && not s) || (not t && s)) ≡ true
        turn s t h = grind arith

        apart : (s t : Bool) → s ≡ false → t ≡ false → ((s && not t) || (not s && t)) ≡ true → ⊥
        apart s t p q h = grind arith

        go : (s : Bool) → x u ≡ s → cond s (are_mates g m u b) (adjacent g none u b) ≡ true → ⊥
        go true xu h = ua (mate_one g is x m two perfect u a b wb h mates)
        go false xu h =
            let e = adjacent-edge g none u b h in
            apart (x u) (x b) xu xb (at_ends g (λ s t. s ≢ t → ((x s && not (x t)) || (not (x s) && x t)) ≡ true) u b e.2.0 (λ s t f q. turn (x s) (x t) (f (λ i. q (sym i)))) e.2.2 (two e.2.0 e.2.1) ub)

    -- so a walk that begins no step at a keeps away from b as well
    away : (u v : ℕ) (ws : List ℕ) → u ≢ a → u ≢ b → v ≢ a → v ≢ b → Walk (step_past a (arc g x m)) u ws v → Walk (step_without a b (arc g x m)) u ws v
    away u v [] ua ub va vb h = h
    away u v (w ∷ ws) ua ub va vb h =
        let p = and_parts (not (a == u)) (arc g x m u w) h.0 in
        let wa = begins (arc g x m) a w v ws va h.1 in
        let wb : w ≢ b = λ q. into u ua ub (ap (arc g x m u) (sym q) ∙ p.1) in (
          and_from ((not (a == u) && not (b == u)) && (not (a == w) && not (b == w))) (arc g x m u w)
              (and_from (not (a == u) && not (b == u)) (not (a == w) && not (b == w)) (and_from (not (a == u)) (not (b == u)) p.0 (tested u b ub)) (and_from (not (a == w)) (not (b == w)) (tested w a wa) (tested w b wb)))
              p.1,
          away w v ws wa wb va vb h.1,
        )

    strong : NoneParts g a b → IsStrongWithout g x m a b
    strong clear u v wu wv ua ub va vb =
        let r = (past-walks g is x m a u v wu).0 (none_spans g is cov m perfect x two a b u wa wb wu mates xa ua ub clear v wv vb) in
        elim r [
          | inl q ↦ absurd (va (sym q))
          | inr w ↦ (w.0, away u v w.0 ua ub va vb w.1)
        ]

    none_parts : IsStrongWithout g x m a b → NoneParts g a b
    none_parts each y t n ya yb =
        let u = second_member g.order y a n.inside wa ya in
        let v = second_member g.order (complement y) b n.outside wb (ap not yb) in
        let yv = not-true (y v.0) v.2 in
        let ub : u.0 ≢ b = λ q. both_ways (y u.0) (ap y q ∙ yb) u.2 in
        let va : v.0 ≢ a = λ q. both_ways (y v.0) yv (ap y q ∙ ya) in
        let w = each u.0 v.0 u.1 v.1 u.3 ub va v.3 in
        both_ways (y v.0) yv (kept g is x m a b y (tight_closed g is x m two perfect a b wa mates xa y ya yb cov t) u.0 v.0 w.0 u.2 w.1)

    pub mates_strong : NoneParts g a b ↔ IsStrongWithout g x m a b
    mates_strong = (strong, none_parts)

  pub brace_strong : HasOnlyTrivialTightCuts g ↔ ((a b : ℕ) → x a ≡ true → are_mates g m a b ≡ true → IsStrongWithout g x m a b)
  brace_strong = (
    (λ clear a b xa mates. strong a b mates xa (λ y t n ya yb. clear y t n)),
    (λ each y t n. none_at_all g is cov m perfect x two (λ a b wa wb xa mates. none_parts a b mates xa (each a b xa mates)) y t n),
  )
