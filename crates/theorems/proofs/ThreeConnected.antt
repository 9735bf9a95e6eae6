-- A graph with four vertices or more is 3-connected if and only if it has no cut pair. Fewer than
-- two vertices that separate a from b become two, as some others are left beside a and b; two
-- leaders beside a cut pair are separated.
use Rattle.tree_check.proofs.from_counting.Common.{◌≡◌, ◌≢◌, ℕ, suc, ◌+◌, ◌≤◌, Bool, true, false, ◌==◌, ◌&&◌, ◌||◌, not, refl, sym, ap, ◌∙◌, arith, eq-eqb, eqb-true, ne_eqb, ◌↔◌, inl, inr, cases_lt, both_ways, and_parts, not-true, false_from_ne_true, alike_not_apart, but_from, count_complement, count_member, count_minus, count_zero, two_of, count_mono, count_singleton, total_add, total_le, Within, bit, count, Set, complement, minus, pair_set, singleton}
use Rattle.barrier_kit.proofs.Common.{leader_same, leads_out, part_step}
use Rattle.quick_kinds.proofs.from_brick_kit.PairSeparations.{separates}
use Rattle.graph_core.proofs.Common.{joined_walk, walk_joined, joined_or_not, joined_self, component_count, is_least, Graph, IsGraph, first_end, second_end, IsCutPair, Joined, joined}
use Rattle.theorems.specs.Bricks.{IsThreeConnected}

pub count_pair : (n a b : ℕ) → Within n a → Within n b → count n (pair_set a b) ≤ 2
count_pair n a b wa wb =
    let l = total_le n (λ v. bit (pair_set a b v)) (λ v. bit (singleton a v) + bit (singleton b v)) (λ v w. bits (a == v) (b == v)) in
    let s = total_add n (λ v. bit (singleton a v)) (λ v. bit (singleton b v)) in
    let i = count_singleton n a wa in let j = count_singleton n b wb in omega arith
  where
    bits : (p q : Bool) → bit (p || q) ≤ bit p + bit q
    bits true q = omega arith
    bits false q = omega arith

-- a 3-connected graph has no cut pair
three_no_pair : (g : Graph) → IsGraph g → IsThreeConnected g → (u v : ℕ) → IsCutPair g u v → ⊥
unfolding component_count
three_no_pair g is three u v c =
    let p = two_of g.order (is_least g (pair_set u v)) c.parts in
    let j = three.connected (pair_set u v) (count_pair g.order u v c.first c.second) p.0 p.1 p.2 p.3 (leads_out g (pair_set u v) p.0 p.5) (leads_out g (pair_set u v) p.1 p.6) in
    p.4 (leader_same g (pair_set u v) is p.0 p.1 p.1 p.2 p.3 p.3 p.5 (walk_joined g (pair_set u v) is p.0 p.1 p.2 j) p.6 (walk_joined g (pair_set u v) is p.1 p.1 p.3 (joined_self g (pair_set u v) p.1)))

-- a member of t without which r has a member less, if it has any
take_one : (n k : ℕ) (r t : Set) → ((v : ℕ) → Within n v → r v ≡ true → t v ≡ true) → count n r ≤ suc k → 1 ≤ count n t → (u : ℕ) × Within n u × (t u ≡ true) × (count n (minus r (singleton u)) ≤ k)
take_one n k r t sub few some = elim (cases_lt 0 (count n r)) [
  | inl l ↦ let u = count_member n r l in let c = count_minus n r u.0 u.1 u.2 in (u.0, u.1, sub u.0 u.1 u.2, omega arith)
  | inr l ↦ let u = count_member n t some in let c = count_mono n (minus r (singleton u.0)) r (λ v w h. (and_parts (r v) (not (u.0 == v)) h).0) in (u.0, u.1, u.2, omega arith)
]

-- two vertices of t that hold all of r
take_two : (n : ℕ) (r t : Set) → ((v : ℕ) → Within n v → r v ≡ true → t v ≡ true) → count n r ≤ 2 → 2 ≤ count n t →
    (u v : ℕ) × Within n u × Within n v × (u ≢ v) × (t u ≡ true) × (t v ≡ true) × ((w : ℕ) → Within n w → pair_set u v w ≡ false → r w ≡ false)
take_two n r t sub few many =
    let u = take_one n 1 r t sub few (omega arith) in
    let c = count_minus n t u.0 u.1 u.2 in
    let v = take_one n 0 (minus r (singleton u.0)) (minus t (singleton u.0)) (λ v w h. let p = and_parts (r v) (not (u.0 == v)) h in but_from (t v) (u.0 == v) (sub v w p.0) (not-true (u.0 == v) p.1)) u.3 (omega arith) in
    let q = and_parts (t v.0) (not (u.0 == v.0)) v.2 in (
      u.0,
      v.0,
      u.1,
      v.1,
      (λ e. both_ways (u.0 == v.0) (not-true (u.0 == v.0) q.1) (eq-eqb u.0 v.0 e)),
      u.2,
      q.0,
      λ w ww o. let z = count_zero n (minus (minus r (singleton u.0)) (singleton v.0)) (let l = v.3 in omega arith) w ww in gone (r w) (u.0 == w) (v.0 == w) z o,
    )
  where
    gone : (a b c : Bool) → ((a && not b) && not c) ≡ false → (b || c) ≡ false → a ≡ false
    gone a b c h k = grind arith

-- what is left beside a and b
others : (n a b : ℕ) → Within n a → Within n b → 4 ≤ n → 2 ≤ count n (complement (pair_set a b))
others n a b wa wb four = let c = count_complement n (pair_set a b) in let d = count_pair n a b wa wb in omega arith

no_pair_three : (g : Graph) → IsGraph g → 4 ≤ g.order → ((u v : ℕ) → IsCutPair g u v → ⊥) → IsThreeConnected g
no_pair_three g is four none = record { four = four; connected = connected }
  where
    connected : (r : Set) → count g.order r ≤ 2 → (a b : ℕ) → Within g.order a → Within g.order b → r a ≡ false → r b ≡ false → Joined g r a b
    connected r few a b wa wb ra rb = elim (joined_or_not g r is a b wa) [
      | inl j ↦ j
      | inr alone ↦
          let p = take_two g.order r (complement (pair_set a b)) (λ v w h. beside (a == v) (b == v) (r v) h (λ t. ap r (sym (eqb-true a v t)) ∙ ra) (λ t. ap r (sym (eqb-true b v t)) ∙ rb)) few (others g.order a b wa wb four) in
          let ou = apart (a == p.0) (b == p.0) p.5 in
          let ov = apart (a == p.1) (b == p.1) p.6 in
          absurd (none p.0 p.1 (separates g p.0 p.1 (joined g r a) a b is p.2 p.3 p.4 wa wb
          (pair_out p.0 p.1 a (λ e. both_ways (a == p.0) ou.0 (eq-eqb a p.0 (sym e))) (λ e. both_ways (a == p.1) ov.0 (eq-eqb a p.1 (sym e))))
          (pair_out p.0 p.1 b (λ e. both_ways (b == p.0) ou.1 (eq-eqb b p.0 (sym e))) (λ e. both_ways (b == p.1) ov.1 (eq-eqb b p.1 (sym e))))
          (walk_joined g r is a a wa (joined_self g r a))
          (false_from_ne_true (joined g r a b) (λ t. alone (joined_walk g r a b t)))
          (λ e w f s. alike_not_apart (joined g r a (first_end g e)) (joined g r a (second_end g e)) (part_step g r a e is wa w (p.7 (first_end g e) (is e w).0 f) (p.7 (second_end g e) (is e w).1 s)))))
    ]
      where
        beside : (p q s : Bool) → s ≡ true → (p ≡ true → s ≡ false) → (q ≡ true → s ≡ false) → not (p || q) ≡ true
        beside p q s h i j = grind arith

        apart : (p q : Bool) → not (p || q) ≡ true → (p ≡ false) × (q ≡ false)
        apart p q h = grind arith

        pair_out : (u v w : ℕ) → u ≢ w → v ≢ w → pair_set u v w ≡ false
        pair_out u v w d e = rw (ne_eqb u w d, ne_eqb v w e) refl

-- no cut pair, if and only if 3-connected
pub pair_or_three : (g : Graph) → IsGraph g → 4 ≤ g.order → ((u v : ℕ) → IsCutPair g u v → ⊥) ↔ IsThreeConnected g
pair_or_three g is four = (no_pair_three g is four, three_no_pair g is)
