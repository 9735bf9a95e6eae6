-- A covered graph that is not bicritical has a class with a nontrivial tight cut, and a bicritical
-- one has none. If B is a barrier with at least two vertices, some component of G - B has at least
-- three: otherwise each edge would have one end in B.
use Rattle.graph_core.proofs.from_counting.Common.{◌≡◌, ℕ, suc, zero, ◌≤◌, ◌≢◌, Bool, true, false, ◌==◌, refl, sym, ap, ◌∙◌, arith, not, ◌⊎◌, ◌↔◌, inl, inr, cases_eq, cases_lt, cases_Bool, true≢false, both_ways, only_one, member_count, two_members, two_of, odd_three, count_singleton, count_mono, scan, count, Within, is_odd, Set, pair_set, complement, singleton}
use Rattle.barrier_kit.proofs.BarrierCuts.{leader_of, leads_out, part_out, part_step, part_same, none_inside, part_tight, many_parts}
use Rattle.barrier_kit.proofs.Barriers.{equivalent_barrier}
use Rattle.barrier_kit.proofs.ClassLaw.{perfect_or_not, class_exists, class_barrier}
use Rattle.barrier_kit.proofs.Matched.{cuts_met, even_order}
use Rattle.barrier_kit.specs.Common.{BarrierCut}
use Rattle.graph_core.proofs.Common.{IsSide, is_least, IsCovered, Graph, size, first_end, second_end, IsGraph, HasNoLoop, in_cut, inside, IsBipartite, IsPerfect, IsBarrier, IsBicritical, IsClass, IsTight, IsNontrivial, joined, walk_joined, covered_perfect, joined_self}

-- if B is a barrier of a covered graph, a component of G - B has a nontrivial cut if and only if B
-- has at least two vertices and the component more than one
pub part_nontrivial : (g : Graph) (s : Set) (a u : ℕ) → IsGraph g → IsCovered g → IsBarrier g s → Within g.order a → s a ≡ true → Within g.order u → s u ≡ false →
    IsNontrivial g.order (joined g s u) ↔ ((2 ≤ count g.order s) × (count g.order (joined g s u) ≢ 1))
part_nontrivial g s a u is cov bar wa sa wu su = (there, back)
  where
    at_two : (k : ℕ) → 1 ≤ k → k ≢ 1 → 2 ≤ k
    at_two k h n = omega (arith, n)

    there : IsNontrivial g.order (joined g s u) → (2 ≤ count g.order s) × (count g.order (joined g s u) ≢ 1)
    there t = (
      elim (cases_lt 1 (count g.order s)) [
        | inl l ↦ omega arith
        | inr l ↦
            let k = many_parts g is (cuts_met g is cov) s bar a wa sa in
            let r = leader_of g s is u wu su in
            let one = member_count g.order (is_least g s) r.0 r.1 r.2 in
            let q = count_mono g.order (complement (joined g s u)) s (λ v w h. elim (cases_Bool (s v)) [
              | inl y ↦ y
              | inr y ↦ grind (arith, leader_of g s is v w y, only_one g.order (is_least g s), part_same g s is r.0 u r.1 wu r.3 v, both_ways (complement (joined g s u) v))
            ]) in
            let o = t.outside in absurd (omega arith)
      ],
      λ e. let i = t.inside in omega arith,
    )

    back : (2 ≤ count g.order s) × (count g.order (joined g s u) ≢ 1) → IsNontrivial g.order (joined g s u)
    back h =
        let t = part_tight g s a u is cov bar wa sa wu su in
        let p = two_of g.order s h.0 in
        let two = two_members g.order (complement (joined g s u)) p.0 p.1 p.2 p.3 p.4 (ap not (part_out g s u p.0 is su p.5)) (ap not (part_out g s u p.1 is su p.6)) in
        let one = member_count g.order (joined g s u) u wu (walk_joined g s is u u wu (joined_self g s u)) in
        record { inside = odd_three _ t.odd (at_two (count g.order (joined g s u)) one h.1); outside = odd_three _ t.odd_complement two }

module _ (g : Graph) (is : IsGraph g) (cov : IsCovered g) (odd_cycle : (x : Set) → IsSide g x → ⊥) where
  -- a barrier with two vertices has a component with three
  pub barrier_cut : (s : Set) → IsBarrier g s → (a b : ℕ) → Within g.order a → Within g.order b → a ≢ b → s a ≡ true → s b ≡ true → BarrierCut g s
  barrier_cut s bar a b wa wb d sa sb = elim (scan g.order (λ u. (is_least g s u ≡ true) × (count g.order (joined g s u) ≢ 1)) (λ u. is_least g s u ≡ true → count g.order (joined g s u) ≡ 1) (λ u w. grind arith)) [
    | inl r ↦ grind (arith, leads_out g s r.0 r.2.0, part_tight g s a r.0 is cov bar wa sa r.1, part_nontrivial g s a r.0 is cov bar wa sa r.1, two_members g.order s a b wa wb d sa sb)
    | inr f ↦ absurd (odd_cycle s (λ e w d. go e w d f (s (first_end g e)) (s (second_end g e)) refl refl))
  ]
    where
      go : (e : ℕ) → Within (size g) e → first_end g e ≢ second_end g e → ((u : ℕ) → Within g.order u → is_least g s u ≡ true → count g.order (joined g s u) ≡ 1) → (x y : Bool) → s (first_end g e) ≡ x → s (second_end g e) ≡ y → in_cut g s e ≡ true
      go e w d f true false p q = rw (p, q) refl
      go e w d f false true p q = rw (p, q) refl
      go e w d f true true p q = absurd (both_ways (inside g s e) (none_inside g is cov s bar e w d) (rw (p, q) refl))
      go e w d f false false p q =
          let r = leader_of g s is (first_end g e) (is e w).0 p in
          absurd (d (only_one g.order (joined g s r.0) (f r.0 r.1 r.2) (first_end g e) (second_end g e) (is e w).0 (is e w).1 r.3 (sym (part_step g s r.0 e is r.1 w p q) ∙ r.3)))

  -- two vertices u and v such that g - u - v has no perfect matching
  pub critical_pair : (IsBicritical g → ⊥) → (a b : ℕ) × Within g.order a × Within g.order b × (a ≢ b) × ((m : Set) → IsPerfect g (pair_set a b) m → ⊥)
  critical_pair n = elim (scan g.order (λ a. (b : ℕ) × Within g.order b × ((a ≢ b) × ((m : Set) → IsPerfect g (pair_set a b) m → ⊥))) (λ a. (b : ℕ) → Within g.order b → a ≢ b → (m : Set) × IsPerfect g (pair_set a b) m) (λ a w. row a)) [
    | inl r ↦ (r.0, r.2.0, r.1, r.2.1, r.2.2.0, r.2.2.1)
    | inr f ↦ absurd (n (λ a b wa wb d. f a wa b wb d))
  ]
    where
      row : (a : ℕ) → ((b : ℕ) × Within g.order b × ((a ≢ b) × ((m : Set) → IsPerfect g (pair_set a b) m → ⊥))) ⊎ ((b : ℕ) → Within g.order b → a ≢ b → (m : Set) × IsPerfect g (pair_set a b) m)
      row a = scan g.order (λ b. (a ≢ b) × ((m : Set) → IsPerfect g (pair_set a b) m → ⊥)) (λ b. a ≢ b → (m : Set) × IsPerfect g (pair_set a b) m) (λ b w. grind (arith, cases_eq a b, perfect_or_not g (pair_set a b)))

  -- first law of the quick test: not bicritical, a class has a nontrivial tight cut
  pub class_cut : (IsBicritical g → ⊥) → (b : ℕ) × Within g.order b × ((s : Set) × IsClass g b s × BarrierCut g s)
  class_cut n =
      let p = critical_pair n in
      let s = class_exists g is cov p.0 p.2 in
      (p.0, p.2, (s.0, s.2, barrier_cut s.0 s.1 p.0 p.1 p.2 p.3 p.4 (s.2.all p.0 p.2 (inl refl)) (s.2.all p.1 p.3 (inr (λ h. p.5 h.0 h.1)))))

  -- at least four vertices, since two would have two sides
  pub four_vertices : 4 ≤ g.order
  four_vertices = let m = covered_perfect g is cov in go g.order refl cov.two (even_order g m.0 is m.1)
    where
      go : (n : ℕ) → g.order ≡ n → 2 ≤ g.order → is_odd g.order ≡ false → 4 ≤ g.order
      go zero e h o = absurd (omega arith)
      go (suc zero) e h o = absurd (omega arith)
      go (suc (suc zero)) e h o = absurd (odd_cycle (singleton 1) (grind arith))
      go (suc (suc (suc zero))) e h o = absurd (true≢false (sym (ap is_odd e) ∙ o))
      go (suc (suc (suc (suc n)))) e h o = omega arith

  module _ (brick : (x : Set) → IsTight g x → IsNontrivial g.order x → ⊥) where
    pub bicritical : IsBicritical g
    bicritical a b wa wb d = elim (perfect_or_not g (pair_set a b)) [
      | inl m ↦ m
      | inr f ↦
          let m = covered_perfect g is cov in
          let s = equivalent_barrier g m.0 a b is m.1 wa wb d f in
          let c = barrier_cut s.0 s.1 a b wa wb d s.2 s.3 in absurd (brick (joined g s.0 c.vertex) c.tight c.nontrivial)
    ]

-- a graph without loops has sides where it is bipartite
pub no_sides : (g : Graph) → HasNoLoop g → (IsBipartite g → ⊥) → (x : Set) → IsSide g x → ⊥
no_sides g loopless h x two = h (x, λ e w. two e w (loopless e w))

-- bicritical: each class is a vertex
pub class_single : (g : Graph) (b : ℕ) (s : Set) → IsBicritical g → Within g.order b → IsClass g b s → (v : ℕ) → Within g.order v → s v ≡ (b == v)
class_single g b s bi wb c v w = grind arith

-- and no component of a class has a nontrivial cut
pub class_trivial : (g : Graph) (b u : ℕ) (s : Set) → IsGraph g → IsCovered g → IsBicritical g → Within g.order b → IsClass g b s → Within g.order u → s u ≡ false → IsNontrivial g.order (joined g s u) → ⊥
class_trivial g b u s is cov bi wb c wu su t =
    let one = count_singleton g.order b wb in
    let z = count_mono g.order s (singleton b) (λ v w h. sym (class_single g b s bi wb c v w) ∙ h) in
    let r = ((part_nontrivial g s b u is cov (class_barrier g b s is cov wb c) wb (c.all b wb (inl refl)) wu su).0 t).0 in omega arith
