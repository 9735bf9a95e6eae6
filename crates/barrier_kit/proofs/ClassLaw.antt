-- The classes are the greatest barriers, and being equivalent is an equivalence, in a graph with a
-- perfect matching where each vertex set that is neither empty nor all has an edge of some perfect
-- matching in its cut. A barrier grows by each equivalent vertex outside it, until it is the whole
-- class.
use Rattle.graph_core.proofs.from_counting.Common.{◌≡◌, ℕ, suc, zero, ◌+◌, ◌≤◌, Bool, true, false, ◌==◌, refl, sym, ap, ◌∙◌, arith, ◌&&◌, ◌||◌, not, eq-eqb, eqb-true, ◌⊎◌, inl, inr, cases_eq, cases_Bool, both_ways, count_singleton, scan, choose_set, count_le, count_more, same_tests, Within, count, is_odd, Set, minus, none, singleton, union}
use Rattle.barrier_kit.proofs.BarrierCuts.{leader_of, leads_out, odd_part, part_out}
use Rattle.barrier_kit.proofs.Barriers.{barrier_pair, few_odd_components}
use Rattle.barrier_kit.proofs.Enlarging.{barrier_congr, enlarge, same_parity}
use Rattle.barrier_kit.proofs.Joining.{join}
use Rattle.barrier_kit.proofs.Matched.{cuts_met, even_order, glue, perfect_congr, AreCutsMet}
use Rattle.graph_core.proofs.Common.{covered_perfect, is_perfect_congr, is_perfect_true, true_is_perfect, odd_component_count, IsCovered, Graph, IsGraph, size, IsPerfect, is_perfect, Equivalent, IsBarrier, IsClass, joined}

pub perfect_or_not : (g : Graph) (r : Set) → ((m : Set) × IsPerfect g r m) ⊎ ((m : Set) → IsPerfect g r m → ⊥)
perfect_or_not g r = grind (arith, choose_set (size g) (is_perfect g r), is_perfect_congr g r, is_perfect_true g r, both_ways, true_is_perfect g r)

pub equivalent_or_not : (g : Graph) (a b : ℕ) → (Equivalent g a b) ⊎ (Equivalent g a b → ⊥)
equivalent_or_not g a b = elim (cases_eq a b) [
  | inl e ↦ inl (inl e)
  | inr d ↦ elim (perfect_or_not g (union (singleton a) (singleton b))) [
    | inl m ↦ inr (λ q. elim q [
      | inl e ↦ d e
      | inr f ↦ f m
    ])
    | inr f ↦ inl (inr (λ h. f h.0 h.1))
  ]
]

-- in a graph with a perfect matching where each cut is met
module _ (g : Graph) (is : IsGraph g) (met : AreCutsMet g) (p : (m : Set) × IsPerfect g none m) (b : ℕ) (wb : Within g.order b) where
  -- an equivalent vertex outside a barrier lets it grow
  grow : (s : Set) → IsBarrier g s → s b ≡ true → (a : ℕ) → Within g.order a → s a ≡ false → Equivalent g b a → (t : Set) × IsBarrier g t × ((w : ℕ) → s w ≡ true → t w ≡ true) × (t a ≡ true)
  grow s bar sb a wa sa q =
      let l = leader_of g s is a wa sa in
      enlarge g is p.0 p.1 s bar l.0 l.1 l.2 (odd_part g is met s bar l.0 b l.1 l.2 wb sb) a wa l.3 (λ k kp.
      let j = join g is met s bar b wb sb l.0 l.1 l.2 in
      let m = glue g (λ v. not (b == v) && not (joined g s l.0 v)) (minus (joined g s l.0) (singleton a)) j.0 k is (λ v wv x y. grind arith) j.1 kp in
      let n = perfect_congr g _ (union (singleton b) (singleton a)) _ (λ v wv. same (b == v) (joined g s l.0 v) (a == v)
      (λ t. ap (joined g s l.0) (sym (eqb-true b v t)) ∙ part_out g s l.0 b is (leads_out g s l.0 l.2) sb) (λ t. ap (joined g s l.0) (sym (eqb-true a v t)) ∙ l.3)) m in
      elim q [
        | inl e ↦ both_ways (s a) sa (ap s (sym e) ∙ sb)
        | inr f ↦ f (_, n)
      ])
    where
      same : (x k y : Bool) → (x ≡ true → k ≡ false) → (y ≡ true → k ≡ true) → not ((not x && not k) || (k && not y)) ≡ (x || y)
      same x k y h i = grind arith

  full : (k : ℕ) (s : Set) → IsBarrier g s → s b ≡ true → g.order ≤ count g.order s + k → (t : Set) × IsBarrier g t × (t b ≡ true) × ((a : ℕ) → Within g.order a → t a ≡ false → Equivalent g b a → ⊥)
  full zero s bar sb le = grind (arith, scan g.order, choose, grow s bar sb, count_more g.order s, count_le g.order)
    where
      choose : (a : ℕ) → ((s a ≡ false) × Equivalent g b a) ⊎ (s a ≡ false → Equivalent g b a → ⊥)
      choose a = grind (arith, cases_Bool (s a), both_ways (s a), equivalent_or_not g b a)
  full (suc k) s bar sb le = elim (scan g.order (λ a. (s a ≡ false) × Equivalent g b a) (λ a. s a ≡ false → Equivalent g b a → ⊥) (λ a w. choose a)) [
    | inl r ↦ let t = grow s bar sb r.0 r.1 r.2.0 r.2.1 in
        full k t.0 t.1 (t.2 b sb) (let c = count_more g.order s t.0 t.2 r.0 r.1 r.2.0 t.3 in omega arith)
    | inr f ↦ (s, bar, sb, f)
  ]
    where
      choose : (a : ℕ) → ((s a ≡ false) × Equivalent g b a) ⊎ (s a ≡ false → Equivalent g b a → ⊥)
      choose a = grind (arith, cases_Bool (s a), both_ways (s a), equivalent_or_not g b a)

  pub single_barrier : IsBarrier g (singleton b)
  single_barrier =
      let c = count_singleton g.order b wb in
      let l = few_odd_components g (singleton b) p.0 is p.1 in
      let o : is_odd (odd_component_count g (singleton b)) ≡ true = same_parity g (singleton b) is (even_order g p.0 is p.1) ∙ ap is_odd c in
      (grind arith)

  -- the class of b is a barrier
  pub class_found : (s : Set) × IsBarrier g s × IsClass g b s
  class_found =
      let t = full g.order (singleton b) single_barrier (eq-eqb b b refl) (omega arith) in (
        t.0,
        t.1,
        record {
          holds = λ v w h. elim (cases_eq b v) [
            | inl e ↦ inl e
            | inr d ↦ inr (λ h'. barrier_pair g t.0 b v is t.1 wb w d t.2 h h'.0 h'.1)
          ];
          all = λ v w q. elim (cases_Bool (t.0 v)) [
            | inl h ↦ h
            | inr f ↦ absurd (t.3 v w f q)
          ];
        },
      )

pub equivalent_self : (g : Graph) (a : ℕ) → Equivalent g a a
equivalent_self g a = inl refl

pub equivalent_back : (g : Graph) (a b : ℕ) → Equivalent g a b → Equivalent g b a
equivalent_back g a b q = grind arith

pub equivalent_over : (g : Graph) (a b c : ℕ) → IsGraph g → AreCutsMet g → (m : Set) × IsPerfect g none m → Within g.order a → Within g.order b → Within g.order c → Equivalent g a b → Equivalent g b c → Equivalent g a c
equivalent_over g a b c is met m wa wb wc p q = grind (arith, class_found g is met m b wb, cases_eq a c, barrier_pair g, equivalent_back g a b p)

pub class_is_barrier : (g : Graph) (b : ℕ) (s : Set) → IsGraph g → AreCutsMet g → (m : Set) × IsPerfect g none m → Within g.order b → IsClass g b s → IsBarrier g s
class_is_barrier g b s is met m wb c = grind (arith, class_found g is met m b wb, barrier_congr g, same_tests)

-- all this in a covered graph
pub class_exists : (g : Graph) → IsGraph g → IsCovered g → (b : ℕ) → Within g.order b → (s : Set) × IsBarrier g s × IsClass g b s
class_exists g is cov = class_found g is (cuts_met g is cov) (covered_perfect g is cov)

pub equivalent_on : (g : Graph) (a b c : ℕ) → IsGraph g → IsCovered g → Within g.order a → Within g.order b → Within g.order c → Equivalent g a b → Equivalent g b c → Equivalent g a c
equivalent_on g a b c is cov = equivalent_over g a b c is (cuts_met g is cov) (covered_perfect g is cov)

pub class_barrier : (g : Graph) (b : ℕ) (s : Set) → IsGraph g → IsCovered g → Within g.order b → IsClass g b s → IsBarrier g s
class_barrier g b s is cov = class_is_barrier g b s is (cuts_met g is cov) (covered_perfect g is cov)

-- a barrier lies in the class of each of its vertices
pub class_holds_barrier : (g : Graph) (b : ℕ) (s t : Set) → IsGraph g → Within g.order b → IsClass g b s → IsBarrier g t → t b ≡ true → (v : ℕ) → Within g.order v → t v ≡ true → s v ≡ true
class_holds_barrier g b s t is wb c bar tb v w tv = grind (arith, cases_eq b v, barrier_pair g t b v is bar wb w)
