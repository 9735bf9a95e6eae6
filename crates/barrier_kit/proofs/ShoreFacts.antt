-- The shores of the classes: each is tight, none is nontrivial in a bicritical graph, and in
-- another that is not bipartite some is. A class is a barrier, and what is true of each component
-- of each class is true of each item of the list.
use Rattle.graph_core.proofs.from_counting.Common.{◌≡◌, ◌≢◌, ℕ, ◌≤◌, true, false, refl, sym, ap, arith, ◌&&◌, not, inl, inr, List, [], map, nat_lt, ltb-true, All, rules, and_parts, both_ways, false_from_ne_true, All-map, two_members, mem-rising_list, least_true, some_true, true_some, Within, count, mem, rising_list, Set, some}
use Rattle.graph_core.proofs.Common.{is_equivalent_found, is_equivalent_says, nontrivial-same, tight-same, components, is_least, IsCovered, Graph, HasNoLoop, IsGraph, IsBicritical, IsClass, classes, is_equivalent, is_least_of_class, IsNontrivial, IsTight, canonical_shore, is_nontrivial, joined, IsSide, IsCanonicalCut}
use Rattle.barrier_kit.specs.Common.{BarrierCut, WideClass, barrier_cuts, barrier_shores}
use Rattle.barrier_kit.proofs.AllOf.{all_flat, all_rising, flat_all, map_all, rising_all}
use Rattle.barrier_kit.proofs.BarrierCuts.{leader_of, leads_out, none_inside, part_same, part_tight}
use Rattle.barrier_kit.proofs.ClassLaw.{class_barrier, equivalent_on}
use Rattle.barrier_kit.proofs.CriticalPairs.{barrier_cut, class_trivial, critical_pair}
use Rattle.barrier_kit.proofs.CutFacts.{canonical-wide, cuts-canonical, cuts-none, cuts-some, nontrivial-true, true-nontrivial, wide-canonical}

-- a set as a list is as tight and as nontrivial as the set
pub listed_tight : (g : Graph) (x : Set) → IsGraph g → IsTight g x → IsTight g (mem (rising_list g.order x))
listed_tight g x is t = tight-same g x (mem (rising_list g.order x)) is (λ v w. sym (mem-rising_list g.order x v w)) t

pub listed_narrow : (n : ℕ) (x : Set) → (IsNontrivial n x → ⊥) → is_nontrivial n (canonical_shore n (mem (rising_list n x))) ≡ false
listed_narrow n x h = false_from_ne_true _ (λ t. h (nontrivial-same n (mem (rising_list n x)) x (λ v w. mem-rising_list n x v w)
    (wide-canonical n (mem (rising_list n x)) (nontrivial-true n (canonical_shore n (mem (rising_list n x))) t))))

pub listed_wide : (n : ℕ) (x : Set) → IsNontrivial n x → is_nontrivial n (canonical_shore n (mem (rising_list n x))) ≡ true
listed_wide n x t = true-nontrivial n (canonical_shore n (mem (rising_list n x))) (canonical-wide n (mem (rising_list n x)) (nontrivial-same n x (mem (rising_list n x)) (λ v w. sym (mem-rising_list n x v w)) t))

-- the class of a as the list has it
abbrev pub class_set : Graph → ℕ → Set
class_set g a = mem (rising_list g.order (is_equivalent g a))

pub class_list : (g : Graph) (a : ℕ) → IsClass g a (class_set g a)
class_list g a = grind (arith, is_equivalent_says g a, mem-rising_list g.order (is_equivalent g a), is_equivalent_found g a)

class_own : (g : Graph) (a : ℕ) → Within g.order a → class_set g a a ≡ true
class_own g a w = (class_list g a).all a w (inl refl)

-- what is true of each component of each class
pub all_shores : (g : Graph) (P : List ℕ → Type 0) → ((a u : ℕ) → Within g.order a → Within g.order u → class_set g a u ≡ false → P (rising_list g.order (joined g (class_set g a) u))) → All P (barrier_shores g)
unfolding barrier_shores classes components
all_shores g P h =
    all_flat P (λ s. components g (mem s)) (map (λ a. rising_list g.order (is_equivalent g a)) (rising_list g.order (is_least_of_class g)))
    (All-map (λ s. All P (components g (mem s))) (λ a. rising_list g.order (is_equivalent g a)) (rising_list g.order (is_least_of_class g))
    (all_rising g.order (is_least_of_class g) (λ a. All P (components g (class_set g a))) (λ a wa t.
    All-map P (λ u. rising_list g.order (joined g (class_set g a) u)) (rising_list g.order (is_least g (class_set g a)))
    (all_rising g.order (is_least g (class_set g a)) (λ u. P (rising_list g.order (joined g (class_set g a) u))) (λ u wu l. h a u wa wu (leads_out g (class_set g a) u l))))))

pub shores_all : (g : Graph) (P : List ℕ → Type 0) → All P (barrier_shores g) → (a u : ℕ) → Within g.order a → is_least_of_class g a ≡ true → Within g.order u → is_least g (class_set g a) u ≡ true → P (rising_list g.order (joined g (class_set g a) u))
unfolding barrier_shores classes components
shores_all g P h a u wa la wu lu =
    let by_class = flat_all P (λ s. components g (mem s)) (map (λ a. rising_list g.order (is_equivalent g a)) (rising_list g.order (is_least_of_class g))) h in
    let by_least = map_all (λ s. All P (components g (mem s))) (λ a. rising_list g.order (is_equivalent g a)) (rising_list g.order (is_least_of_class g)) by_class in
    let here = rising_all g.order (is_least_of_class g) (λ a. All P (components g (class_set g a))) by_least a wa la in
    rising_all g.order (is_least g (class_set g a)) (λ u. P (rising_list g.order (joined g (class_set g a) u)))
    (map_all P (λ u. rising_list g.order (joined g (class_set g a) u)) (rising_list g.order (is_least g (class_set g a))) here) u wu lu

module _ (g : Graph) (is : IsGraph g) (cov : IsCovered g) where
  pub barrier_shores-tight : All (λ s. IsTight g (mem s)) (barrier_shores g)
  barrier_shores-tight = all_shores g (λ s. IsTight g (mem s)) (λ a u wa wu out.
      listed_tight g (joined g (class_set g a) u) is (part_tight g (class_set g a) a u is cov (class_barrier g a (class_set g a) is cov wa (class_list g a)) wa (class_own g a wa) wu out))

  pub barrier_cuts-canonical : All (IsCanonicalCut g) (barrier_cuts g)
  unfolding barrier_cuts
  barrier_cuts-canonical = cuts-canonical g (barrier_shores g) is (let t = cov.two in omega arith) barrier_shores-tight

  -- the least vertex of a class
  least_in_class : (a : ℕ) → Within g.order a → (u : ℕ) × Within g.order u × (is_least_of_class g u ≡ true) × (is_equivalent g u a ≡ true)
  least_in_class a wa =
      let r = least_true g.order (λ b. is_equivalent g b a) (true_some g.order (λ b. is_equivalent g b a) a wa (is_equivalent_found g a a (inl refl))) in
      let wu = r.1 in (
        r.0,
        wu,
        ap not (false_from_ne_true (some g.order (λ b. nat_lt b r.0 && is_equivalent g b r.0)) (λ t.
            let b = some_true g.order (λ b. nat_lt b r.0 && is_equivalent g b r.0) t in
            let p = and_parts (nat_lt b.0 r.0) (is_equivalent g b.0 r.0) b.2 in
            both_ways (is_equivalent g b.0 a) (r.3 b.0 b.1 (ltb-true b.0 r.0 p.0))
            (is_equivalent_found g b.0 a (equivalent_on g b.0 r.0 a is cov b.1 wu wa (is_equivalent_says g b.0 r.0 p.1) (is_equivalent_says g r.0 a r.2))))),
        r.2,
      )

  pub bicritical_no_cuts : IsBicritical g → barrier_cuts g ≡ []
  unfolding barrier_cuts
  bicritical_no_cuts bi = search (rules, cuts-none g.order (barrier_shores g), all_shores g, listed_narrow g.order, class_trivial g, class_list g)

  module _ (odd_cycle : (x : Set) → IsSide g x → ⊥) (no : IsBicritical g → ⊥) where
    -- a class of two vertices with its cut
    listed_class : (u : ℕ) × Within g.order u × (is_least_of_class g u ≡ true) × (2 ≤ count g.order (class_set g u)) × BarrierCut g (class_set g u)
    listed_class =
        let p = critical_pair g is cov odd_cycle no in
        let l = least_in_class p.0 p.2 in
        let wu = l.1 in
        let class = class_list g l.0 in
        let first = class.all p.0 p.2 (is_equivalent_says g l.0 p.0 l.3) in
        let second = class.all p.1 p.3 (equivalent_on g l.0 p.0 p.1 is cov wu p.2 p.3 (is_equivalent_says g l.0 p.0 l.3) (inr (λ h. p.5 h.0 h.1))) in (
          l.0,
          wu,
          l.2,
          two_members g.order (class_set g l.0) p.0 p.1 p.2 p.3 p.4 first second,
          barrier_cut g is cov odd_cycle (class_set g l.0) (class_barrier g l.0 (class_set g l.0) is cov wu class) p.0 p.1 p.2 p.3 p.4 first second,
        )

    pub wide_class : HasNoLoop g → WideClass g
    wide_class loopless =
        let c = listed_class in
        let cut = c.4 in
        record {
          vertex = c.0;
          class = class_set g c.0;
          within = c.1;
          is_class = class_list g c.0;
          two = c.3;
          independent = λ e w. none_inside g is cov (class_set g c.0) (class_barrier g c.0 (class_set g c.0) is cov c.1 (class_list g c.0)) e w (loopless e w);
          beside = cut.vertex;
          beside_within = cut.within;
          outside = cut.outside;
          three = cut.nontrivial.inside;
        }

    pub some_cut : barrier_cuts g ≢ []
    unfolding barrier_cuts
    some_cut e =
        let c = listed_class in
        let cut = c.4 in
        let s = class_set g c.0 in
        let l = leader_of g s is cut.vertex cut.within cut.outside in
        let wide = nontrivial-same g.order (joined g s cut.vertex) (joined g s l.0) (λ v w. sym (part_same g s is l.0 cut.vertex l.1 cut.within l.3 v)) cut.nontrivial in
        let narrow = shores_all g (λ s. is_nontrivial g.order (canonical_shore g.order (mem s)) ≡ false) (cuts-some g.order (barrier_shores g) e) c.0 l.0 c.1 c.2 l.1 l.2 in
        both_ways (is_nontrivial g.order (canonical_shore g.order (mem (rising_list g.order (joined g s l.0))))) narrow (listed_wide g.order (joined g s l.0) wide)
