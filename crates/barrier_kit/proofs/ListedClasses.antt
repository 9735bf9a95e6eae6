-- The classes found one after the other: a vertex is the least of its class if and only if no class
-- before it holds it. A class is met by its least vertex, and by transitivity a vertex that was met
-- adds no vertex to those met.
use Rattle.std.proofs.Common.{◌≡◌, ℕ, suc, ◌+◌, ◌<◌, ◌≤◌, ◌↔◌, Bool, true, false, refl, sym, ap, ◌∙◌, arith, ◌&&◌, ◌||◌, not, cond, List, [], ◌∷◌, ◌++◌, map, nat_lt, ltb-true, lt-ltb, subst, append-nil}
use Rattle.graph_core.proofs.from_counting.Common.{same_tests, cases_Bool, and_parts, and_from, both_ways, false_from_ne_true, map-append, rising_only, mem-rising_list, rising_list-rises, same_rising_list, set-wider, some_true, true_some, Within, IsRisingIn, mem, rising_list, Set, none, some}
use Rattle.graph_core.proofs.Common.{has_perfect_found, is_equivalent_found, is_equivalent_says, IsCovered, Graph, IsGraph, HasPerfect, has_perfect, classes, is_equivalent, is_least_of_class}
use Rattle.graph_facts.specs.from_match_core.Common.{are_partners}
use Rattle.barrier_kit.proofs.ClassLaw.{equivalent_on}
use Rattle.barrier_kit.proofs.Matched.{perfect_congr}

-- the test is true if and only if there is a perfect matching
pub has_perfect-true : (g : Graph) (r s : Set) → ((v : ℕ) → r v ≡ s v) → HasPerfect g r → has_perfect g s ≡ true
has_perfect-true g r s same m = has_perfect_found g s (m.0, perfect_congr g r s m.0 (λ v w. same v) m.1)

-- an increasing list by its last number
pub rising_list-more : (k : ℕ) (x : Set) → rising_list (k + 1) x ≡ rising_list k x ++ cond (x (k + 1)) ((k + 1) ∷ []) []
rising_list-more k x = grind arith

-- all of 1 to n but the partners of a are the class of a
pub class-row : (g : Graph) (full row class : List ℕ) (a : ℕ) → g.order ≤ 128 → IsRisingIn 128 class → ((v : ℕ) → (mem full v ≡ true) ↔ Within g.order v) →
    ((v : ℕ) → mem class v ≡ (mem full v && not (mem row v))) → ((v : ℕ) → Within g.order v → mem row v ≡ are_partners g none a v) → class ≡ rising_list g.order (is_equivalent g a)
class-row g full row class a few rises all outside partners =
    same_rising_list 128 class (rising_list g.order (is_equivalent g a)) rises (set-wider g.order 128 (rising_list g.order (is_equivalent g a)) few (rising_list-rises g.order (is_equivalent g a))) (λ v w. here v)
  where
    here : (v : ℕ) → mem class v ≡ mem (rising_list g.order (is_equivalent g a)) v
    here v = grind (arith, cases_Bool, mem-rising_list, false_from_ne_true, both_ways, rising_only)

-- some number below k + 1 passes if and only if one of 1 to k does
some_below : (n k : ℕ) (p : Set) → k < n → some n (λ b. nat_lt b (k + 1) && p b) ≡ some k p
some_below n k p l = same_tests _ _
    (λ t. let b = some_true n (λ b. nat_lt b (k + 1) && p b) t in
    let h = and_parts (nat_lt b.0 (k + 1)) (p b.0) b.2 in
    let j = ltb-true b.0 (k + 1) h.0 in let w = b.1 in
    true_some k p b.0 (omega arith) h.1)
    (λ t. let b = some_true k p t in let w = b.1 in
    true_some n (λ b. nat_lt b (k + 1) && p b) b.0 (omega arith) (and_from (nat_lt b.0 (k + 1)) (p b.0) (lt-ltb b.0 (k + 1) (omega arith)) b.2))

module _ (g : Graph) (is : IsGraph g) (cov : IsCovered g) where
  class_at : ℕ → List ℕ
  class_at a = rising_list g.order (is_equivalent g a)

  least-first : (k : ℕ) → k < g.order → is_least_of_class g (k + 1) ≡ not (some k (λ a. is_equivalent g a (k + 1)))
  least-first k l = ap not (some_below g.order k (λ a. is_equivalent g a (k + 1)) l)

  -- a vertex outside the classes before it begins a class
  pub classes-taken : (k : ℕ) (list after : List (List ℕ)) (met new : Set) (class : List ℕ) → k < g.order →
      list ≡ map (λ a. rising_list g.order (is_equivalent g a)) (rising_list k (is_least_of_class g)) → ((v : ℕ) → Within g.order v → met v ≡ some k (λ a. is_equivalent g a v)) → met (k + 1) ≡ false →
      class ≡ rising_list g.order (is_equivalent g (k + 1)) → after ≡ list ++ class ∷ [] → ((v : ℕ) → new v ≡ (met v || mem class v)) →
      (after ≡ map (λ a. rising_list g.order (is_equivalent g a)) (rising_list (k + 1) (is_least_of_class g))) × ((v : ℕ) → Within g.order v → new v ≡ some (k + 1) (λ a. is_equivalent g a v))
  unfolding class_at
  classes-taken k list after met new class l old_list old_met out is_class is_after is_new = grind (arith, map-append, class_at, rising_list-more, mem-rising_list, least-first)

  -- a vertex of a class before it begins none
  pub classes-passed : (k : ℕ) (list : List (List ℕ)) (met : Set) → k < g.order →
      list ≡ map (λ a. rising_list g.order (is_equivalent g a)) (rising_list k (is_least_of_class g)) → ((v : ℕ) → Within g.order v → met v ≡ some k (λ a. is_equivalent g a v)) → met (k + 1) ≡ true →
      (list ≡ map (λ a. rising_list g.order (is_equivalent g a)) (rising_list (k + 1) (is_least_of_class g))) × ((v : ℕ) → Within g.order v → met v ≡ some (k + 1) (λ a. is_equivalent g a v))
  unfolding class_at
  classes-passed k list met l old_list old_met inside = (
    old_list ∙ ap (map class_at) (sym (append-nil (rising_list k (is_least_of_class g)))
        ∙ ap (λ ys. rising_list k (is_least_of_class g) ++ ys) (sym (ap (λ b. cond b ((k + 1) ∷ []) []) begins))
        ∙ sym (rising_list-more k (is_least_of_class g))),
    λ v w. old_met v w ∙ same v w ∙ grown v,
  )
    where
      here : some k (λ a. is_equivalent g a (k + 1)) ≡ true
      here = sym (old_met (k + 1) (omega arith)) ∙ inside

      begins : is_least_of_class g (k + 1) ≡ false
      begins = least-first k l ∙ ap not here

      grown : (v : ℕ) → (some k (λ a. is_equivalent g a v) || is_equivalent g (k + 1) v) ≡ some (k + 1) (λ a. is_equivalent g a v)
      grown v = let e : suc k ≡ k + 1 = omega arith in subst (λ j. (some k (λ a. is_equivalent g a v) || is_equivalent g j v) ≡ some j (λ a. is_equivalent g a v)) e refl

      or_same : (a b : Bool) → (b ≡ true → a ≡ true) → a ≡ (a || b)
      or_same a b h = grind arith

      same : (v : ℕ) → Within g.order v → some k (λ a. is_equivalent g a v) ≡ (some k (λ a. is_equivalent g a v) || is_equivalent g (k + 1) v)
      same v w = or_same (some k (λ a. is_equivalent g a v)) (is_equivalent g (k + 1) v) (λ t.
          let a = some_true k (λ a. is_equivalent g a (k + 1)) here in
          let wa = a.1 in
          true_some k (λ a. is_equivalent g a v) a.0 a.1 (is_equivalent_found g a.0 v
          (equivalent_on g a.0 (k + 1) v is cov (omega arith) (omega arith) w (is_equivalent_says g a.0 (k + 1) a.2) (is_equivalent_says g (k + 1) v t))))

  pub classes-all : (k : ℕ) (list : List (List ℕ)) → k ≡ g.order → list ≡ map (λ a. rising_list g.order (is_equivalent g a)) (rising_list k (is_least_of_class g)) → list ≡ classes g
  unfolding classes
  classes-all k list e h = h ∙ ap (λ j. map (λ a. rising_list g.order (is_equivalent g a)) (rising_list j (is_least_of_class g))) e
