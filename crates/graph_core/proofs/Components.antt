-- The test for a walk against walks, and each vertex in exactly one component, which its least
-- vertex represents. A walk of as many steps as there are vertices is enough, and two least
-- vertices of one component are one.
use Rattle.vset_core.proofs.from_counting.Common.{◌≡◌, ℕ, ◌≤◌, true, false, refl, ap, ◌∙◌, length, arith, ◌&&◌, not, inl, inr, nat_lt, lt-ltb, ltb-true, cases_Bool, and_parts, and_from, both_ways, length-map, count_le, count_le_one, least_true, some_true, true_some, at_le_total, length-rising_list, Within, bit, count, rising_list, Set, some}
use Rattle.graph_core.proofs.Walks.{IsClosed, Walk-stays, adjacent-edge, adjacent_within, flood_closed, flood_own, flood_walk, joined_back, joined_on, joined_self}
use Rattle.graph_core.specs.Common.{component_count, components, is_least, Graph, IsGraph, Joined, adjacent, joined}

-- joined is the test for a walk
pub joined_walk : (g : Graph) (s : Set) (u v : ℕ) → joined g s u v ≡ true → Joined g s u v
unfolding joined Joined
joined_walk g s u v h = flood_walk g.order (adjacent g s) u g.order v h

pub walk_joined : (g : Graph) (s : Set) → IsGraph g → (u v : ℕ) → Within g.order u → Joined g s u v → joined g s u v ≡ true
unfolding joined Joined
walk_joined g s is u v w j = Walk-stays g.order (adjacent g s) (joined g s u) (adjacent_within g s is) (flood_closed g.order (adjacent g s) u w) u v j.0 (flood_own g.order (adjacent g s) u g.order) j.1

-- each vertex has at most one leader
pub one_leader : (g : Graph) (s : Set) → IsGraph g → (v : ℕ) → Within g.order v → count g.order (λ u. is_least g s u && joined g s u v) ≤ 1
one_leader g s is v w = count_le_one g.order (λ u. is_least g s u && joined g s u v) (λ a b wa wb l pa pb.
    let qa = and_parts (is_least g s a) (joined g s a v) pa in
    let qb = and_parts (is_least g s b) (joined g s b v) pb in
    let lead = and_parts (not (s b)) (not (some g.order (λ v. joined g s b v && nat_lt v b))) qb.0 in
    let ba = walk_joined g s is b a wb (joined_on g s b v a (joined_walk g s b v qb.1) (joined_back g s a v (joined_walk g s a v qa.1))) in
    let yes = true_some g.order (λ v. joined g s b v && nat_lt v b) a wa (and_from (joined g s b a) (nat_lt a b) ba (lt-ltb a b l)) in
    both_ways (not (some g.order (λ v. joined g s b v && nat_lt v b))) (ap not yes) lead.1)

-- a component keeps outside s
pub joined_outside : (g : Graph) (s : Set) → IsGraph g → (u v : ℕ) → s u ≡ false → joined g s u v ≡ true → s v ≡ false
unfolding IsClosed Joined
joined_outside g s is u v o j =
    let w = joined_walk g s u v j in
    grind (arith, Walk-stays g.order (adjacent g s) (λ v. not (s v)) (adjacent_within g s is) (λ a b wa wb x y. ap not (adjacent-edge g s a b y).1) u v w.0 (ap not o) w.1)

-- each vertex outside s has a leader
pub some_leader : (g : Graph) (s : Set) → IsGraph g → (v : ℕ) → Within g.order v → s v ≡ false → 1 ≤ count g.order (λ u. is_least g s u && joined g s u v)
some_leader g s is v w o =
    let l = least_true g.order (joined g s v) (true_some g.order (joined g s v) v w (walk_joined g s is v v w (joined_self g s v))) in
    let vu = joined_walk g s v l.0 l.2 in
    let lead : is_least g s l.0 ≡ true = and_from (not (s l.0)) (not (some g.order (λ w. joined g s l.0 w && nat_lt w l.0))) (ap not (joined_outside g s is v l.0 o l.2))
    (elim (cases_Bool (some g.order (λ w. joined g s l.0 w && nat_lt w l.0))) [
      | inr f ↦ ap not f
      | inl t ↦ let r = some_true g.order (λ w. joined g s l.0 w && nat_lt w l.0) t in
          let b = and_parts (joined g s l.0 r.0) (nat_lt r.0 l.0) r.2 in
          absurd (both_ways (joined g s v r.0) (l.3 r.0 r.1 (ltb-true r.0 l.0 b.1)) (walk_joined g s is v r.0 w (joined_on g s v l.0 r.0 vu (joined_walk g s l.0 r.0 b.0))))
    ]) in
    let one : bit (is_least g s l.0 && joined g s l.0 v) ≡ 1 = rw (lead, walk_joined g s is l.0 v l.1 (joined_back g s v l.0 vu)) refl in
    let a = at_le_total g.order (λ u. bit (is_least g s u && joined g s u v)) l.0 l.1 in omega arith

-- the list of the components is as long as there are components
pub length-components : (g : Graph) (s : Set) → length (components g s) ≡ component_count g s
unfolding components component_count
length-components g s = length-map (rising_list g.order (is_least g s)) (λ u. rising_list g.order (joined g s u)) ∙ length-rising_list g.order (is_least g s)

-- there are at most as many components as vertices
pub component_count_le : (g : Graph) (s : Set) → component_count g s ≤ g.order
unfolding component_count
component_count_le g s = count_le g.order (is_least g s)
