-- The components by least vertex are the components: each vertex is joined to exactly one least
-- vertex. The test for a least vertex looks at the vertices below it, and the lists are those of
-- the test for a walk.
use Rattle.counting.proofs.Common.{◌≡◌, ℕ, ◌≤◌, ◌<◌, true, false, ◌∙◌, sym, arith, ◌&&◌, not, nat_lt, lt-ltb, ltb-true, inl, refl, All, slice_index_or, and_parts, and_from, both_ways, false_from_ne_true, not-true, All-map, bit_true, only_one, rising_only, mem-item, mem-rising_list, rising_list-rises, some_true, true_some, some_term, Within, bit, count, is_odd, rising_list, Set, some}
use Rattle.graph_core.proofs.Common.{joined_walk, one_leader, some_leader, walk_joined, is_equivalent_found, is_equivalent_says, joined_self, component_count, components, is_least, odd_component_count, Graph, IsGraph, classes, is_equivalent, is_least_of_class, Joined, joined}
use Rattle.definition_laws.specs.Words.{IsComponent, IsListOfClass}

-- a least vertex is outside s, and no vertex joined to it is below it
pub least_says : (g : Graph) (s : Set) → IsGraph g → (u : ℕ) → Within g.order u → is_least g s u ≡ true → (s u ≡ false) × ((v : ℕ) → Within g.order v → Joined g s u v → u ≤ v)
least_says g s is u wu h =
    let b = and_parts (not (s u)) (not (some g.order (λ v. joined g s u v && nat_lt v u))) h in (
      not-true (s u) b.0,
      λ v wv j. not_below v (λ l. both_ways (some g.order (λ v. joined g s u v && nat_lt v u)) (not-true _ b.1)
          (true_some g.order (λ v. joined g s u v && nat_lt v u) v wv (and_from (joined g s u v) (nat_lt v u) (walk_joined g s is u v wu j) (lt-ltb v u l)))),
    )
  where
    not_below : (v : ℕ) → (v < u → ⊥) → u ≤ v
    not_below v h = grind arith

-- and such a vertex is a least one
pub least_found : (g : Graph) (s : Set) (u : ℕ) → s u ≡ false → ((v : ℕ) → Within g.order v → Joined g s u v → u ≤ v) → is_least g s u ≡ true
least_found g s u out all = grind (arith, and_from (not (s u)), nat_lt, false_from_ne_true, some_true g.order, and_parts, joined_walk g s u, ltb-true)

-- each vertex outside s is joined to exactly one least vertex
pub leader : (g : Graph) (s : Set) → IsGraph g → (v : ℕ) → Within g.order v → s v ≡ false →
    (u : ℕ) × Within g.order u × (is_least g s u ≡ true) × Joined g s u v × ((w : ℕ) → Within g.order w → is_least g s w ≡ true → Joined g s w v → w ≡ u)
leader g s is v wv out =
    let a = some_leader g s is v wv out in
    let b = one_leader g s is v wv in
    let one : count g.order (λ u. is_least g s u && joined g s u v) ≡ 1 = omega arith in
    let f = some_term g.order (λ u. bit (is_least g s u && joined g s u v)) (omega arith) in
    let t = bit_true (is_least g s f.0 && joined g s f.0 v) f.2 in
    let p = and_parts (is_least g s f.0) (joined g s f.0 v) t in
    (f.0, f.1, p.0, joined_walk g s f.0 v p.1, λ w ww l j. only_one g.order (λ u. is_least g s u && joined g s u v) one w f.0 ww f.1 (and_from (is_least g s w) (joined g s w v) l (walk_joined g s is w v ww j)) t)

-- the number of components counts the least vertices
pub count-leaders : (g : Graph) (s : Set) → component_count g s ≡ count g.order (is_least g s)
unfolding component_count
count-leaders g s = refl

-- and the number of odd components those whose component is odd
pub count-odd_leaders : (g : Graph) (s : Set) → odd_component_count g s ≡ count g.order (λ u. is_least g s u && is_odd (count g.order (joined g s u)))
unfolding odd_component_count
count-odd_leaders g s = refl

-- each list of `components` is a component
pub components-are : (g : Graph) (s : Set) → IsGraph g → All (IsComponent g s) (components g s)
unfolding components
components-are g s is = All-map (IsComponent g s) (λ u. rising_list g.order (joined g s u)) (rising_list g.order (is_least g s)) (λ i d l.
    one (slice_index_or (rising_list g.order (is_least g s)) i d) (rising_only g.order (is_least g s) (slice_index_or (rising_list g.order (is_least g s)) i d) (mem-item (rising_list g.order (is_least g s)) i d l)))
  where
    one : (u : ℕ) → Within g.order u × (is_least g s u ≡ true) → IsComponent g s (rising_list g.order (joined g s u))
    one u m = (
      rising_list-rises g.order (joined g s u),
      (
        u,
        m.0,
        (least_says g s is u m.0 m.1).0,
        mem-rising_list g.order (joined g s u) u m.0 ∙ walk_joined g s is u u m.0 (joined_self g s u),
        λ v w. (
          λ t. joined_walk g s u v (sym (mem-rising_list g.order (joined g s u) v w) ∙ t),
          λ j. mem-rising_list g.order (joined g s u) v w ∙ walk_joined g s is u v m.0 j,
        ),
      ),
    )

-- each list of `classes` is a class
pub classes-are : (g : Graph) → All (IsListOfClass g) (classes g)
unfolding classes
classes-are g = All-map (IsListOfClass g) (λ a. rising_list g.order (is_equivalent g a)) (rising_list g.order (is_least_of_class g)) (λ i d l.
    one (slice_index_or (rising_list g.order (is_least_of_class g)) i d) (rising_only g.order (is_least_of_class g) (slice_index_or (rising_list g.order (is_least_of_class g)) i d) (mem-item (rising_list g.order (is_least_of_class g)) i d l)))
  where
    one : (a : ℕ) → Within g.order a × (is_least_of_class g a ≡ true) → IsListOfClass g (rising_list g.order (is_equivalent g a))
    one a m = (
      rising_list-rises g.order (is_equivalent g a),
      (
        a,
        m.0,
        mem-rising_list g.order (is_equivalent g a) a m.0 ∙ is_equivalent_found g a a (inl refl),
        record {
          holds = λ v w t. is_equivalent_says g a v (sym (mem-rising_list g.order (is_equivalent g a) v w) ∙ t);
          all = λ v w e. mem-rising_list g.order (is_equivalent g a) v w ∙ is_equivalent_found g a v e;
        },
      ),
    )
