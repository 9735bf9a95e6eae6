-- The sets D and A are the outer and the inner vertices of a frame, so that D is the union of the
-- odd components of G - A. Each maximum matching attains the bound of Berge at A, and the
-- components of G[D] are the odd components of G - A.
use Rattle.tree_check.proofs.from_counting.Common.{◌≡◌, ◌↔◌, ℕ, ◌+◌, true, false, refl, sym, ap, ◌∙◌, arith, ◌&&◌, not, inl, inr, [], ◌∷◌, nat_lt, cases_Bool, both_ways, false_from_ne_true, and_parts, and_from, not-false, same_tests, count_congr, some_congr, fun_ext, Within, count, is_odd, Set, complement, none}
use Rattle.barrier_kit.proofs.Common.{leads_out}
use Rattle.graph_core.proofs.Common.{has_ends-from, joined_outside, joined_walk, walk_joined, edge_of, IsClosed, Walk-stays, adjacent-edge, adjacent_from, adjacent_within, has_ends-cases, joined_on, joined_self, Attains, component_count, is_least, odd_component_count, InA, InD, Graph, HasEnds, IsGraph, first_end, second_end, size, IsMaximum, Joined, adjacent, joined}
use Rattle.match_core.proofs.OddComponents.{Best, best, certificate_components, certificate_maximum, inner_next, missable_outer, next_inner, outer_free, outer_missable}
use Rattle.match_core.proofs.OuterComponents.{odd_outer, outer_odd}
use Rattle.match_search.specs.Common.{Frame}
use Rattle.theorems.specs.Matchings.{AreThreeSets}

-- the ends of an edge are vertices
pub ends_within : (g : Graph) (e v w : ℕ) → IsGraph g → Within (size g) e → HasEnds g e v w → Within g.order v × Within g.order w
ends_within g e v w is we h = grind arith

pub turn_ends : (g : Graph) (e v w : ℕ) → HasEnds g e v w → HasEnds g e w v
turn_ends g e v w h = elim h [ inl q ↦ inr q | inr q ↦ inl q ]

-- the sets D, A and C of the outer and inner vertices of a frame
module _ (g : Graph) (is : IsGraph g) where
  found : Best g none
  found = best g none is

  missable : (v : ℕ) → Within g.order v → (found.outer v ≡ true) ↔ InD g v
  missable v w = (
    (λ t. (outer_missable g is none (count (size g) found.m) found.outer found.inner found.frame found.m found.is refl v w t).1),
    (λ q. missable_outer g is none (count (size g) found.m) found.outer found.inner found.frame found.m found.is refl v w refl q.0 q.1 q.2),
  )

  next : (v : ℕ) → Within g.order v → (found.inner v ≡ true) ↔ InA g v
  next v w = (
    (λ t. let n = inner_next g is none (count (size g) found.m) found.outer found.inner found.frame found.m found.is refl v w t in
        let o = n.2.1 in
        let wo = (ends_within g n.2.0 v o is n.2.2 n.2.3).1 in (
          (λ q. both_ways (found.outer v) n.0 ((missable v w).1 q)),
          (o, wo, (missable o wo).0 n.2.4, adjacent_from g none v o n.2.0 refl refl n.2.2 (has_ends-from g v o n.2.0 n.2.3)),
        )),
    (λ q. let e = edge_of g none v q.1.0 q.1.3 in
        next_inner g is none (count (size g) found.m) found.outer found.inner found.frame found.m found.is refl v w
        (false_from_ne_true (found.outer v) (λ t. q.0 ((missable v w).0 t))) refl e.0 q.1.0 e.1 e.4 ((missable q.1.0 q.1.1).1 q.1.2)),
  )

  -- the three sets are there
  pub three_sets : (d : Set) × (a : Set) × (c : Set) × AreThreeSets g d a c
  three_sets = (
    found.outer,
    found.inner,
    (λ v. not (found.outer v) && not (found.inner v)),
    record {
      in_d = missable;
      in_a = next;
      in_c = λ v w. (
        (λ t. let p = and_parts (not (found.outer v)) (not (found.inner v)) t in (
          (λ q. both_ways (not (found.outer v)) (ap not ((missable v w).1 q)) p.0),
          (λ q. both_ways (not (found.inner v)) (ap not ((next v w).1 q)) p.1),
        )),
        (λ q. and_from (not (found.outer v)) (not (found.inner v))
            (ap not (false_from_ne_true (found.outer v) (λ t. q.0 ((missable v w).0 t))))
            (ap not (false_from_ne_true (found.inner v) (λ t. q.1 ((next v w).0 t))))),
      );
    },
  )

module _ (g : Graph) (is : IsGraph g) (d a c : Set) (sets : AreThreeSets g d a c) where
  abbrev b : Best g none
  b = found g is

  abbrev k : ℕ
  k = count (size g) b.m

  outer_d : (v : ℕ) → Within g.order v → b.outer v ≡ d v
  outer_d v w = same_tests (b.outer v) (d v) (λ t. (sets.in_d v w).1 ((missable g is v w).0 t)) (λ t. (missable g is v w).1 ((sets.in_d v w).0 t))

  inner_a : (v : ℕ) → Within g.order v → b.inner v ≡ a v
  inner_a v w = same_tests (b.inner v) (a v) (λ t. (sets.in_a v w).1 ((next g is v w).0 t)) (λ t. (next g is v w).1 ((sets.in_a v w).0 t))

  frame : Frame g none k d a
  frame = record {
    label = b.frame.label;
    classes = b.frame.classes;
    certificate = record {
      outside = λ v w t. refl;
      labels = record {
        low = b.frame.certificate.labels.low;
        away = λ v w t. b.frame.certificate.labels.away v w (inner_a v w ∙ t);
        along = λ e w s t. b.frame.certificate.labels.along e w (inner_a (first_end g e) (is e w).0 ∙ s) (inner_a (second_end g e) (is e w).1 ∙ t);
        odd = b.frame.certificate.labels.odd;
      };
      sizes = ap (λ j. count g.order (complement none) + j) (sym (count_congr g.order b.inner a inner_a)) ∙ b.frame.certificate.sizes;
    };
    labelled = λ v w. sym (outer_d v w) ∙ b.frame.labelled v w;
    missable = λ v w t. b.frame.missable v w (outer_d v w ∙ t);
    seen = λ v w t. let s = b.frame.seen v w (inner_a v w ∙ t) in (s.0, s.1, s.2, s.3, sym (outer_d s.1 (ends_within g s.0 v s.1 is s.2 s.3).1) ∙ s.4);
  }

  same_size : (m : Set) → IsMaximum g none m → count (size g) m ≡ k
  same_size m mm = grind (arith, certificate_maximum, none, frame)

  -- A is a set of Berge
  pub attains : (m : Set) → IsMaximum g none m → Attains g none a m
  attains m mm = (certificate_components g none a k frame.label frame.classes is frame.certificate m mm.is (same_size m mm)).1

  -- D is what is in odd components of G - A
  pub d_out : (v : ℕ) → Within g.order v → d v ≡ true → a v ≡ false
  d_out v w t = outer_free g is none k d a frame b.m b.is refl v w t

  pub d_odd : (v : ℕ) → Within g.order v → d v ≡ true → is_odd (count g.order (joined g a v)) ≡ true
  d_odd v w t = outer_odd g is none k d a frame b.m b.is refl v w t

  pub odd_d : (v : ℕ) → Within g.order v → a v ≡ false → is_odd (count g.order (joined g a v)) ≡ true → d v ≡ true
  odd_d v w o t = odd_outer g is none k d a frame b.m b.is refl v w refl o t

  -- an edge from D leads to D or to A
  pub d_step : (e v w : ℕ) → Within (size g) e → HasEnds g e v w → d v ≡ true → a w ≡ false → d w ≡ true
  d_step e v w we h dv aw = grind (arith, cases_Bool, both_ways, next_inner, none, frame, ends_within, turn_ends)

  -- the components of G[D] are components of G - A
  pub same_component : (u v : ℕ) → Within g.order u → d u ≡ true → joined g (complement d) u v ≡ joined g a u v
  unfolding IsClosed Joined
  same_component u v wu du = same_tests _ _
      (λ t. let w = joined_walk g (complement d) u v t in Walk-stays g.order (adjacent g (complement d)) (joined g a u) (adjacent_within g (complement d) is) closed_a u v w.0 (walk_joined g a is u u wu (joined_self g a u)) w.1)
      (λ t. let w = joined_walk g a u v t in Walk-stays g.order (adjacent g a) (joined g (complement d) u) (adjacent_within g a is) closed_d u v w.0 (walk_joined g (complement d) is u u wu (joined_self g (complement d) u)) w.1)
    where
      closed_a : (x y : ℕ) → Within g.order x → Within g.order y → joined g a u x ≡ true → adjacent g (complement d) x y ≡ true → joined g a u y ≡ true
      closed_a x y wx wy j h =
          let p = adjacent-edge g (complement d) x y h in
          let s = adjacent_from g a x y p.2.0 (d_out x wx (not-false (d x) p.0)) (d_out y wy (not-false (d y) p.1)) p.2.1 p.2.2 in
          walk_joined g a is u y wu (joined_on g a u x y (joined_walk g a u x j) (y ∷ [], (s, refl)))

      closed_d : (x y : ℕ) → Within g.order x → Within g.order y → joined g (complement d) u x ≡ true → adjacent g a x y ≡ true → joined g (complement d) u y ≡ true
      closed_d x y wx wy j h =
          let p = adjacent-edge g a x y h in
          let out = joined_outside g (complement d) is u x (ap not du) j in
          let dy = d_step p.2.0 x y p.2.1 (has_ends-cases g x y p.2.0 p.2.2) (not-false (d x) out) p.1 in
          let s = adjacent_from g (complement d) x y p.2.0 out (ap not dy) p.2.1 p.2.2 in
          walk_joined g (complement d) is u y wu (joined_on g (complement d) u x y (joined_walk g (complement d) u x j) (y ∷ [], (s, refl)))

  pub component_is : (u : ℕ) → Within g.order u → d u ≡ true → joined g (complement d) u ≡ joined g a u
  component_is u wu du = fun_ext (λ v. same_component u v wu du)

  least_same : (u : ℕ) → Within g.order u → d u ≡ true → is_least g (complement d) u ≡ is_least g a u
  least_same u w du = grind (arith, d_out, some_congr, joined, complement, nat_lt, same_component)

  -- there are as many components of G[D] as odd components of G - A
  pub components_odd : component_count g (complement d) ≡ odd_component_count g a
  unfolding component_count odd_component_count
  components_odd = count_congr g.order _ _ (λ u w. same_tests _ _
      (λ t. let du = not-false (d u) (leads_out g (complement d) u t) in and_from (is_least g a u) (is_odd (count g.order (joined g a u))) (sym (least_same u w du) ∙ t) (d_odd u w du))
      (λ t. let p = and_parts (is_least g a u) (is_odd (count g.order (joined g a u))) t in
      least_same u w (odd_d u w (leads_out g a u p.0) p.1) ∙ p.0))
