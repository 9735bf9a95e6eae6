-- A certificate has as many classes as there are odd components, and a frame gives the
-- Gallai-Edmonds sets. A class is a union of components, one of them odd; a matching of the
-- certified size is tight at each vertex.
use Rattle.graph_core.proofs.from_counting.Common.{◌≡◌, ℕ, suc, zero, ◌+◌, ◌*◌, ◌≤◌, ◌<◌, Bool, true, false, ◌==◌, sym, ap, ◌∙◌, arith, ◌&&◌, eqb-true, ◌⊎◌, inl, inr, nat_lt, List, [], ◌∷◌, ltb-true, both_ways, true≢false, false_from_ne_true, or_parts, odd_pos, odd_total, total_congr, total_le, total_mul, total_swap, total_ones, bit_times_le, Within, bit, count, is_odd, total, Set, complement, none, union}
use Rattle.graph_core.proofs.Common.{joined_walk, one_leader, some_leader, none_matching, missed_edges, adjacent-edge, has_ends-cases, berge_bound, is_least, odd_component_count, Graph, IsGraph, degree, first_end, second_end, size, HasEnds, IsMatching, IsMaximum, missed_count, Joined, Walk, adjacent, joined}
use Rattle.match_search.proofs.Certificates.{class_sum, certificate_bound, certificate_tight}
use Rattle.match_search.proofs.StepTheorem.{step}
use Rattle.match_search.specs.Common.{Frame, IsCertificate, IsOddLabelling}

module _ (g : Graph) (is : IsGraph g) (x : Set) (label : ℕ → ℕ) (p : ℕ) (labels : IsOddLabelling g x label p) where
  along_walk : (u v : ℕ) (ws : List ℕ) → Walk (adjacent g x) u ws v → label u ≡ label v
  along_walk u v [] w = ap label w
  along_walk u v (y ∷ ws) w = grind (arith, adjacent-edge g x u y w.0, has_ends-cases g u y, along_walk y v ws w.1)
    where
      one : (a b e : ℕ) → Within (size g) e → x a ≡ false → x b ≡ false → ((first_end g e ≡ a) × (second_end g e ≡ b)) ⊎ ((first_end g e ≡ b) × (second_end g e ≡ a)) → label a ≡ label b
      one a b e we xa xb h = grind arith

  -- a component is in one class
  pub same_class : (u v : ℕ) → joined g x u v ≡ true → label u ≡ label v
  unfolding Joined
  same_class u v j = let w = joined_walk g x u v j in along_walk u v w.0 w.1

  class_parts : (j : ℕ) → 1 ≤ j → count g.order (λ v. label v == j) ≡ total g.order (λ u. (bit (is_least g x u) * bit (label u == j)) * count g.order (joined g x u))
  class_parts j l =
      total_congr g.order _ _ (λ v w. leader v w)
      ∙ total_congr g.order _ _ (λ v w. sym (total_mul g.order (bit (label v == j)) (λ u. bit (is_least g x u && joined g x u v))))
      ∙ total_swap g.order g.order (λ v u. bit (label v == j) * bit (is_least g x u && joined g x u v))
      ∙ total_congr g.order _ _ (λ u w. total_congr g.order _ _ (λ v z. grind (arith, same_class, true≢false)) ∙ total_mul g.order (bit (is_least g x u) * bit (label u == j)) (λ v. bit (joined g x u v)))
    where
      leader : (v : ℕ) → Within g.order v → bit (label v == j) ≡ bit (label v == j) * count g.order (λ u. is_least g x u && joined g x u v)
      leader v w = grind (arith, eqb-true, false_from_ne_true, one_leader, some_leader)

  -- each class has an odd component
  class_leader : (j : ℕ) → Within p j → 1 ≤ total g.order (λ u. bit (label u == j) * bit (is_least g x u && is_odd (count g.order (joined g x u))))
  class_leader j w = odd_pos _ (sym (odd_total g.order (λ u. (bit (is_least g x u) * bit (label u == j)) * count g.order (joined g x u)) (λ u. bit (label u == j) * bit (is_least g x u && is_odd (count g.order (joined g x u)))) (λ u z. each (is_least g x u) (label u == j) (count g.order (joined g x u)))) ∙ sym (ap is_odd (class_parts j w.0)) ∙ labels.odd j w)
    where
      each : (a b : Bool) (k : ℕ) → is_odd ((bit a * bit b) * k) ≡ is_odd (bit b * bit (a && is_odd k))
      each a b k = grind arith

  pub classes_leaders : p ≤ total g.order (λ u. bit (nat_lt 0 (label u)) * bit (is_least g x u && is_odd (count g.order (joined g x u))))
  classes_leaders =
      let a = total_ones p in
      let b = total_le p (λ j. 1) (λ j. total g.order (λ u. bit (label u == j) * bit (is_least g x u && is_odd (count g.order (joined g x u))))) class_leader in
      let c : total p (λ j. total g.order (λ u. bit (label u == j) * bit (is_least g x u && is_odd (count g.order (joined g x u))))) ≡ total g.order (λ u. bit (nat_lt 0 (label u)) * bit (is_least g x u && is_odd (count g.order (joined g x u)))) =
      total_swap p g.order (λ j u. bit (label u == j) * bit (is_least g x u && is_odd (count g.order (joined g x u)))) ∙ total_congr g.order _ _ (λ u w. class_sum p (label u) (bit (is_least g x u && is_odd (count g.order (joined g x u)))) (labels.low u w)) in
      omega arith

  -- there are at least as many odd components as classes
  pub classes_components : p ≤ odd_component_count g x
  unfolding odd_component_count
  classes_components = grind (arith, classes_leaders, total_le g.order, nat_lt 0, bit_times_le)

-- a certificate that a matching of k edges meets: its classes are as many as the odd components,
-- and the matching is maximum
pub certificate_components : (g : Graph) (r s : Set) (k : ℕ) (label : ℕ → ℕ) (p : ℕ) → IsGraph g → IsCertificate g r k s label p → (m : Set) → IsMatching g r m → count (size g) m ≡ k → (odd_component_count g (union r s) ≡ p) × (missed_count g r m + count g.order s ≡ odd_component_count g (union r s))
certificate_components g r s k label p is cert m mm full = grind (arith, classes_components g is (union r s) label p cert.labels, berge_bound g r s m is mm, missed_edges g r m is mm)

pub certificate_maximum : (g : Graph) (r s : Set) (k : ℕ) (label : ℕ → ℕ) (p : ℕ) → IsGraph g → IsCertificate g r k s label p → (m : Set) → IsMatching g r m → count (size g) m ≡ k → IsMaximum g r m
certificate_maximum g r s k label p is cert m mm full = grind (arith, certificate_bound g is r s label p cert.labels)

-- a matching with a frame
pub record Best (g : Graph) (r : Set) : Type 0 where
  pub m : Set
  pub is : IsMatching g r m
  pub outer : Set
  pub inner : Set
  pub frame : Frame g r (count (size g) m) outer inner

pub best_from : (n : ℕ) (g : Graph) (r f : Set) → IsGraph g → IsMatching g r f → count g.order (complement r) < count (size g) f + n → Best g r
best_from zero g r f is mm l = let a = missed_edges g r f is mm in absurd (omega arith)
best_from (suc n) g r f is mm l = elim (step g r f is mm) [
  | inl m ↦ best_from n g r m.0 is m.1 (let a = m.2 in omega arith)
  | inr m ↦ record { m = f; is = mm; outer = m.0; inner = m.1; frame = m.2 }
]

pub best : (g : Graph) (r : Set) → IsGraph g → Best g r
best g r is = best_from (suc (count g.order (complement r))) g r none is (none_matching g r) (omega arith)

-- the outer vertices of a frame are those that some maximum matching misses, the inner ones their
-- other neighbours
module _ (g : Graph) (is : IsGraph g) (r : Set) (k : ℕ) (outer inner : Set) (frame : Frame g r k outer inner) (m : Set) (mm : IsMatching g r m) (full : count (size g) m ≡ k) where
  pub outer_free : (v : ℕ) → Within g.order v → outer v ≡ true → union r inner v ≡ false
  outer_free v w t = false_from_ne_true (union r inner v) (λ q. let a = frame.certificate.labels.away v w q in let b = ltb-true 0 (frame.label v) (sym (frame.labelled v w) ∙ t) in absurd (omega arith))

  pub outer_missable : (v : ℕ) → Within g.order v → outer v ≡ true → (r v ≡ false) × ((n : Set) × IsMaximum g r n × (degree g n v ≡ 0))
  outer_missable v w t = grind (arith, or_parts (r v) (inner v) (outer_free v w t), outer_free v w t, certificate_maximum g r inner k frame.label frame.classes is frame.certificate)

  pub missable_outer : (v : ℕ) → Within g.order v → r v ≡ false → (n : Set) → IsMaximum g r n → degree g n v ≡ 0 → outer v ≡ true
  missable_outer v w rv n max dv =
      let a = max.most m mm in
      let b = certificate_bound g is r inner frame.label frame.classes frame.certificate.labels n max.is k frame.certificate.sizes in
      frame.labelled v w ∙ (certificate_tight g is r inner frame.label frame.classes frame.certificate.labels n max.is k frame.certificate.sizes (omega arith) v w rv dv).0

  pub inner_next : (v : ℕ) → Within g.order v → inner v ≡ true → (outer v ≡ false) × (r v ≡ false) × ((e : ℕ) × (o : ℕ) × Within (size g) e × HasEnds g e v o × (outer o ≡ true))
  inner_next v w t = (false_from_ne_true (outer v) (λ q. both_ways (inner v) (or_parts (r v) (inner v) (outer_free v w q)).1 t), frame.certificate.outside v w t, frame.seen v w t)

  pub next_inner : (v : ℕ) → Within g.order v → outer v ≡ false → r v ≡ false → (e o : ℕ) → Within (size g) e → HasEnds g e v o → outer o ≡ true → inner v ≡ true
  next_inner v w ov rv e o we ends oo = grind arith
