-- Each nonempty set of vertices of A has neighbours in more components of G[D] than it has
-- vertices. A maximum matching that misses a vertex of one of these components matches the set
-- into the others, at most one edge into each.
use Rattle.tree_check.proofs.from_counting.Common.{◌≡◌, ℕ, ◌+◌, ◌*◌, ◌≤◌, Bool, true, false, ◌==◌, ◌&&◌, ◌||◌, not, refl, sym, ap, ◌∙◌, arith, eqb-true, inl, inr, and_from, and_parts, both_ways, count_member, count_minus, false_from_ne_true, not-false, or_left, or_right, total_add, total_congr, total_le, true_some, Within, bit, count, some, total, Set, complement, minus, singleton, none}
use Rattle.barrier_kit.proofs.Common.{cover_in, covers_out, covers, cut_family, leader_of, leads_out}
use Rattle.graph_core.proofs.Common.{adjacent-edge, has_ends-cases, is_least, Graph, HasEnds, IsGraph, connects, degree, edges_in_cut, first_end, in_cut, joined, second_end, size, IsMaximum}
use Rattle.match_search.proofs.Certificates.{ends_total}
use Rattle.theorems.proofs.MatchedParts.{a_edge, a_met, apart, missed_part}
use Rattle.theorems.proofs.ThreeSets.{d_out}
use Rattle.theorems.specs.Matchings.{AreThreeSets, component_in, parts_beside}

module _ (g : Graph) (is : IsGraph g) (d a c : Set) (sets : AreThreeSets g d a c) (s : Set) (sub : (v : ℕ) → Within g.order v → s v ≡ true → a v ≡ true) where
  abbrev beside : Set
  beside = parts_beside g d s

  lead : (u : ℕ) → beside u ≡ true → is_least g (complement d) u ≡ true
  lead u h = (and_parts (is_least g (complement d) u) (some (size g) (connects g s (component_in g d u))) h).0

  abbrev all : Set
  all = covers g is (complement d) beside lead

  -- an edge from a vertex of s to one of D: its component is counted
  found : (e x y : ℕ) → Within (size g) e → HasEnds g e x y → s x ≡ true → Within g.order y → d y ≡ true → (l : ℕ) × Within g.order l × (beside l ≡ true) × (joined g (complement d) l y ≡ true)
  found e x y we h sx wy dy =
      let l = leader_of g (complement d) is y wy (ap not dy) in
      (l.0, l.1, and_from (is_least g (complement d) l.0) (some (size g) (connects g s (component_in g d l.0))) l.2 (true_some (size g) (connects g s (component_in g d l.0)) e we (touches l.0 l.3)), l.3)
    where
      touches : (l : ℕ) → joined g (complement d) l y ≡ true → connects g s (component_in g d l) e ≡ true
      touches l j = elim h [
        | inl q ↦ or_left (s (first_end g e) && component_in g d l (second_end g e)) (component_in g d l (first_end g e) && s (second_end g e)) (and_from (s (first_end g e)) (component_in g d l (second_end g e)) (ap s q.0 ∙ sx) (ap (component_in g d l) q.1 ∙ j))
        | inr q ↦ or_right (s (first_end g e) && component_in g d l (second_end g e)) (component_in g d l (first_end g e) && s (second_end g e)) (and_from (component_in g d l (first_end g e)) (s (second_end g e)) (ap (component_in g d l) q.0 ∙ j) (ap s q.1 ∙ sx))
      ]

  pub more_parts : 1 ≤ count g.order s → count g.order s + 1 ≤ count g.order (parts_beside g d s)
  more_parts some_s =
      let i = met_sum in
      let j = ends_total g is m s in
      let k = total_add (size g) (λ e. bit (m e && s (first_end g e))) (λ e. bit (m e && s (second_end g e))) in
      let b = total_le (size g) (λ e. bit (m e && s (first_end g e)) + bit (m e && s (second_end g e))) (λ e. bit (m e && in_cut g all e)) leaves in
      let f = cut_family g is (complement d) beside lead m in
      let o = total_le g.order (λ u. bit (beside u) * edges_in_cut g m (joined g (complement d) u)) (λ u. bit (minus beside (singleton first.0) u)) few in
      let n = count_minus g.order beside first.0 first.1 first.2 in
      omega arith
    where
      v : (v : ℕ) × Within g.order v × (s v ≡ true)
      v = count_member g.order s some_s

      -- a neighbour in D, and the component that it leads
      near : (w : ℕ) × Within g.order w × (d w ≡ true) × ((e : ℕ) × Within (size g) e × HasEnds g e v.0 w)
      near =
          let w = ((sets.in_a v.0 v.1).0 (sub v.0 v.1 v.2)).1 in
          let e = (adjacent-edge g none v.0 w.0 w.3).2 in
          (w.0, w.1, (sets.in_d w.0 w.1).1 w.2, (e.0, e.1, has_ends-cases g v.0 w.0 e.0 e.2))

      first : (l : ℕ) × Within g.order l × (beside l ≡ true) × (joined g (complement d) l near.0 ≡ true)
      first = found near.3.0 v.0 near.0 near.3.1 near.3.2 v.2 near.1 near.2

      missed : (m : Set) × IsMaximum g none m × (degree g m near.0 ≡ 0)
      missed = (sets.in_d near.0 near.1).0 near.2

      m : Set
      m = missed.0

      in_d : (u : ℕ) → beside u ≡ true → d u ≡ true
      in_d u h = not-false (d u) (leads_out g (complement d) u (lead u h))

      met_sum : total g.order (λ v. bit (s v) * degree g m v) ≡ count g.order s
      met_sum = total_congr g.order _ _ (λ x w. each x w (s x) refl)
        where
          each : (x : ℕ) → Within g.order x → (b : Bool) → s x ≡ b → bit (s x) * degree g m x ≡ bit (s x)
          each x w false p = rw p (omega arith)
          each x w true p = let z = a_met g is d a c sets m missed.1 x w (sub x w p) in rw (p, z) refl

      off : (x : ℕ) → Within g.order x → s x ≡ true → d x ≡ false
      off x w h = false_from_ne_true (d x) (λ t. both_ways (a x) (d_out g is d a c sets x w t) (sub x w h))

      -- an edge of m at s leads into the components
      into : (e x y : ℕ) → Within (size g) e → m e ≡ true → HasEnds g e x y → Within g.order x → Within g.order y → s x ≡ true → (all x ≡ false) × (all y ≡ true) × (s y ≡ false)
      into e x y we me h wx wy sx =
          let dy = a_edge g is d a c sets m missed.1 e x y we me h (sub x wx sx) in
          let l = found e x y we h sx wy dy in (
            covers_out g is (complement d) beside lead x wx (ap not (off x wx sx)),
            cover_in g is (complement d) beside lead l.0 y l.1 l.2 l.3,
            false_from_ne_true (s y) (λ t. both_ways (d y) (off y wy t) dy),
          )

      leaves : (e : ℕ) → Within (size g) e → bit (m e && s (first_end g e)) + bit (m e && s (second_end g e)) ≤ bit (m e && in_cut g all e)
      leaves e we = go (m e) (s (first_end g e)) (s (second_end g e)) refl refl refl
        where
          go : (k x y : Bool) → m e ≡ k → s (first_end g e) ≡ x → s (second_end g e) ≡ y → bit (k && x) + bit (k && y) ≤ bit (k && in_cut g all e)
          go false x y p q r = omega arith
          go true false false p q r = omega arith
          go true true y p q r =
              let i = into e (first_end g e) (second_end g e) we p (inl (refl, refl)) (is e we).0 (is e we).1 q in
              absurd_or (all (first_end g e)) (all (second_end g e)) y i.0 i.1 (sym r ∙ i.2)
            where
              absurd_or : (x z y : Bool) → x ≡ false → z ≡ true → y ≡ false → 1 + bit y ≤ bit ((x && not z) || (not x && z))
              absurd_or x z y h k l = rw (h, k, l) (omega arith)
          go true false true p q r =
              let i = into e (second_end g e) (first_end g e) we p (inr (refl, refl)) (is e we).1 (is e we).0 r in
              other (all (first_end g e)) (all (second_end g e)) i.0 i.1
            where
              other : (x z : Bool) → z ≡ false → x ≡ true → 1 ≤ bit ((x && not z) || (not x && z))
              other x z h k = rw (h, k) (omega arith)

      few : (u : ℕ) → Within g.order u → bit (beside u) * edges_in_cut g m (joined g (complement d) u) ≤ bit (minus beside (singleton first.0) u)
      few u wu = go (beside u) (first.0 == u) refl refl
        where
          go : (p q : Bool) → beside u ≡ p → (first.0 == u) ≡ q → bit p * edges_in_cut g m (joined g (complement d) u) ≤ bit (p && not q)
          go false q h k = omega arith
          go true false h k = let z = apart g is d a c sets m missed.1 u wu (in_d u h) in omega arith
          go true true h k =
              let z = missed_part g is d a c sets m missed.1 u near.0 wu near.1 (in_d u h) (ap (λ y. joined g (complement d) y near.0) (sym (eqb-true first.0 u k)) ∙ first.3) missed.2 in omega arith
