-- How a matching meets the odd components of G - A, with the sets D and A of Gallai and Edmonds: each
-- has a missed vertex or an edge that leaves it, and such an edge ends in A. So the number of these
-- components is at most that of the missed vertices of D and of the edges at A. Used for a maximum
-- matching, and for one of G - v.
use Rattle.tree_check.proofs.from_counting.Common.{◌≡◌, ℕ, ◌+◌, ◌*◌, ◌≤◌, Bool, true, false, cond, ◌==◌, refl, sym, ap, ap₂, ◌∙◌, arith, ◌&&◌, ◌||◌, not, mul-add, inl, inr, cases_Bool, both_ways, and_parts, and_from, bit_le, same_tests, count_congr, odd-add, odd-double, odd_pos, some_true, total_add, total_congr, total_le, total_mul, total_swap, Within, bit, count, is_odd, total, Set, none}
use Rattle.barrier_kit.proofs.Common.{cover_count, cover_in, covers, cut_family, leader_of, leads_out, part_same}
use Rattle.graph_core.proofs.Common.{joined_outside, degrees, is_least, Graph, IsGraph, IsMatching, degree, edges_in_cut, first_end, in_cut, inside, second_end, size, missed_count, joined}
use Rattle.match_search.proofs.Certificates.{ends_total}
use Rattle.theorems.proofs.ThreeSets.{d_odd, d_out, d_step, odd_d}
use Rattle.theorems.specs.Matchings.{AreThreeSets}

-- the least vertices of the odd components of G - A
abbrev pub odd_lead : Graph → Set → Set
odd_lead g a u = is_least g a u && is_odd (count g.order (joined g a u))

-- how many vertices of the component of u are missed, and how many edges leave it
abbrev pub missed_at : Graph → Set → Set → ℕ → ℕ
missed_at g a m u = count g.order (λ v. joined g a u v && (degree g m v == 0))

abbrev pub leaving_at : Graph → Set → Set → ℕ → ℕ
leaving_at g a m u = edges_in_cut g m (joined g a u)

module _ (g : Graph) (is : IsGraph g) (d a c : Set) (sets : AreThreeSets g d a c) (m : Set) (mm : IsMatching g none m) where
  abbrev lead : Set
  lead = odd_lead g a

  abbrev missed : ℕ → ℕ
  missed = missed_at g a m

  abbrev leaving : ℕ → ℕ
  leaving = leaving_at g a m

  leads : (u : ℕ) → lead u ≡ true → is_least g a u ≡ true
  leads u t = (and_parts (is_least g a u) (is_odd (count g.order (joined g a u))) t).0

  union_d : (v : ℕ) → Within g.order v → covers g is a lead leads v ≡ d v
  unfolding covers
  union_d v w = same_tests _ _
      (λ t. let u = some_true g.order (λ u. lead u && joined g a u v) t in
      let p = and_parts (lead u.0) (joined g a u.0 v) u.2 in
      let q = and_parts (is_least g a u.0) (is_odd (count g.order (joined g a u.0))) p.0 in
      odd_d g is d a c sets v w (joined_outside g a is u.0 v (leads_out g a u.0 q.0) p.1) (ap is_odd (sym (same_size_part u.0 v u.1 w p.1)) ∙ q.1))
      (λ t. let u = leader_of g a is v w (d_out g is d a c sets v w t) in
      cover_in g is a lead leads u.0 v u.1 (and_from (is_least g a u.0) (is_odd (count g.order (joined g a u.0))) u.2 (ap is_odd (same_size_part u.0 v u.1 w u.3) ∙ d_odd g is d a c sets v w t)) u.3)
    where
      same_size_part : (u v : ℕ) → Within g.order u → Within g.order v → joined g a u v ≡ true → count g.order (joined g a u) ≡ count g.order (joined g a v)
      same_size_part u v wu wv j = count_congr g.order _ _ (λ y wy. part_same g a is u v wu wv j y)

  pub cut_sum : total g.order (λ u. bit (lead u) * leaving u) ≡ edges_in_cut g m d
  cut_sum =
      cut_family g is a lead leads m
      ∙ total_congr (size g) _ _ (λ e w. ap bit (ap (λ k. m e && k) (ap₂ (λ x y. (x && not y) || (not x && y)) (union_d (first_end g e) (is e w).0) (union_d (second_end g e) (is e w).1))))

  pub missed_sum : total g.order (λ u. bit (lead u) * missed u) ≡ count g.order (λ v. d v && (degree g m v == 0))
  missed_sum =
      total_congr g.order _ _ (λ u w. sym (total_mul g.order (bit (lead u)) (λ v. bit (joined g a u v && (degree g m v == 0)))))
      ∙ total_swap g.order g.order (λ u v. bit (lead u) * bit (joined g a u v && (degree g m v == 0)))
      ∙ total_congr g.order _ _ (λ v w.
      total_congr g.order _ _ (λ u x. regroup (lead u) (joined g a u v) (degree g m v == 0))
      ∙ total_mul g.order (bit (degree g m v == 0)) (λ u. bit (lead u && joined g a u v))
      ∙ ap (λ k. bit (degree g m v == 0) * k) (sym (cover_count g is a lead leads v w) ∙ ap bit (union_d v w))
      ∙ back (d v) (degree g m v == 0))
    where
      regroup : (x y z : Bool) → bit x * bit (y && z) ≡ bit z * bit (x && y)
      regroup x y z = grind arith

      back : (x z : Bool) → bit z * bit x ≡ bit (x && z)
      back x z = grind arith

  pub size_of : (u : ℕ) → count g.order (joined g a u) ≡ missed u + (leaving u + 2 * count (size g) (λ e. m e && inside g (joined g a u) e))
  size_of u =
      let x = total_congr g.order (λ v. bit (joined g a u v)) (λ v. bit (joined g a u v && (degree g m v == 0)) + bit (joined g a u v) * degree g m v) (λ v wv. each (joined g a u v) (degree g m v) (mm.once v wv)) in
      let y = total_add g.order (λ v. bit (joined g a u v && (degree g m v == 0))) (λ v. bit (joined g a u v) * degree g m v) in
      let z = degrees g is m (joined g a u) in omega arith
    where
      each : (x : Bool) (d : ℕ) → d ≤ 1 → bit x ≡ bit (x && (d == 0)) + bit x * d
      each x d h = grind arith

  -- an odd component has a missed vertex, or an edge that leaves it
  pub each_open : (u : ℕ) → Within g.order u → bit (lead u) ≤ bit (lead u) * (missed u + leaving u)
  each_open u w = go (lead u) refl
    where
      go : (b : Bool) → lead u ≡ b → bit b ≤ bit b * (missed u + leaving u)
      go false p = omega arith
      go true p =
          let q = and_parts (is_least g a u) (is_odd (count g.order (joined g a u))) p in
          let s = size_of u in
          let i = count (size g) (λ e. m e && inside g (joined g a u) e) in
          let n : count g.order (joined g a u) ≡ (missed u + leaving u) + (i + i) = omega arith in
          let o = odd_pos (missed u + leaving u) (parity (is_odd (missed u + leaving u)) (is_odd (i + i)) (odd-double i) (sym (odd-add (missed u + leaving u) (i + i)) ∙ sym (ap is_odd n) ∙ q.1)) in omega arith
        where
          parity : (s t : Bool) → t ≡ false → cond s (not t) t ≡ true → s ≡ true
          parity true t p q = refl
          parity false t p q = absurd (both_ways t p q)

  -- an edge that leaves D has its other end in A
  pub into_a : (e : ℕ) → Within (size g) e → bit (m e && in_cut g d e) ≤ bit (m e && a (first_end g e)) + bit (m e && a (second_end g e))
  into_a e w = go (m e) (d (first_end g e)) (d (second_end g e)) refl refl
    where
      go : (k x y : Bool) → d (first_end g e) ≡ x → d (second_end g e) ≡ y → bit (k && ((x && not y) || (not x && y))) ≤ bit (k && a (first_end g e)) + bit (k && a (second_end g e))
      go false x y p q = omega arith
      go true true true p q = omega arith
      go true false false p q = omega arith
      go true true false p q = elim (cases_Bool (a (second_end g e))) [
        | inl t ↦ let z = ap bit t in omega arith
        | inr f ↦ absurd (both_ways (d (second_end g e)) q (d_step g is d a c sets e (first_end g e) (second_end g e) w (inl (refl, refl)) p f))
      ]
      go true false true p q = elim (cases_Bool (a (first_end g e))) [
        | inl t ↦ let z = ap bit t in omega arith
        | inr f ↦ absurd (both_ways (d (first_end g e)) p (d_step g is d a c sets e (second_end g e) (first_end g e) w (inr (refl, refl)) q f))
      ]

  pub one_each : (v : ℕ) → Within g.order v → bit (a v) * degree g m v ≤ bit (a v)
  one_each v w = go (a v)
    where
      go : (b : Bool) → bit b * degree g m v ≤ bit b
      go true = let z = mm.once v w in omega arith
      go false = omega arith

  pub open_sum : total g.order (λ u. bit (lead u) * (missed u + leaving u)) ≡ total g.order (λ u. bit (lead u) * missed u) + total g.order (λ u. bit (lead u) * leaving u)
  open_sum = total_congr g.order _ _ (λ u w. mul-add (bit (lead u)) (missed u) (leaving u)) ∙ total_add g.order (λ u. bit (lead u) * missed u) (λ u. bit (lead u) * leaving u)

  pub edge_sum : total (size g) (λ e. bit (m e && a (first_end g e)) + bit (m e && a (second_end g e))) ≡ total g.order (λ v. bit (a v) * degree g m v)
  edge_sum = total_add (size g) (λ e. bit (m e && a (first_end g e))) (λ e. bit (m e && a (second_end g e))) ∙ sym (ends_total g is m a)

  pub missed_few : count g.order (λ v. d v && (degree g m v == 0)) ≤ missed_count g none m
  unfolding missed_count
  missed_few = total_le g.order _ _ (λ v w. bit_le (d v && (degree g m v == 0)) (degree g m v == 0) (λ t. (and_parts (d v) (degree g m v == 0) t).1))

  -- the bounds, in a row from the number of odd components to itself
  pub lead_bound : total g.order (λ u. bit (lead u)) ≤ total g.order (λ u. bit (lead u) * (missed u + leaving u))
  lead_bound = total_le g.order (λ u. bit (lead u)) _ each_open

  pub cut_bound : edges_in_cut g m d ≤ total g.order (λ v. bit (a v) * degree g m v)
  cut_bound = let x = total_le (size g) (λ e. bit (m e && in_cut g d e)) _ into_a in let y = edge_sum in omega arith

  pub a_bound : total g.order (λ v. bit (a v) * degree g m v) ≤ count g.order a
  a_bound = total_le g.order _ (λ v. bit (a v)) one_each
