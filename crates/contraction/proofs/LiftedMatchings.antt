-- A perfect matching of the quotient is lifted to a perfect matching at the partition, each edge
-- to its least remembered edge. That edge joins the two blocks, so the matching is carried over
-- along the identity of places.
use Rattle.graph_core.proofs.from_counting.Common.{◌≡◌, ℕ, ◌<◌, length, true, false, not, ◌&&◌, ◌==◌, List, [], ◌∷◌, refl, sym, ◌∙◌, arith, subst, eq-eqb, slice_index, both_ways, and_parts, or_left, rising_holds, rising_only, some-member, mem-rising_list, some_true, Within, mem, Set, none, some}
use Rattle.graph_core.proofs.Common.{contracted-order, contracted-size, carried_set, image, perfect_carried, degree_congr, quotient-order, quotient_edge, quotient_graph, has_ends-cases, Graph, IsGraph, first_end, has_ends, second_end, size, IsPerfect, AreBlocks, IsPerfectAt, contracted, lifted, quotient, remembered}
use Rattle.graph_core.proofs.Edits.{HasEnds}

-- sets of edges that agree are perfect together
pub perfect-congr : (g : Graph) (m k : Set) → ((e : ℕ) → Within (size g) e → m e ≡ k e) → IsPerfect g none m → IsPerfect g none k
perfect-congr g m k h perfect = grind (arith, degree_congr g m k)

first-member : (xs : List ℕ) (v : ℕ) → mem xs v ≡ true → mem xs (slice_index xs 0) ≡ true
first-member [] v h = absurd (both_ways false refl h)
first-member (x ∷ xs) v h = or_left (x == x) (mem xs x) (eq-eqb x x refl)

module _ (g : Graph) (p : List (List ℕ)) (is : IsGraph g) (pp : AreBlocks g.order p) where
  -- the least remembered edge joins the two blocks
  pub least-remembered : (k : ℕ) → Within (size (quotient g p)) k → Within (size g) (slice_index (remembered g p k) 0) × HasEnds (contracted g p) (slice_index (remembered g p k) 0) (first_end (quotient g p) k) (second_end (quotient g p) k)
  least-remembered k w =
      let q = quotient_edge g p k w in
      let e = some_true (size g) (has_ends (contracted g p) (first_end (quotient g p) k) (second_end (quotient g p) k)) (and_parts (not (first_end (quotient g p) k == second_end (quotient g p) k)) (some (size g) (has_ends (contracted g p) (first_end (quotient g p) k) (second_end (quotient g p) k))) q.3).1 in
      let m = first-member (remembered g p k) e.0 (rising_holds (size g) (has_ends (contracted g p) (first_end (quotient g p) k) (second_end (quotient g p) k)) e.0 e.1 e.2) in
      let r = rising_only (size g) (has_ends (contracted g p) (first_end (quotient g p) k) (second_end (quotient g p) k)) (slice_index (remembered g p k) 0) m in
      (r.0, has_ends-cases (contracted g p) (first_end (quotient g p) k) (second_end (quotient g p) k) (slice_index (remembered g p k) 0) r.1)

  -- each edge of the quotient has a remembered edge
  pub remembered-some : (k : ℕ) → Within (size (quotient g p)) k → 0 < length (remembered g p k)
  remembered-some k w =
      let q = quotient_edge g p k w in
      let e = some_true (size g) (has_ends (contracted g p) (first_end (quotient g p) k) (second_end (quotient g p) k)) (and_parts (not (first_end (quotient g p) k == second_end (quotient g p) k)) (some (size g) (has_ends (contracted g p) (first_end (quotient g p) k) (second_end (quotient g p) k))) q.3).1 in
      some-member (remembered g p k) e.0 (rising_holds (size g) (has_ends (contracted g p) (first_end (quotient g p) k) (second_end (quotient g p) k)) e.0 e.1 e.2)

  pub lifted-perfect : (m : Set) → IsPerfect (quotient g p) none m → IsPerfectAt g p (mem (lifted g p m))
  unfolding carried_set image
  lifted-perfect m perfect =
      perfect-congr (contracted g p) (λ e. some (size (quotient g p)) (λ k. m k && (slice_index (remembered g p k) 0 == e))) (mem (lifted g p m))
      (λ e w. sym (mem-rising_list (size g) (λ e. some (size (quotient g p)) (λ k. m k && (slice_index (remembered g p k) 0 == e))) e (let s = contracted-size g p in omega arith)))
      (perfect_carried (quotient g p) (contracted g p) (quotient_graph g p is pp) (λ v. v) (λ k. slice_index (remembered g p k) 0) (λ u v wu wv e. e)
      (λ w ww. (w, subst (λ n. Within n w) (contracted-order g p ∙ sym (quotient-order g p)) ww, refl)) (λ k w d. let r = least-remembered k w in (subst (λ n. Within n (slice_index (remembered g p k) 0)) (sym (contracted-size g p)) r.0, r.1)) m perfect)
