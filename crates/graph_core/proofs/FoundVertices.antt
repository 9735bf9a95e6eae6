-- A search from one vertex takes vertices from the set that is left and hangs each on one that
-- was found before. What has it found when no found vertex has a neighbour left? A component: it
-- is closed under steps, and the tree gives a walk to each of its vertices.
use Rattle.vset_core.proofs.from_counting.Common.{◌≡◌, ℕ, ◌+◌, ◌≤◌, true, false, ◌==◌, refl, sym, ap, ◌∙◌, arith, ◌&&◌, not, inl, inr, subst, eq-eqb, eqb-true, ne_eqb, not_from_false, and_from, and_parts, both_ways, cases_eq, or_right, not-true, not-false, count_le, count_more, not_but_parts, same_tests, or_false, Within, count, Set, complement, minus}
use Rattle.graph_core.specs.Common.{Graph, IsGraph, IsGrowth, IsGrown, Hangs, Joined, adjacent, joined}
use Rattle.graph_core.proofs.Components.{joined_walk, walk_joined}
use Rattle.graph_core.proofs.Trees.{StandsAt, above_joined, above_root, adjacent_more, joined_more}
use Rattle.graph_core.proofs.Walks.{IsClosed, Walk-stays, adjacent-edge, adjacent_from, adjacent_within, joined_back, joined_self}
use Rattle.graph_core.proofs.OneVertexLess.{Loses, Loses-own, Loses-others, Loses-smaller, Loses-out, count_lost, Gains}

module _ (g : Graph) (x : Set) (r : ℕ) (is : IsGraph g) where
  -- a found vertex is one of x that is not left
  abbrev Found : Set → ℕ → Type 0
  Found left v = (x v ≡ true) × (left v ≡ false)

  found_of : (left : Set) (v : ℕ) → complement (minus x left) v ≡ false → Found left v
  found_of left v h = not_but_parts (x v) (left v) h

  of_found : (left : Set) (v : ℕ) → Found left v → complement (minus x left) v ≡ false
  of_found left v f = rw (f.0, f.1) refl

  -- the root alone
  pub growth_start : (left open_set : Set) (parent depth : ℕ → ℕ) → Within g.order r → x r ≡ true → Loses x r left → ((v : ℕ) → open_set v ≡ (r == v)) → depth r ≡ 0 → IsGrowth g x r left open_set parent depth
  growth_start left open_set parent depth w xr loses opens d = grind (arith, found_of left, eq-eqb r, both_ways, count_le g.order left, eqb-true r, cases_eq r)

  -- a vertex w that is left hangs on the open vertex v
  pub growth_step : (left left' open_set open' : Set) (parent parent' depth depth' : ℕ → ℕ) (v w : ℕ) → IsGrowth g x r left open_set parent depth → open_set v ≡ true → adjacent g (λ u. false) v w ≡ true → left w ≡ true →
      Loses left w left' → Gains open_set w open' → parent' w ≡ v → depth' w ≡ depth v + 1 → ((u : ℕ) → Within g.order u → (w ≡ u → ⊥) → (parent' u ≡ parent u) × (depth' u ≡ depth u)) →
      IsGrowth g x r left' open' parent' depth'
  growth_step left left' open_set open' parent parent' depth depth' v w old ov a lw loses gains pw dw same = record {
    smaller = λ u t. old.smaller u (Loses-smaller left left' w loses u t);
    found = λ u o. elim (cases_eq w u) [
      | inl e ↦ subst (Found left') e (old.smaller w lw, Loses-own left left' w loses)
      | inr n ↦ let f = old.found u (sym (gains_not u n) ∙ o) in (f.0, Loses-out left left' w loses u f.1)
    ];
    start = (old.start.0, Loses-out left left' w loses r old.start.1);
    tree = record {
      stands = λ u wu out. let f = found_of left' u out in elim (cases_eq w u) [
        | inl e ↦ inr (subst (Hangs g (complement (minus x left')) parent' depth') e new)
        | inr n ↦ elim (old.tree.stands u wu (of_found left u (was_found u n f))) [
          | inl k ↦ inl (k.0, (same u wu n).1 ∙ k.1)
          | inr k ↦ inr (kept u wu n k)
        ]
      ];
    };
    done = λ u y xu lu o b. elim (cases_eq w u) [
      | inl e ↦ absurd (both_ways (open' u) o (gains u ∙ or_right (open_set u) (w == u) (eq-eqb w u e)))
      | inr n ↦ Loses-out left left' w loses y (old.done u y xu (was_found u n (xu, lu)).1 (sym (gains_not u n) ∙ o) b)
    ];
    shallow = λ u wu xu lu. elim (cases_eq w u) [
      | inl e ↦ let c = less in let s = old.shallow v within_v (old.found v ov).0 (old.found v ov).1 in let d = ap depth' (sym e) in omega arith
      | inr n ↦ let c = less in let s = old.shallow u wu xu (was_found u n (xu, lu)).1 in let d = (same u wu n).1 in omega arith
    ];
  }
    where
      within_v : Within g.order v
      within_v = (adjacent_within g (λ u. false) is v w a).0

      within_w : Within g.order w
      within_w = (adjacent_within g (λ u. false) is v w a).1

      less : count g.order left' + 1 ≡ count g.order left
      less = count_lost g.order left left' w within_w lw loses

      gains_not : (u : ℕ) → (w ≡ u → ⊥) → open' u ≡ open_set u
      gains_not u n = gains u ∙ rw (ne_eqb w u n) (or_false (open_set u))

      was_found : (u : ℕ) → (w ≡ u → ⊥) → Found left' u → Found left u
      was_found u n f = (f.0, sym (Loses-others left left' w loses u n) ∙ f.1)

      now_found : (u : ℕ) → complement (minus x left) u ≡ false → complement (minus x left') u ≡ false
      now_found u h = let f = found_of left u h in of_found left' u (f.0, Loses-out left left' w loses u f.1)

      other : (u : ℕ) → left u ≡ false → w ≡ u → ⊥
      other u f e = both_ways (left u) f (ap left (sym e) ∙ lw)

      new : Hangs g (complement (minus x left')) parent' depth' w
      new = grind (arith, adjacent-edge g, adjacent_from g (complement (minus x left')) v w, now_found v, of_found left v, of_found left' w (old.smaller w lw, Loses-own left left' w loses), within_v)

      kept : (u : ℕ) → Within g.order u → (w ≡ u → ⊥) → Hangs g (complement (minus x left)) parent depth u → Hangs g (complement (minus x left')) parent' depth' u
      kept u wu n k =
          let q = same u wu n in
          let f = found_of left (parent u) (adjacent-edge g (complement (minus x left)) (parent u) u k.joins).0 in
          let wp = (adjacent_within g (complement (minus x left)) is (parent u) u k.joins).0 in
          record {
            joins = subst (λ p. adjacent g (complement (minus x left')) p u ≡ true) (sym q.0) (adjacent_more g (complement (minus x left)) (complement (minus x left')) now_found (parent u) u k.joins);
            deeper = q.1 ∙ k.deeper ∙ ap (λ d. d + 1) (sym (ap depth' q.0 ∙ (same (parent u) wp (other (parent u) f.1)).1));
          }

  -- an open vertex without a neighbour left is done
  pub growth_drop : (left open_set open' : Set) (parent depth : ℕ → ℕ) (v : ℕ) → IsGrowth g x r left open_set parent depth → ((w : ℕ) → adjacent g (λ u. false) v w ≡ true → left w ≡ false) → Loses open_set v open' → IsGrowth g x r left open' parent depth
  growth_drop left open_set open' parent depth v old none_left loses = grind arith

  -- with no open vertex, what was found is the component of r
  pub growth_end : (left open_set : Set) (parent depth : ℕ → ℕ) → IsGrowth g x r left open_set parent depth → ((v : ℕ) → open_set v ≡ false) → Within g.order r → (v : ℕ) → Within g.order v → (x v && not (left v)) ≡ joined g (complement x) r v
  unfolding Joined IsClosed
  growth_end left open_set parent depth old none_open wr v wv = same_tests (x v && not (left v)) (joined g (complement x) r v) there back
    where
      there : (x v && not (left v)) ≡ true → joined g (complement x) r v ≡ true
      there h =
          let f = and_parts (x v) (not (left v)) h in
          let at : StandsAt g (complement (minus x left)) (λ u. r == u) parent depth (depth v) v = record { within = wv; outside = of_found left v (f.0, not-true (left v) f.1); deep = refl } in
          let top = above_root g (complement (minus x left)) (λ u. r == u) parent depth is old.tree (depth v) v at in
          let j = above_joined g (complement (minus x left)) (λ u. r == u) parent depth is old.tree (depth v) v at in
          let e = eqb-true r _ top.0 in
          walk_joined g (complement x) is r v wr
          (joined_more g (complement (minus x left)) (complement x) (λ u o. ap not (found_of left u o).0) r v
          (joined_back g (complement (minus x left)) v r (subst (Joined g (complement (minus x left)) v) (sym e) j)))

      back : joined g (complement x) r v ≡ true → (x v && not (left v)) ≡ true
      back h =
          let j = joined_walk g (complement x) r v h in
          Walk-stays g.order (adjacent g (complement x)) (λ u. x u && not (left u)) (adjacent_within g (complement x) is)
          (λ a b wa wb fa ab.
          let f = and_parts (x a) (not (left a)) fa in
          let out = (adjacent-edge g (complement x) a b ab).1 in
          and_from (x b) (not (left b)) (not-false (x b) out) (not_from_false (left b) (old.done a b f.0 (not-true (left a) f.1) (none_open a) ab)))
          r v j.0 (and_from (x r) (not (left r)) old.start.0 (not_from_false (left r) old.start.1)) j.1

-- the root goes with its component, so that less is left
pub grown_less : (g : Graph) (x : Set) (r : ℕ) (left : Set) (parent depth : ℕ → ℕ) → IsGraph g → IsGrown g x r left parent depth → Within g.order r → x r ≡ true → count g.order left + 1 ≤ count g.order x
grown_less g x r left parent depth is grown w xr = count_more g.order left x grown.smaller r w
    (not-true (left r) (and_parts (x r) (not (left r)) (grown.taken r w ∙ walk_joined g (complement x) is r r w (joined_self g (complement x) r))).1) xr
