-- Hall's condition gives each member of a set a partner of its own that an edge joins to it. These
-- edges are a perfect matching of the members and their partners.
use Rattle.tree_check.proofs.from_counting.Common.{◌≡◌, ℕ, ◌≤◌, Bool, true, ◌==◌, ◌&&◌, ap, ◌∙◌, refl, sym, arith, ◌⊎◌, inl, inr, and_from, and_parts, eq-eqb, eqb-true, or_cases, or_left, or_right, some_true, true_some, Within, count, some, Set, complement, meet, singleton, union}
use Rattle.barrier_kit.proofs.Common.{glue_family, hall, neighbours, Picks}
use Rattle.graph_core.proofs.Common.{Graph, HasPerfect, IsGraph, IsPerfect, has_ends, size}
use Rattle.quick_kinds.proofs.UnmatchedFours.{one_edge}

-- an edge joins u and v
abbrev pub beside : Graph → ℕ → ℕ → Bool
beside g u v = some (size g) (has_ends g u v)

module _ (g : Graph) (l r : Set) (is : IsGraph g) (apart : (v : ℕ) → l v ≡ true → r v ≡ true → ⊥)
    (enough : (z : Set) → count g.order (meet z l) ≤ count g.order (neighbours g.order (beside g) r (meet z l))) where
  pub picks : Picks g.order (beside g) l r
  picks = hall g.order (beside g) (count g.order l) l r (omega arith) enough

  -- a member and its partner
  pub star : ℕ → Set
  star z = union (singleton z) (singleton (picks.to z))

  -- the members and the partners
  abbrev pub paired : Set
  paired v = some g.order (λ z. l z && star z v)

  each : (z : ℕ) → Within g.order z → l z ≡ true → (m : Set) × IsPerfect g (complement (star z)) m
  unfolding star
  each z w h =
      let p = picks.lands z w h in
      let e = some_true (size g) (has_ends g z (picks.to z)) p.2 in
      (singleton e.0, one_edge g e.0 z (picks.to z) e.1 e.2 (λ q. apart z h (ap r q ∙ p.1)))

  one_star : (y z v : ℕ) → Within g.order y → Within g.order z → Within g.order v → l y ≡ true → star y v ≡ true → l z ≡ true → star z v ≡ true → y ≡ z
  unfolding star
  one_star y z v wy wz wv ly sy lz sz = grind arith

  pub own_paired : (z : ℕ) → Within g.order z → l z ≡ true → paired z ≡ true
  unfolding star
  own_paired z w h = true_some g.order (λ y. l y && star y z) z w (and_from (l z) (star z z) h (or_left (z == z) (picks.to z == z) (eq-eqb z z refl)))

  pub partner_paired : (z : ℕ) → Within g.order z → l z ≡ true → paired (picks.to z) ≡ true
  unfolding star
  partner_paired z w h = true_some g.order (λ y. l y && star y (picks.to z)) z w (and_from (l z) (star z (picks.to z)) h (or_right (z == picks.to z) (picks.to z == picks.to z) (eq-eqb (picks.to z) (picks.to z) refl)))

  pub paired_cases : (v : ℕ) → paired v ≡ true → (l v ≡ true) ⊎ (r v ≡ true)
  unfolding star
  paired_cases v h =
      let z = some_true g.order (λ z. l z && star z v) h in
      let p = and_parts (l z.0) (star z.0 v) z.2 in
      elim (or_cases (z.0 == v) (picks.to z.0 == v) p.1) [
        | inl t ↦ inl (ap l (sym (eqb-true z.0 v t)) ∙ p.0)
        | inr t ↦ inr (ap r (sym (eqb-true (picks.to z.0) v t)) ∙ (picks.lands z.0 z.1 p.0).1)
      ]

  pub matched_pairs : HasPerfect g (complement paired)
  matched_pairs = glue_family g is l star each one_star
