-- Tightness and being covered depend on adjacency alone: they go over from a graph to one with
-- the same adjacent pairs. A perfect matching goes over by choosing, for each of its edges, the
-- least edge with the same ends.
use Rattle.vset_core.proofs.from_counting.Common.{◌≡◌, ℕ, ◌≢◌, true, cond, ◌==◌, refl, sym, ap, ◌∙◌, arith, ◌&&◌, eq-eqb, ne_eqb, ◌⊎◌, inl, inr, List, [], ◌∷◌, subst, subst₂, cases_eq, and_from, some_true, true_some, least_of, least_of_is, Within, Set, none, some}
use Rattle.graph_core.proofs.Carrying.{carried_set, cut_carried, image, perfect_carried}
use Rattle.graph_core.proofs.Walks.{adjacent-edge, adjacent_from, adjacent_within, has_ends-cases, has_ends-own}
use Rattle.graph_core.specs.Common.{IsCovered, Graph, IsGraph, first_end, has_ends, second_end, size, HasEnds, Allowed, CutIsTight, Joined, Walk, adjacent}

-- h has an edge between two vertices if and only if g has one between those that move takes there
pub record Alike (g h : Graph) (move : ℕ → ℕ) : Type 0 where
  pub order : h.order ≡ g.order
  pub within : (v : ℕ) → Within g.order v → Within h.order (move v)
  pub apart : (u v : ℕ) → Within g.order u → Within g.order v → move u ≡ move v → u ≡ v
  pub onto : (w : ℕ) → Within h.order w → (v : ℕ) × Within g.order v × (move v ≡ w)
  pub edges : (u v : ℕ) → Within g.order u → Within g.order v → u ≢ v → some (size g) (has_ends g u v) ≡ some (size h) (has_ends h (move u) (move v))

pub has_ends-from : (g : Graph) (u v e : ℕ) → ((first_end g e ≡ u) × (second_end g e ≡ v)) ⊎ ((first_end g e ≡ v) × (second_end g e ≡ u)) → has_ends g u v e ≡ true
has_ends-from g u v e h = grind arith

module _ (g h : Graph) (move : ℕ → ℕ) (is : IsGraph g) (alike : Alike g h move) where
  -- the first edge of h where edge e of g goes
  least : ℕ → ℕ
  least e = least_of (size h) (has_ends h (move (first_end g e)) (move (second_end g e)))

  least_is : (e : ℕ) → Within (size g) e → first_end g e ≢ second_end g e → Within (size h) (least e) × HasEnds h (least e) (move (first_end g e)) (move (second_end g e))
  unfolding least
  least_is e w d =
      let s = sym (alike.edges (first_end g e) (second_end g e) (is e w).0 (is e w).1 d) ∙ true_some (size g) (has_ends g (first_end g e) (second_end g e)) e w (has_ends-own g e) in
      let l = least_of_is (size h) (has_ends h (move (first_end g e)) (move (second_end g e))) s in
      (l.0, has_ends-cases h (move (first_end g e)) (move (second_end g e)) (least_of (size h) (has_ends h (move (first_end g e)) (move (second_end g e)))) l.1)

  -- a shore that is tight in h was tight in g
  pub tight_back : (y : Set) → CutIsTight h y → CutIsTight g (λ v. y (move v))
  tight_back y t m p = sym (cut_carried g h is move least alike.apart alike.onto least_is m p y) ∙ t (carried_set g h is move least alike.apart alike.onto least_is m p) (perfect_carried g h is move least alike.apart alike.onto least_is m p)

  -- an edge that is allowed in g is allowed where it goes, whichever of the parallel edges that is
  allowed_over : (e f : ℕ) → Within (size g) e → Within (size h) f → first_end g e ≢ second_end g e → HasEnds h f (move (first_end g e)) (move (second_end g e)) → Allowed g e → Allowed h f
  unfolding carried_set image
  allowed_over e f we wf d ends a = (
    carried_set g h is move pick alike.apart alike.onto pick_is a.0 a.1,
    perfect_carried g h is move pick alike.apart alike.onto pick_is a.0 a.1,
    true_some (size g) (λ i. a.0 i && (pick i == f)) e we (and_from (a.0 e) (pick e == f) a.2 (eq-eqb (pick e) f (ap (λ b. cond b f (least e)) (eq-eqb e e refl)))),
  )
    where
      pick : ℕ → ℕ
      pick i = cond (i == e) f (least i)

      pick_is : (i : ℕ) → Within (size g) i → first_end g i ≢ second_end g i → Within (size h) (pick i) × HasEnds h (pick i) (move (first_end g i)) (move (second_end g i))
      pick_is i w n = grind (arith, cases_eq i e, eq-eqb i e, ne_eqb i e, least_is i w n)

  pub covered_over : IsGraph h → IsCovered g → IsCovered h
  unfolding Joined
  covered_over is_h cov = record { two = (let t = cov.two in let o = alike.order in omega arith); connected = joined_over; allowed = allowed }
    where
      allowed : (f : ℕ) → Within (size h) f → first_end h f ≢ second_end h f → Allowed h f
      allowed f wf d =
          let u = alike.onto (first_end h f) (is_h f wf).0 in
          let v = alike.onto (second_end h f) (is_h f wf).1 in
          let ne : u.0 ≢ v.0 = λ q. d (sym u.2 ∙ ap move q ∙ v.2) in
          let s = alike.edges u.0 v.0 u.1 v.1 ne ∙ true_some (size h) (has_ends h (move u.0) (move v.0)) f wf (has_ends-from h (move u.0) (move v.0) f (inl (sym u.2, sym v.2))) in
          let e = some_true (size g) (has_ends g u.0 v.0) s in
          elim (has_ends-cases g u.0 v.0 e.0 e.2) [
            | inl k ↦ allowed_over e.0 f e.1 wf (λ q. ne (sym k.0 ∙ q ∙ k.1)) (inl (sym u.2 ∙ ap move (sym k.0), sym v.2 ∙ ap move (sym k.1))) (cov.allowed e.0 e.1 (λ q. ne (sym k.0 ∙ q ∙ k.1)))
            | inr k ↦ allowed_over e.0 f e.1 wf (λ q. ne (sym k.1 ∙ sym q ∙ k.0)) (inr (sym u.2 ∙ ap move (sym k.1), sym v.2 ∙ ap move (sym k.0))) (cov.allowed e.0 e.1 (λ q. ne (sym k.1 ∙ sym q ∙ k.0)))
          ]

      walk : (u v : ℕ) (ws : List ℕ) → Walk (adjacent g none) u ws v → (xs : List ℕ) × Walk (adjacent h none) (move u) xs (move v)
      walk u v [] w = ([], ap move w)
      walk u v (y ∷ ws) w = let r = walk y v ws w.1 in elim (cases_eq u y) [
        | inl q ↦ (r.0, subst (λ z. Walk (adjacent h none) z r.0 (move v)) (ap move (sym q)) r.1)
        | inr d ↦
            let p = adjacent-edge g none u y w.0 in
            let i = adjacent_within g none is u y w.0 in
            let s = sym (alike.edges u y i.0 i.1 d) ∙ true_some (size g) (has_ends g u y) p.2.0 p.2.1 p.2.2 in
            let f = some_true (size h) (has_ends h (move u) (move y)) s in
            (move y ∷ r.0, (adjacent_from h none (move u) (move y) f.0 refl refl f.1 f.2, r.1))
      ]

      joined_over : (u v : ℕ) → Within h.order u → Within h.order v → (ws : List ℕ) × Walk (adjacent h none) u ws v
      joined_over u v wu wv =
          let a = alike.onto u wu in let b = alike.onto v wv in let j = cov.connected a.0 b.0 a.1 b.1 in
          subst₂ (λ x y. (ws : List ℕ) × Walk (adjacent h none) x ws y) a.2 b.2 (walk a.0 b.0 j.0 j.1)
