-- A flood from a vertex that stays in a set finds what walks in the set lead to. Idea: it is the
-- least set with the root that no step leaves.
use Rattle.vset_core.proofs.from_counting.Common.{◌≡◌, ℕ, List, [], ◌∷◌, true, ◌==◌, refl, sym, ap, ◌∙◌, arith, subst, eq-eqb, eqb-true, not-false, same_tests, Within, mem, Set, complement}
use Rattle.graph_core.specs.Common.{Graph, IsGraph, AreRows, Joined, Walk, adjacent, joined}
use Rattle.graph_core.proofs.Components.{joined_walk, walk_joined}
use Rattle.graph_core.proofs.Walks.{adjacent-edge, joined_on, joined_self}
use Rattle.vset_core.specs.Floods.{IsFlood, leads}

module _ (g : Graph) (is : IsGraph g) (left inner found : Set) (root : ℕ) (rows : List (List ℕ)) (roots : List ℕ) (are : AreRows g rows) (vertices : (v : ℕ) → left v ≡ true → Within g.order v) (in_left : left root ≡ true) (one : roots ≡ root ∷ [])
    (flood : IsFlood rows left (mem roots) inner found) where
  -- the arcs within what is left are the steps there
  arc_is : (u w : ℕ) → left u ≡ true → left w ≡ true → leads rows u w ≡ adjacent g (complement left) u w
  arc_is u w i j = grind arith

  own_root : (v : ℕ) → mem roots v ≡ (root == v)
  own_root v = grind arith

  within_root : Within g.order root
  within_root = vertices root in_left

  -- the component of the root in what is left
  pub flood-joined : (v : ℕ) → found v ≡ joined g (complement left) root v
  unfolding Joined
  flood-joined v = same_tests (found v) (joined g (complement left) root v)
      (λ f. flood.least (joined g (complement left) root) start on v f)
      (λ h. let j = joined_walk g (complement left) root v h in stays root j.0 (flood.start root (own_root root ∙ eq-eqb root root refl)) j.1)
    where
      start : (v : ℕ) → mem roots v ≡ true → joined g (complement left) root v ≡ true
      start v r = walk_joined g (complement left) is root v within_root (subst (Joined g (complement left) root) (eqb-true root v (sym (own_root v) ∙ r)) (joined_self g (complement left) root))

      on : (u v : ℕ) → left u ≡ true → inner u ≡ true → joined g (complement left) root u ≡ true → leads rows u v ≡ true → left v ≡ true → joined g (complement left) root v ≡ true
      on u v i n j a k = walk_joined g (complement left) is root v within_root (joined_on g (complement left) root u v (joined_walk g (complement left) root u j) (v ∷ [], (sym (arc_is u v i k) ∙ a, refl)))

      stays : (u : ℕ) (ws : List ℕ) → found u ≡ true → Walk (adjacent g (complement left)) u ws v → found v ≡ true
      stays u [] f w = sym (ap found w) ∙ f
      stays u (y ∷ ws) f w =
          let i = flood.inside u f in
          let p = adjacent-edge g (complement left) u y w.0 in
          let k = not-false (left y) p.1 in
          stays y ws (flood.closed u y f (arc_is u y i k ∙ w.0) k) w.1
