-- The first cut that classes or cut pairs give. If no class gives a cut, the graph is bicritical,
-- since a class of two vertices gives a cut; a bicritical graph in which no cut pair gives a cut
-- has no cut pair.
use Rattle.graph_core.proofs.from_counting.Common.{◌≡◌, ℕ, ◌≤◌, true, ◌==◌, refl, sym, ap, ◌∙◌, ◌⊎◌, inl, inr, List, [], ◌∷◌, ◌++◌, length, Option, Some, None, arith, eqb-true, subst, ◌↔◌, All, slice_get, none-some, same_Some, All-head, Set}
use Rattle.graph_core.proofs.Common.{IsCovered, Graph, IsBipartite, IsMultigraph, IsBicritical, IsCutPair, equivalent_pair, IsNontrivial, IsTight}
use Rattle.matching_digraph.proofs.from_barrier_kit.Common.{barrier_cuts, four_vertices, no_sides, bicritical_no_cuts, some_cut}
use Rattle.brick_kit.proofs.Bricks.{brick_or_not}
use Rattle.brick_kit.specs.from_separation_kit.Common.{separation_cuts}
use Rattle.brick_kit.proofs.from_separation_kit.SeparationFacts.{cut_pair-none, no_pair_no_cuts, pair_some_cut, equivalent-none}

-- the first of a list
pub first-left : (xs ys : List (List ℕ)) (r : List ℕ) → slice_get xs 0 ≡ Some r → Some r ≡ slice_get (xs ++ ys) 0
first-left [] ys r h = absurd (none-some r h)
first-left (x ∷ xs) ys r h = sym h

pub first-right : (xs ys : List (List ℕ)) (o : Option (List ℕ)) → xs ≡ [] → slice_get ys 0 ≡ o → o ≡ slice_get (xs ++ ys) 0
first-right xs ys o e h = sym h ∙ ap (λ zs. slice_get (zs ++ ys) 0) (sym e)

pub first-of : (P : List ℕ → Type 0) (xs : List (List ℕ)) (r : List ℕ) → All P xs → slice_get xs 0 ≡ Some r → P r
first-of P [] r all h = absurd (none-some r h)
first-of P (x ∷ xs) r all h = subst P (same_Some x r h) (All-head P x xs all)

pub first-some : (xs : List (List ℕ)) (r : List ℕ) → slice_get xs 0 ≡ Some r → xs ≡ [] → ⊥
first-some xs r h e = none-some r (ap (λ zs. slice_get zs 0) (sym e) ∙ h)

pub empty-list : (xs : List (List ℕ)) → (length xs == 0) ≡ true → xs ≡ []
empty-list [] h = refl
empty-list (x ∷ xs) h = let e = eqb-true (length (x ∷ xs)) 0 h in absurd (omega arith)

pub critical_or_not : (g : Graph) → (IsBicritical g) ⊎ (IsBicritical g → ⊥)
critical_or_not g = go (equivalent_pair g) refl
  where
    go : (o : Option (ℕ × ℕ)) → equivalent_pair g ≡ o → (IsBicritical g) ⊎ (IsBicritical g → ⊥)
    go None e = inl ((equivalent-none g).0 e)
    go (Some k) e = inr (λ bi. let z : None ≡ Some k = sym ((equivalent-none g).1 bi) ∙ e in absurd cc)

module _ (g : Graph) (is : IsMultigraph g) (cov : IsCovered g) (odd : IsBipartite g → ⊥) where
  pub no_cuts-bicritical : barrier_cuts g ≡ [] → IsBicritical g
  no_cuts-bicritical e = grind (arith, critical_or_not g, some_cut g is.ends cov (no_sides g is.no_loop odd), no_sides g is.no_loop odd)

  pub at_least_four : 4 ≤ g.order
  at_least_four = four_vertices g is.ends cov (no_sides g is.no_loop odd)

  -- a first cut of a class
  pub class-none : (r : List ℕ) → slice_get (barrier_cuts g) 0 ≡ Some r → IsBicritical g → ⊥
  class-none r h bi = first-some (barrier_cuts g) r h (bicritical_no_cuts g is.ends cov bi)

  -- a first cut of a cut pair
  pub pair-none : (r : List ℕ) → slice_get (separation_cuts g) 0 ≡ Some r → ((u v : ℕ) → IsCutPair g u v → ⊥) → ⊥
  pair-none r h n = first-some (separation_cuts g) r h (no_pair_no_cuts g is.ends ((cut_pair-none g).1 n))

  -- no cut at all
  pub no_cut-pair : barrier_cuts g ≡ [] → separation_cuts g ≡ [] → (u v : ℕ) → IsCutPair g u v → ⊥
  no_cut-pair e f u v c = pair_some_cut g is.ends (no_cuts-bicritical e) at_least_four u v c f

-- a condition equivalent to "bicritical without a cut pair" is equivalent to: no nontrivial shore
-- is tight
pub none-brick : (g : Graph) (A : Type 0) → IsMultigraph g → IsCovered g → (IsBipartite g → ⊥) → A ↔ (IsBicritical g × ((u v : ℕ) → IsCutPair g u v → ⊥)) → A ↔ ((x : Set) → IsTight g x → IsNontrivial g.order x → ⊥)
none-brick g A is cov odd h = let b = brick_or_not g is cov odd in ((λ a. b.1 (h.0 a)), (λ none. h.1 (b.0 none)))
