-- The first separation cut is the first cut at the first cut pair. The shores at that pair come
-- first, and one of them gives a cut.
use Rattle.std.proofs.Common.{◌≡◌, ◌≢◌, ℕ, ◌<◌, ◌≤◌, Bool, true, false, ◌&&◌, cond, refl, sym, ap, ap₂, ◌∙◌, arith, List, [], ◌∷◌, ◌++◌, Some, None, filter, flat_map, fold, slice_get, leb-true, le-leb, All, find}
use Rattle.graph_core.proofs.from_counting.Common.{All-tail, Within, rising_pairs, pair_set}
use Rattle.graph_core.proofs.Common.{component_count, Graph, IsGraph, IsBicritical, IsCutPair, cut_pair, with_cut}
use Rattle.barrier_kit.proofs.Common.{pairs_rise, first-of_part}
use Rattle.separation_kit.specs.Common.{is_cut_pair, separation_cuts, separation_shores, shores_at_pair}
use Rattle.separation_kit.proofs.PairShores.{bicritical-true}
use Rattle.separation_kit.proofs.SeparationFacts.{no_pair_no_cuts, pair_own_cut}

-- what a search finds passes the test, and is the first that does
found_holds : {X : Type 0} (p : X → Bool) (P : X → Type 0) (xs : List X) (k : X) → All P xs → find p xs ≡ Some k → P k × (p k ≡ true)
found_holds p P [] k all h = absurd cc
found_holds p P (x ∷ xs) k all h = go (p x) refl (found_holds p P xs k (All-tail P x xs all)) h
  where
    go : (b : Bool) → p x ≡ b → (find p xs ≡ Some k → P k × (p k ≡ true)) → cond b (Some x) (find p xs) ≡ Some k → P k × (p k ≡ true)
    go b e later q = grind arith

found_rest : {X : Type 0} (p : X → Bool) (xs : List X) (k : X) → find p xs ≡ Some k → (ys : List X) × (filter p xs ≡ k ∷ ys)
found_rest p [] k h = absurd cc
found_rest {X = X} p (x ∷ xs) k h = go (p x) (found_rest p xs k) h
  where
    go : (b : Bool) → (find p xs ≡ Some k → (ys : List X) × (filter p xs ≡ k ∷ ys)) → cond b (Some x) (find p xs) ≡ Some k → (ys : List X) × (cond b (x ∷ filter p xs) (filter p xs) ≡ k ∷ ys)
    go true later q = (filter p xs, let same : x ≡ k = cc in ap (λ y. y ∷ filter p xs) same)
    go false later q = later q

-- the first cut pair is one
module _ (g : Graph) (k : ℕ × ℕ) (first : Some k ≡ cut_pair g) where
  pub first_pair : Within g.order k.0 × Within g.order k.1 × (k.0 < k.1) × (is_cut_pair g k ≡ true)
  unfolding cut_pair
  first_pair =
      let found = found_holds (is_cut_pair g) (λ k. Within g.order k.0 × Within g.order k.1 × (k.0 < k.1)) (rising_pairs g.order) k (pairs_rise g.order) (sym first) in
      (found.0.0, found.0.1, found.0.2, found.1)

  pub is_pair : IsCutPair g k.0 k.1
  is_pair = let f = first_pair in let l = f.2 in record { first = f.0; second = f.1; different = λ e. omega arith; parts = leb-true 2 (component_count g (pair_set k.0 k.1)) f.3 }

  -- its shores come first
  shores_first : IsBicritical g → 4 ≤ g.order → (more : List (List ℕ)) × (separation_shores g ≡ shores_at_pair g k ++ more)
  unfolding cut_pair separation_shores
  shores_first bi four =
      let rest = found_rest (is_cut_pair g) (rising_pairs g.order) k (sym first) in (
        flat_map (shores_at_pair g) rest.0,
        ap₂ (λ b d. cond (b && d) (flat_map (shores_at_pair g) (filter (is_cut_pair g) (rising_pairs g.order))) []) (bicritical-true g bi) (le-leb 4 g.order four)
            ∙ ap (flat_map (shores_at_pair g)) rest.1,
      )

  -- and their first cut is the first of all
  module _ (bi : IsBicritical g) (four : 4 ≤ g.order) (cuts : List (List ℕ)) (old : cuts ≡ fold (with_cut g.order) [] (shores_at_pair g k)) where
    pub first_separation : (c : List ℕ) → slice_get cuts 0 ≡ Some c → Some c ≡ slice_get (separation_cuts g) 0
    unfolding separation_cuts
    first_separation c h = grind (arith, shores_first bi four, first-of_part g.order cuts (shores_at_pair g k), slice_get)

    pub some_first : IsGraph g → cuts ≢ []
    some_first is e = pair_own_cut g is bi four k.0 k.1 is_pair (sym old ∙ e)

pub no_first : (g : Graph) → IsGraph g → None ≡ cut_pair g → None ≡ slice_get (separation_cuts g) 0
no_first g is e = ap (λ (list : List (List ℕ)). slice_get list 0) (sym (no_pair_no_cuts g is (sym e)))
