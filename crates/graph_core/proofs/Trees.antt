-- A search tree hangs its vertices on those that were found before, so the way up from a vertex
-- is a walk to a root, as long as the vertex is deep. Two ways up from the ends of an edge,
-- closed by the edge, are an odd walk where the depths are alike.
use Rattle.vset_core.proofs.from_counting.Common.{◌≡◌, ℕ, suc, zero, ◌+◌, ◌<◌, Bool, true, false, refl, ap, ◌∙◌, arith, ◌&&◌, not, List, [], ◌∷◌, ◌++◌, length, nat_lt, lt-ltb, and_from, and_parts, both_ways, cases_order, length-append, true_some, Within, Set, some}
use Rattle.graph_core.specs.Common.{is_least, Graph, IsGraph, Hangs, IsForest, way_up, way_down, above, Joined, Walk, adjacent, joined}
use Rattle.graph_core.proofs.Components.{walk_joined}
use Rattle.graph_core.proofs.Walks.{Walk-join, adjacent-edge, adjacent_back, adjacent_from, adjacent_within, joined_back}

-- what is adjacent without a set is adjacent without a smaller one
pub adjacent_more : (g : Graph) (s t : Set) → ((v : ℕ) → s v ≡ false → t v ≡ false) → (u v : ℕ) → adjacent g s u v ≡ true → adjacent g t u v ≡ true
adjacent_more g s t h u v a = let p = adjacent-edge g s u v a in adjacent_from g t u v p.2.0 (h u p.0) (h v p.1) p.2.1 p.2.2

Walk_more : (p q : ℕ → ℕ → Bool) → ((u v : ℕ) → p u v ≡ true → q u v ≡ true) → (u v : ℕ) (ws : List ℕ) → Walk p u ws v → Walk q u ws v
Walk_more p q h u v [] w = w
Walk_more p q h u v (y ∷ ws) w = (h u y w.0, Walk_more p q h y v ws w.1)

pub joined_more : (g : Graph) (s t : Set) → ((v : ℕ) → s v ≡ false → t v ≡ false) → (u v : ℕ) → Joined g s u v → Joined g t u v
unfolding Joined
joined_more g s t h u v j = (j.0, Walk_more (adjacent g s) (adjacent g t) (adjacent_more g s t h) u v j.0 j.1)

pub hangs_more : (g : Graph) (s t : Set) (parent depth : ℕ → ℕ) (v : ℕ) → ((w : ℕ) → s w ≡ false → t w ≡ false) → Hangs g s parent depth v → Hangs g t parent depth v
hangs_more g s t parent depth v h k = record { joins = adjacent_more g s t h (parent v) v k.joins; deeper = k.deeper }

-- the place of a vertex of depth k
pub record StandsAt (g : Graph) (s roots : Set) (parent depth : ℕ → ℕ) (k v : ℕ) : Type 0 where
  pub within : Within g.order v
  pub outside : s v ≡ false
  pub deep : depth v ≡ k

module _ (g : Graph) (s roots : Set) (parent depth : ℕ → ℕ) (is : IsGraph g) (forest : IsForest g s roots parent depth) where
  -- a vertex at depth 0 is a root
  pub root_at : (v : ℕ) → StandsAt g s roots parent depth zero v → roots v ≡ true
  root_at v at = grind arith

  -- a deeper one hangs on its parent, which is one step less deep
  pub hangs_at : (k v : ℕ) → StandsAt g s roots parent depth (suc k) v → (adjacent g s (parent v) v ≡ true) × StandsAt g s roots parent depth k (parent v)
  hangs_at k v at = grind (arith, adjacent_within g s is (parent v) v, adjacent-edge g s (parent v) v)

  -- the way up leads to a root
  pub above_root : (k v : ℕ) → StandsAt g s roots parent depth k v → (roots (above parent k v) ≡ true) × StandsAt g s roots parent depth zero (above parent k v)
  above_root zero v at = (root_at v at, at)
  above_root (suc k) v at = above_root k (parent v) (hangs_at k v at).1

  pub up_walk : (k v : ℕ) → StandsAt g s roots parent depth k v → Walk (adjacent g s) v (way_up parent k v) (above parent k v)
  up_walk zero v at = refl
  up_walk (suc k) v at = let h = hangs_at k v at in (adjacent_back g s (parent v) v h.0, up_walk k (parent v) h.1)

  pub down_walk : (k v : ℕ) → StandsAt g s roots parent depth k v → Walk (adjacent g s) (above parent k v) (way_down parent k v) v
  down_walk zero v at = refl
  down_walk (suc k) v at = let h = hangs_at k v at in
      Walk-join (adjacent g s) (above parent k (parent v)) (parent v) v (way_down parent k (parent v)) (v ∷ []) (down_walk k (parent v) h.1) (h.0, refl)

  -- a vertex is joined to the root above it
  pub above_joined : (k v : ℕ) → StandsAt g s roots parent depth k v → Joined g s v (above parent k v)
  unfolding Joined
  above_joined k v at = (way_up parent k v, up_walk k v at)

pub length-way_up : (parent : ℕ → ℕ) (k v : ℕ) → length (way_up parent k v) ≡ k
length-way_up parent zero v = refl
length-way_up parent (suc k) v = ap suc (length-way_up parent k (parent v))

pub length-way_down : (parent : ℕ → ℕ) (k v : ℕ) → length (way_down parent k v) ≡ k
length-way_down parent zero v = refl
length-way_down parent (suc k) v = length-append (way_down parent k (parent v)) (v ∷ []) ∙ ap (λ i. i + 1) (length-way_down parent k (parent v)) ∙ omega arith

-- two vertices of one component that are both its least are the same
pub least_same : (g : Graph) (s : Set) → IsGraph g → (u v : ℕ) → Within g.order u → Within g.order v → is_least g s u ≡ true → is_least g s v ≡ true → Joined g s u v → u ≡ v
least_same g s is u v wu wv a b j = grind (arith, cases_order u v, no_less v u wv wu b (joined_back g s u v j), joined_back g s u v j, no_less u v wu wv a j)
  where
    no_less : (u v : ℕ) → Within g.order u → Within g.order v → is_least g s u ≡ true → Joined g s u v → v < u → ⊥
    no_less u v wu wv a j l =
        let p = and_parts (not (s u)) (not (some g.order (λ v. joined g s u v && nat_lt v u))) a in
        let q = true_some g.order (λ v. joined g s u v && nat_lt v u) v wv (and_from (joined g s u v) (nat_lt v u) (walk_joined g s is u v wu j) (lt-ltb v u l)) in
        both_ways (not (some g.order (λ v. joined g s u v && nat_lt v u))) (ap not q) p.1

-- the ways of a vertex and of its parent
pub way_up-step : (parent depth : ℕ → ℕ) (v : ℕ) → depth v ≡ depth (parent v) + 1 → way_up parent (depth v) v ≡ parent v ∷ way_up parent (depth (parent v)) (parent v)
way_up-step parent depth v h = let e : depth v ≡ suc (depth (parent v)) = omega arith in ap (λ k. way_up parent k v) e

pub way_down-step : (parent depth : ℕ → ℕ) (v : ℕ) → depth v ≡ depth (parent v) + 1 → way_down parent (depth v) v ≡ way_down parent (depth (parent v)) (parent v) ++ v ∷ []
way_down-step parent depth v h = let e : depth v ≡ suc (depth (parent v)) = omega arith in ap (λ k. way_down parent k v) e
