-- Two partitions of one graph with the same adjacency of blocks, by a map of vertices in each
-- direction; the images of shores; and trees of cuts carried along these maps.
-- Stated by: move_laws.
use Rattle.std.specs.Prelude.{◌≡◌, ℕ, ◌≢◌, Bool, List, not, cond, ◌⊎◌}
use Rattle.graph_core.specs.from_counting.Common.{Within, Set, mem, rising_list}
use Rattle.graph_core.specs.Common.{Graph, size, first_end, second_end, place}
use Rattle.tree_core.specs.Common.{Shape, leaf, cut}

-- edge f has its ends in the blocks a and b of q
abbrev pub EndsAt : Graph → List (List ℕ) → ℕ → ℕ → ℕ → Type 0
EndsAt g q f a b = ((place q (first_end g f) ≡ a) × (place q (second_end g f) ≡ b)) ⊎ ((place q (first_end g f) ≡ b) × (place q (second_end g f) ≡ a))

-- one way: h takes blocks of p to blocks of q, k takes the block of h v back to that of v, and
-- edges between blocks have images
pub record OneWay (g : Graph) (p q : List (List ℕ)) (h k : ℕ → ℕ) : Type 0 where
  pub within : (v : ℕ) → Within g.order v → Within g.order (h v)
  pub blocks : (v w : ℕ) → Within g.order v → Within g.order w → place p v ≡ place p w → place q (h v) ≡ place q (h w)
  pub again : (v : ℕ) → Within g.order v → place p (k (h v)) ≡ place p v
  pub edges : (e : ℕ) → Within (size g) e → place p (first_end g e) ≢ place p (second_end g e) → (f : ℕ) × Within (size g) f × EndsAt g q f (place q (h (first_end g e))) (place q (h (second_end g e)))

-- in both directions: the two are the same leaf
pub record Isomorphism (g : Graph) (p q : List (List ℕ)) (h k : ℕ → ℕ) : Type 0 where
  pub there : OneWay g p q h k
  pub back : OneWay g q p k h

-- the image of a shore
abbrev pub pre : (ℕ → ℕ) → Set → Set
pre k x v = x (k v)

-- a cut with its shore replaced by the image, or by the complement of the image with the two
-- trees exchanged
abbrev pub carry_cut : ℕ → (ℕ → ℕ) → List ℕ → Bool → Shape → Shape → Shape
carry_cut n k x t a b = cond t (cut (rising_list n (λ v. not (mem x (k v)))) b a) (cut (rising_list n (λ v. mem x (k v))) a b)

-- the tree with each shore replaced by the canonical one of its image and the image's complement,
-- and the two subtrees exchanged if the complement is taken
abbrev pub carry : ℕ → (ℕ → ℕ) → Shape → Shape
carry n k leaf = leaf
carry n k (cut x a b) = carry_cut n k x (mem x (k n)) (carry n k a) (carry n k b)
