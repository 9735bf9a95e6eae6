-- A list of three items in the order of a permutation: what does it keep? Its members, how many
-- marks are true, and how many of its items that pass are marked.
use Rattle.graph_core.proofs.from_counting.Common.{◌≡◌, ℕ, ◌-◌, ◌<◌, Bool, true, false, ◌⊎◌, List, [], ◌∷◌, length, map, refl, arith, slice_index, slice_index_or, Set, mem}
use Rattle.grow_gen.specs.Common.{permutation}
use Rattle.grow_gen.proofs.Rehanging.{caught}
use Rattle.grow_gen.proofs.ThreeEdges.{true_count}

-- three marks in the order of a permutation
abbrev pub permuted : ℕ → List Bool → List Bool
permuted i bs = map (λ j. slice_index_or bs (j - 1) false) (permutation i)

-- f of three numbers in the order of a permutation
abbrev pub permuted_values : ℕ → (ℕ → ℕ) → List ℕ → List ℕ
permuted_values i f xs = map (λ j. f (slice_index xs (j - 1))) (permutation i)

-- six cases
pub by_permutation : (P : ℕ → Type 0) → P 0 → P 1 → P 2 → P 3 → P 4 → P 5 → (i : ℕ) → i < 6 → P i
by_permutation P a b c d e f i l = grind arith

-- both in the same order give the same sum
pub caught-permuted : (x : Set) (f : ℕ → ℕ) (a b c : Bool) (p q r : ℕ) (i : ℕ) → i < 6 →
    caught x (permuted i (a ∷ b ∷ c ∷ [])) (permuted_values i f (p ∷ q ∷ r ∷ [])) ≡ caught (λ v. x (f v)) (a ∷ b ∷ c ∷ []) (p ∷ q ∷ r ∷ [])
caught-permuted x f a b c p q r = grind arith

-- a member of a list of three is one of them
pub mem-three : (t x y z : ℕ) → mem (x ∷ y ∷ z ∷ []) t ≡ true → (t ≡ x) ⊎ ((t ≡ y) ⊎ (t ≡ z))
mem-three t x y z h = grind arith

-- a permuted list has the items of the list
pub mem-permuted : (f : ℕ → ℕ) (p q r t : ℕ) (i : ℕ) → i < 6 → mem (permuted_values i f (p ∷ q ∷ r ∷ [])) t ≡ true → (t ≡ f p) ⊎ ((t ≡ f q) ⊎ (t ≡ f r))
mem-permuted f p q r t = grind arith

pub permuted-mem : (f : ℕ → ℕ) (p q r : ℕ) (i : ℕ) → i < 6 →
    (mem (permuted_values i f (p ∷ q ∷ r ∷ [])) (f p) ≡ true) × (mem (permuted_values i f (p ∷ q ∷ r ∷ [])) (f q) ≡ true) × (mem (permuted_values i f (p ∷ q ∷ r ∷ [])) (f r) ≡ true)
permuted-mem f p q r = grind arith

-- a permutation keeps how many are true, and each three come from three
pub true_count-permuted : (a b c : Bool) (i : ℕ) → i < 6 → (x : Bool) × (y : Bool) × (z : Bool) × (permuted i (a ∷ b ∷ c ∷ []) ≡ x ∷ y ∷ z ∷ []) × (true_count (x ∷ y ∷ z ∷ []) ≡ true_count (a ∷ b ∷ c ∷ []))
true_count-permuted a b c = by_permutation (λ i. (x : Bool) × (y : Bool) × (z : Bool) × (permuted i (a ∷ b ∷ c ∷ []) ≡ x ∷ y ∷ z ∷ []) × (true_count (x ∷ y ∷ z ∷ []) ≡ true_count (a ∷ b ∷ c ∷ [])))
    (a, b, c, refl, refl) (a, c, b, refl, omega arith) (b, a, c, refl, omega arith) (b, c, a, refl, omega arith) (c, a, b, refl, omega arith) (c, b, a, refl, omega arith)

pub permuted-back : (a b c : Bool) (i : ℕ) → i < 6 → (x : Bool) × (y : Bool) × (z : Bool) × ((a ∷ b ∷ c ∷ []) ≡ permuted i (x ∷ y ∷ z ∷ [])) × (true_count (x ∷ y ∷ z ∷ []) ≡ true_count (a ∷ b ∷ c ∷ []))
permuted-back a b c = by_permutation (λ i. (x : Bool) × (y : Bool) × (z : Bool) × ((a ∷ b ∷ c ∷ []) ≡ permuted i (x ∷ y ∷ z ∷ [])) × (true_count (x ∷ y ∷ z ∷ []) ≡ true_count (a ∷ b ∷ c ∷ [])))
    (a, b, c, refl, refl) (a, c, b, refl, omega arith) (b, a, c, refl, omega arith) (c, a, b, refl, omega arith) (b, c, a, refl, omega arith) (c, b, a, refl, omega arith)

-- the length of a permuted list
pub length-permuted : (f : ℕ → ℕ) (p q r : ℕ) (i : ℕ) → i < 6 → length (permuted_values i f (p ∷ q ∷ r ∷ [])) ≡ 3
length-permuted f p q r = by_permutation (λ i. length (permuted_values i f (p ∷ q ∷ r ∷ [])) ≡ 3) refl refl refl refl refl refl
