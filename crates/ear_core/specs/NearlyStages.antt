-- What is known of a stage to which ears were added, before its edges are asked one by one: at
-- most every other edge of the ears is left to ask.
-- Stated by no contract. Used by: ear_core, theorems.
use Rattle.std.specs.Prelude.{◌≡◌, ℕ, true, false, List, [], ◌∷◌}
use Rattle.graph_core.specs.from_counting.Common.{Within, Set}
use Rattle.graph_core.specs.Common.{Graph, size, Walk}
use Rattle.ear_core.specs.Stages.{is_met, adjacent_by, IsPerfectOf, AllowedBy}

-- the first, third, .. of a list
abbrev pub odds : List ℕ → List ℕ
odds [] = []
odds (e ∷ []) = e ∷ []
odds (e ∷ d ∷ es) = e ∷ odds es

-- the second, fourth, .. of a list
abbrev pub evens : List ℕ → List ℕ
evens [] = []
evens (e ∷ []) = []
evens (e ∷ d ∷ es) = d ∷ evens es

-- as a stage, but for the edges of o: some of them may lie in no perfect matching
pub record IsNearlyStage (g : Graph) (f : Set) (o : Set) : Type 0 where
  pub some_edge : (e : ℕ) × Within (size g) e × (f e ≡ true)
  pub connected : (u v : ℕ) → Within g.order u → Within g.order v → is_met g f u ≡ true → is_met g f v ≡ true → (ws : List ℕ) × Walk (adjacent_by g f) u ws v
  pub perfect : (m : Set) × IsPerfectOf g f m
  pub allowed : (e : ℕ) → Within (size g) e → f e ≡ true → o e ≡ false → AllowedBy g f e
