-- How the matching engine is asked whether ears serve, and what is found.
-- Stated by: ear_core. Used by: theorems.
use Rattle.std.specs.Prelude.{◌≡◌, ◌⊎◌, ◌↔◌, ℕ, List, [], ◌∷◌, not}
use Rattle.graph_core.specs.from_counting.Common.{Within, complement, count, mem, IsIn, Set, union}
use Rattle.graph_core.specs.Common.{Graph, size, HasPerfect}
use Rattle.ear_core.specs.AlternatingEars.{Serves, ends_of_ear}
use Rattle.ear_core.specs.EarLists.{PlainEar, PlainStep, two}
use Rattle.ear_core.specs.Ears.{IsEar}
use Rattle.ear_core.specs.Stages.{is_met}
use Rattle.ear_core.specs.declared.asking.Asked.{Asked}

-- it is asked about the stage f: on the vertices of g it has as many edges as f, it has a perfect
-- matching without the vertices off f and others if f has one without these others
pub record IsAsked (g : Graph) (f : Set) (asked : Asked) : Type 0 where
  pub order : asked.stage.order ≡ g.order
  pub edges : size asked.stage ≡ count (size g) f
  pub outside : (v : ℕ) → Within g.order v → mem asked.outside v ≡ not (is_met g f v)
  pub serves : (r : Set) → HasPerfect asked.stage (union (complement (is_met g f)) r) ↔ Serves g f r

-- a stands before b in the list
abbrev pub IsBefore : PlainEar → PlainEar → List PlainEar → Type 0
IsBefore a b [] = ⊥
IsBefore a b (c ∷ ears) = ((a ≡ c) × IsIn b ears) ⊎ IsBefore a b ears

-- the members of the list are ears of f
abbrev pub AreEars : Graph → Set → List PlainEar → Type 0
AreEars g f ears = (a : PlainEar) → IsIn a ears → IsEar g f a.begin a.edges

-- an ear of the list that serves
abbrev pub FindsAlone : Graph → Set → List PlainEar → PlainEar → Type 0
FindsAlone g f ears a = IsIn a ears × Serves g f (ends_of_ear g a)

-- an ear of the list that serves together with the vertices x
abbrev pub FindsBeside : Graph → Set → Set → List PlainEar → PlainEar → Type 0
FindsBeside g f x ears a = IsIn a ears × Serves g f (union x (ends_of_ear g a))

-- the step adds two ears of the list that serve together
abbrev pub FindsTwo : Graph → Set → List PlainEar → PlainStep → Type 0
FindsTwo g f ears s = (a : PlainEar) × (b : PlainEar) × IsBefore a b ears × (s ≡ two a b) × Serves g f (union (ends_of_ear g a) (ends_of_ear g b))

-- no ear of the list serves
abbrev pub NoneServes : Graph → Set → List PlainEar → Type 0
NoneServes g f ears = (a : PlainEar) → IsIn a ears → Serves g f (ends_of_ear g a) → ⊥

-- no ear of the list serves together with the vertices x
abbrev pub NoneServesBeside : Graph → Set → Set → List PlainEar → Type 0
NoneServesBeside g f x ears = (a : PlainEar) → IsIn a ears → Serves g f (union x (ends_of_ear g a)) → ⊥

-- no two ears of the list serve together
abbrev pub NoTwoServe : Graph → Set → List PlainEar → Type 0
NoTwoServe g f ears = (a b : PlainEar) → IsBefore a b ears → Serves g f (union (ends_of_ear g a) (ends_of_ear g b)) → ⊥
