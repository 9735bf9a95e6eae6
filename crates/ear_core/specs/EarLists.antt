-- Ear lists (Lovász and Plummer, "Matching Theory"), over plain data: the first stage is one
-- edge, each step adds one ear or two to a matching covered stage so that the next is matching
-- covered, and the last stage holds all edges.
-- Stated by: ear_core, ear_text, mcg6_lines, bench_tasks, bench_reports, theorems.
-- Used by: bench_outcomes, bench_top.
use Rattle.std.specs.Prelude.{◌≡◌, ◌<◌, ℕ, true, List, [], ◌∷◌, All, length}
use Rattle.std.specs.List.{AllByRecursion}
use Rattle.graph_core.specs.from_counting.Common.{Within, Set, singleton}
use Rattle.graph_core.specs.Common.{Graph, size}
use Rattle.ear_core.specs.Stages.{IsStage, with_edges}
use Rattle.ear_core.specs.Ears.{IsEar, IsEarPair}

-- an ear by the vertex where it begins and its edges in order
pub record PlainEar : Type 0 where
  pub begin : ℕ
  pub edges : List ℕ

-- a step adds one ear or two
pub data PlainStep : Type 0 where
  one : (ear : PlainEar) → PlainStep
  two : (ear other : PlainEar) → PlainStep

-- the edge of the first stage, and the steps
pub record PlainEars : Type 0 where
  pub start : ℕ
  pub steps : List PlainStep

-- the stage after a step
abbrev pub next_stage : Set → PlainStep → Set
next_stage f (one a) = with_edges f a.edges
next_stage f (two a b) = with_edges (with_edges f a.edges) b.edges

-- a step adds an ear of f, or two
abbrev pub IsStep : Graph → Set → PlainStep → Type 0
IsStep g f (one a) = IsEar g f a.begin a.edges
IsStep g f (two a b) = IsEarPair g f a.begin a.edges b.begin b.edges

-- the steps lead from the stage f over matching covered stages to that of all edges
abbrev pub AreSteps : Graph → Set → List PlainStep → Type 0
AreSteps g f [] = (e : ℕ) → Within (size g) e → f e ≡ true
AreSteps g f (s ∷ steps) = IsStep g f s × IsStage g (next_stage f s) × AreSteps g (next_stage f s) steps

-- an ear list of g
pub record IsEarList (g : Graph) (list : PlainEars) : Type 0 where
  pub start : Within (size g) list.start
  pub first_stage : IsStage g (singleton list.start)
  pub steps : AreSteps g (singleton list.start) list.steps

-- a step of one ear
abbrev pub IsSingle : PlainStep → Type 0
IsSingle (one a) = Unit {0}
IsSingle (two a b) = ⊥

-- a step of two ears is needed: neither of them alone keeps the stage f matching covered
abbrev pub IsNeeded : Graph → Set → PlainStep → Type 0
IsNeeded g f (one a) = Unit {0}
IsNeeded g f (two a b) = (¬ IsStage g (next_stage f (one a))) × (¬ IsStage g (next_stage f (one b)))

-- each step of the list from the stage f on is as P asks of the stage before it
abbrev pub AreEach : (Set → PlainStep → Type 0) → Set → List PlainStep → Type 0
AreEach P f [] = Unit {0}
AreEach P f (s ∷ steps) = P f s × AreEach P (next_stage f s) steps

-- each step of two ears from the stage f on is needed
abbrev pub AreNeeded : Graph → Set → List PlainStep → Type 0
AreNeeded g f steps = AreEach (IsNeeded g) f steps

-- no step of the list can be refined: where it adds two ears they cannot be added one by one
abbrev pub IsUnrefinable : Graph → PlainEars → Type 0
IsUnrefinable g list = AreNeeded g (singleton list.start) list.steps

-- a step of two ears is forced: no ear list goes on from the stage f by a single ear
abbrev pub IsForced : Graph → Set → PlainStep → Type 0
IsForced g f (one a) = Unit {0}
IsForced g f (two a b) = (c : PlainEar) (steps : List PlainStep) → AreSteps g f (one c ∷ steps) → ⊥

-- each step of two ears from the stage f on is forced
abbrev pub AreForced : Graph → Set → List PlainStep → Type 0
AreForced g f steps = AreEach (IsForced g) f steps

-- the list adds two ears only at stages from which no ear list goes on by a single ear
abbrev pub TakesSingles : Graph → PlainEars → Type 0
TakesSingles g list = AreForced g (singleton list.start) list.steps

-- no ear of a step is empty
abbrev pub HasEdges : PlainStep → Type 0
HasEdges (one a) = 0 < length a.edges
HasEdges (two a b) = (0 < length a.edges) × (0 < length b.edges)

-- the numbers of an ear are a vertex of 1 to n and edges of 1 to m
abbrev pub FitsEar : ℕ → ℕ → PlainEar → Type 0
FitsEar n m a = Within n a.begin × All (Within m) a.edges

-- those of a step
abbrev pub FitsStep : ℕ → ℕ → PlainStep → Type 0
FitsStep n m (one a) = FitsEar n m a
FitsStep n m (two a b) = FitsEar n m a × FitsEar n m b

-- those of a list: all numbers are in range
pub record FitsEars (n m : ℕ) (list : PlainEars) : Type 0 where
  pub start : Within m list.start
  pub steps : AllByRecursion (FitsStep n m) list.steps
