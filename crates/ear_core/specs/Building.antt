-- What the builder of ear lists has made: the marks of a stage and the steps that led to it.
-- Stated by: ear_core.
use Rattle.std.specs.Prelude.{◌≡◌, ◌++◌, ℕ, List, map}
use Rattle.std.specs.List.{AllByRecursion}
use Rattle.graph_core.specs.from_counting.Common.{Set, pair_set}
use Rattle.graph_core.specs.Common.{Graph, IsBipartite}
use Rattle.two_ears.specs.from_match_search.Common.{marks}
use Rattle.ear_core.specs.AlternatingEars.{KeepsMates, Serves}
use Rattle.ear_core.specs.EarLists.{AreForced, AreNeeded, AreSteps, IsForced, IsNeeded, IsSingle, IsStep, PlainStep, next_stage}
use Rattle.ear_core.specs.MarkedStages.{IsMarked}
use Rattle.ear_core.specs.StagePartners.{ArePartnersOn}
use Rattle.ear_core.specs.Stages.{IsStage, is_met}
use Rattle.ear_core.specs.View.{step_of}
use Rattle.ear_core.specs.declared.built.Built.{Built}

-- the steps lead from the stage `first` to f: together with steps that go on from f they are steps
-- from `first`, each of two ears needed and forced if the others are; all are single if the graph
-- is bipartite
pub record LeadTo (g : Graph) (first f : Set) (made : List PlainStep) : Type 0 where
  pub steps : (others : List PlainStep) → AreSteps g f others → AreSteps g first (made ++ others)
  pub needed : (others : List PlainStep) → AreNeeded g f others → AreNeeded g first (made ++ others)
  pub forced : (others : List PlainStep) → AreForced g f others → AreForced g first (made ++ others)
  pub single : IsBipartite g → AllByRecursion IsSingle made

-- the step leads from the stage f to one that holds the mates of its vertices, as a list goes on
-- that takes single ears where it can
pub record GoesOn (g : Graph) (n : ℕ → ℕ) (f : Set) (s : PlainStep) : Type 0 where
  pub step : IsStep g f s
  pub stage : IsStage g (next_stage f s)
  pub mates : KeepsMates g n (is_met g (next_stage f s))
  pub needed : IsNeeded g f s
  pub forced : IsForced g f s
  pub single : IsBipartite g → IsSingle s

-- the marks are those of a stage that holds the mates of its vertices, and the steps lead to it
pub record IsBuilt (g : Graph) (n : ℕ → ℕ) (first : Set) (b : Built) : Type 0 where
  pub marked : IsMarked g b.marked
  pub stage : IsStage g (marks b.marked.mark.items)
  pub mates : KeepsMates g n (is_met g (marks b.marked.mark.items))
  pub leads : LeadTo g first (marks b.marked.mark.items) (map step_of b.steps)

-- the same, and the stage has the vertices of the stage f, and partners on f are partners on it
pub record IsFilled (g : Graph) (n : ℕ → ℕ) (first f : Set) (b : Built) : Type 0 where
  pub built : IsBuilt g n first b
  pub met : (v : ℕ) → is_met g (marks b.marked.mark.items) v ≡ is_met g f v
  pub partners : (u v : ℕ) → ArePartnersOn g f u v → Serves g (marks b.marked.mark.items) (pair_set u v)
