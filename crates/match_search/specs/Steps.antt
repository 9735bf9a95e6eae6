-- What a step of the matching engine returns: a matching with one more edge, or a frame. An odd
-- cycle is prepared for its shrinking.
-- Stated by: match_search.
use Rattle.std.specs.Prelude.{◌≡◌, ℕ, ◌+◌, true}
use Rattle.graph_core.specs.from_counting.Common.{count, Within, Set, minus, union, mem}
use Rattle.graph_core.specs.Common.{Graph, size, degree, IsMatching}
use Rattle.match_search.specs.Frames.{Frame}
use Rattle.match_search.specs.OddCycles.{IsOddCycle, every_other, picked}
use Rattle.match_search.specs.declared.answer.FinalSets.{FinalSets}
use Rattle.match_search.specs.declared.answer.Answer.{Answer}
use Rattle.match_search.specs.declared.answer.Answer.TheVariants.{Grown, Final}

-- m is f with the edges exchanged on the path to an odd cycle, so that its first vertex is missed,
-- and without the edges at even places of the cycle
pub record IsOpenedCycle (g : Graph) (r f m : Set) (n : ℕ) (c e : ℕ → ℕ) : Type 0 where
  pub cycle : IsOddCycle g r n c e
  pub stem : Set
  pub matching : IsMatching g r stem
  pub same : count (size g) stem ≡ count (size g) f
  pub free : degree g stem (c 1) ≡ 0
  pub holds : (d : ℕ) → Within (size g) d → picked n (every_other 1) e d ≡ true → stem d ≡ true
  pub left : (d : ℕ) → m d ≡ minus stem (picked n (every_other 1) e) d

-- the outer and the inner vertices are vertices
abbrev pub AreVertexSets : Graph → FinalSets → Type 0
AreVertexSets g sets = (v : ℕ) → (mem sets.outer v ≡ true → Within g.order v) × (mem sets.inner v ≡ true → Within g.order v)

-- |m| = |f| + 1, or |m| = |f| and a frame for as many edges
abbrev pub StepAnswer : Graph → Set → Set → Set → Answer → Type 0
StepAnswer g r f m Grown = count (size g) m ≡ count (size g) f + 1
StepAnswer g r f m (Final sets) = (count (size g) m ≡ count (size g) f) × Frame g r (count (size g) f) (mem sets.outer) (mem sets.inner) × AreVertexSets g sets

-- the outer vertices of a final result, together with the set c
abbrev pub IsWidened : Answer → Set → Answer → Type 0
IsWidened Grown c Grown = Unit {0}
IsWidened (Final below) c (Final sets) = ((v : ℕ) → mem sets.outer v ≡ union (mem below.outer) c v) × (sets.inner ≡ below.inner)
IsWidened Grown c (Final sets) = ⊥
IsWidened (Final below) c Grown = ⊥
