-- The text that is written for an ear list.
-- Stated by: ear_text. Used by: bench_outcomes, bench_top, theorems.
use Rattle.std.specs.Prelude.{ℕ, ◌<◌, ◌^◌, List, [], ◌∷◌, codes, map, decimal}
use Rattle.std.specs.List.{AllByRecursion}
use Rattle.graph_core.specs.from_line_text.Common.{written}
use Rattle.ear_core.specs.Common.{PlainEar, PlainStep, one, two, PlainEars, FitsEars, HasEdges}

-- the words of the header
abbrev pub header_words : ℕ → ℕ → List (List ℕ)
header_words n m = codes "r" ∷ codes "mcg" ∷ decimal n ∷ decimal m ∷ []

-- the words of the line of the first stage
abbrev pub start_words : ℕ → List (List ℕ)
start_words e = codes "start" ∷ decimal e ∷ []

-- the words of the line of an ear after its keyword
abbrev pub ear_words : List ℕ → PlainEar → List (List ℕ)
ear_words keyword a = keyword ∷ decimal a.begin ∷ map decimal a.edges

-- the words of the lines of the steps
abbrev pub step_words : List PlainStep → List (List (List ℕ))
step_words [] = []
step_words (one a ∷ steps) = ear_words (codes "ear") a ∷ step_words steps
step_words (two a b ∷ steps) = ear_words (codes "ear") a ∷ ear_words (codes "with") b ∷ step_words steps

-- the text of an ear list for a graph of n vertices and m edges: one space between words, a line
-- feed after each line, numbers in decimal
unfoldable pub ears_text : ℕ → ℕ → PlainEars → List ℕ
ears_text n m list = written (header_words n m ∷ start_words list.start ∷ step_words list.steps)

-- a list that can be written: the numbers are in range, and no ear is empty
pub record IsWritable (n m : ℕ) (list : PlainEars) : Type 0 where
  pub order : n < 10 ^ 9
  pub size : m < 10 ^ 9
  pub fits : FitsEars n m list
  pub filled : AllByRecursion HasEdges list.steps
