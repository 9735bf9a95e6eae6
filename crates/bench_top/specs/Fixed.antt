-- What the words and the files leave open in an outcome. If a task is done, free are the ear
-- list of `ears`, and the script of `script` and of `compare`, and with it the pairing. In every
-- other report at most one list of numbers is free: the Berge set of a connected graph without a
-- perfect matching, or the perfect matching that crosses a refused cut.
-- Stated by: bench_top.
use Rattle.std.specs.Prelude.{◌≡◌, ◌⊎◌, ◌++◌, ℕ, List}
use Rattle.mcg6_lines.specs.from_report_text.Common.{numbers_text}
use Rattle.bench_reports.specs.from_bench_outcomes.Common.{Conduct, Writes, Tells, Needs, Chooses, conduct_of}
use Rattle.bench_reports.specs.from_bench_tasks.Common.{Task}

-- the numbers that a report may show by a conduct
abbrev pub ShownBy : Conduct → List ℕ → Type 0
ShownBy Writes numbers = ⊥
ShownBy (Tells shown) numbers = shown numbers
ShownBy (Needs fact shown) numbers = shown numbers
ShownBy (Chooses fact shown) numbers = shown numbers

-- the numbers that a report on the task may show, of which there may be many
abbrev pub MayShow : Task → List ℕ → Type 0
MayShow t numbers = ShownBy (conduct_of t) numbers

-- a report on the task shows nothing of which there may be many
abbrev pub ShowsNothingFree : Task → Type 0
ShowsNothingFree t = (numbers : List ℕ) → MayShow t numbers → ⊥

-- if the task is done its text is chosen, by a conduct
abbrev pub ChosenBy : Conduct → Type 0
ChosenBy Writes = ⊥
ChosenBy (Tells shown) = ⊥
ChosenBy (Needs fact shown) = ⊥
ChosenBy (Chooses fact shown) = Unit {0}

-- if the task is done its text is chosen: an ear list, or a script
abbrev pub HasChosenText : Task → Type 0
HasChosenText t = ChosenBy (conduct_of t)

-- if the task is done its output is one, by a conduct: its report shows no such numbers, or
-- its text is not chosen
abbrev pub OneBy : Conduct → Type 0
OneBy Writes = Unit {0}
OneBy (Tells shown) = (numbers : List ℕ) → shown numbers → ⊥
OneBy (Needs fact shown) = Unit {0}
OneBy (Chooses fact shown) = ⊥

-- if the task is done its output is one
abbrev pub HasOneOutput : Task → Type 0
HasOneOutput t = OneBy (conduct_of t)

-- two outputs are the same but for one list of numbers, and the fact holds of the list that
-- either has
pub record DifferIn (fact : List ℕ → Type 0) (output other : List ℕ) : Type 0 where
  pub before : List ℕ
  pub after : List ℕ
  pub first : List ℕ
  pub second : List ℕ
  pub is_first : fact first
  pub is_second : fact second
  pub output_is : output ≡ before ++ (numbers_text first ++ after)
  pub other_is : other ≡ before ++ (numbers_text second ++ after)

-- two outputs are one, or the same but for such a list
abbrev pub DifferAtMostIn : (List ℕ → Type 0) → List ℕ → List ℕ → Type 0
DifferAtMostIn fact output other = (output ≡ other) ⊎ DifferIn fact output other
