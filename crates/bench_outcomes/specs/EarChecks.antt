-- The report on ear lists of a graph: for a given one whether it is an ear list, and for one that
-- is built its text.
-- Stated by: bench_reports. Used by: bench_outcomes, bench_top, theorems.
use Rattle.std.specs.Prelude.{◌≡◌, ◌⊎◌, ℕ, List, length, count_by, not, Bool, true, false, Option}
use Rattle.std.specs.List.{AllByRecursion}
use Rattle.graph_core.specs.Common.{IsCovered, Graph, size, IsBipartite}
use Rattle.bench_tasks.specs.from_ear_core.Common.{PlainEars, PlainStep, one, two, IsEarList, IsSingle, IsUnrefinable, TakesSingles, PlainWhy, IsRefused}
use Rattle.bench_tasks.specs.from_ear_text.Writing.{ears_text}
use Rattle.report_text.specs.Common.{ears_report_text, ear_judgement_text}
use Rattle.report_text.specs.declared.ear_judgements.EarLine.TheVariants as line
use Rattle.bench_outcomes.specs.RefusalLines.{ear_fault_of, step_edge, step_number}
use Rattle.bench_outcomes.specs.Uncovered.{Uncovered}
use Rattle.bench_outcomes.specs.declared.status.Status.{Status}
use Rattle.bench_outcomes.specs.declared.status.Status.TheVariants.{Done, Negative}

-- the step adds one ear
abbrev pub is_single : PlainStep → Bool
is_single (one a) = true
is_single (two a b) = false

-- how many steps add one ear
abbrev pub single_count : List PlainStep → ℕ
single_count steps = count_by is_single steps

-- how many steps add two ears
abbrev pub double_count : List PlainStep → ℕ
double_count steps = count_by (λ step. not (is_single step)) steps

-- the numbers of the reasons
abbrev pub ear_why_number : PlainWhy → ℕ
ear_why_number why = step_number (ear_fault_of why)

-- the edge that a reason names, if it names one
abbrev pub named_edge : PlainWhy → Option ℕ
named_edge why = step_edge (ear_fault_of why)

-- it is an ear list of the covered graph: the output counts its steps
pub record AcceptedEars (g : Graph) (list : PlainEars) (status : Status) (output : List ℕ) : Type 0 where
  pub covered : IsCovered g
  pub is : IsEarList g list
  pub done : status ≡ Done
  pub text : output ≡ ear_judgement_text (line.Accepted (length list.steps) (single_count list.steps) (double_count list.steps))

-- it is not one: the output is its first refusal
pub record RefusedEars (g : Graph) (list : PlainEars) (status : Status) (output : List ℕ) : Type 0 where
  pub covered : IsCovered g
  pub step : ℕ
  pub why : PlainWhy
  pub refused : IsRefused g list step why
  pub negative : status ≡ Negative
  pub text : output ≡ ear_judgement_text (line.Refused step (ear_why_number why) (named_edge why))

-- what `checkears` gives
abbrev pub EarCheckGives : Graph → PlainEars → Status → List ℕ → Type 0
EarCheckGives g list status output = AcceptedEars g list status output ⊎ (RefusedEars g list status output ⊎ Uncovered g status output)

-- an ear list of the covered graph, with a double ear only if neither of its ears serves alone and
-- no ear list continues with a single ear, and with single ears only if the graph is bipartite: the
-- output is its text, and then the numbers of its steps as a comment
pub record BuiltEars (g : Graph) (status : Status) (output : List ℕ) : Type 0 where
  pub covered : IsCovered g
  pub list : PlainEars
  pub is : IsEarList g list
  pub unrefinable : IsUnrefinable g list
  pub singles : TakesSingles g list
  pub single : IsBipartite g → AllByRecursion IsSingle list.steps
  pub done : status ≡ Done
  pub text : output ≡ ears_report_text (ears_text g.order (size g) list) (length list.steps) (single_count list.steps) (double_count list.steps)

-- the result of `ears`: for a covered graph an ear list, and for any other the reason
abbrev pub EarsGives : Graph → Status → List ℕ → Type 0
EarsGives g status output = BuiltEars g status output ⊎ Uncovered g status output
