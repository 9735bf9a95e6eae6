-- The report of `ears` on a matching covered graph, as a function of the values in it: a text,
-- which is that of the ear list, and after it a comment with the number of its steps, of those with
-- one ear, and of those with two.
-- Stated by: report_text. Used by: bench_outcomes, bench_top, theorems.
use Rattle.std.specs.Prelude.{ℕ, List, ◌++◌, codes, decimal}

-- the line of the numbers of steps
abbrev pub steps_line : (steps single double : ℕ) → List ℕ
steps_line steps single double =
    codes "c steps " ++ decimal steps ++ codes " single " ++ decimal single ++ codes " double " ++ decimal double ++ codes "\n"

-- a text, and after it the line of the numbers of steps
unfoldable pub ears_report_text : List ℕ → (steps single double : ℕ) → List ℕ
ears_report_text text steps single double = text ++ steps_line steps single double
