-- The numbers of the kinds of errors in a text.
-- Stated by: line_text. Used by: front_words, bench_tasks, bench_top, mcg6_front_top.
use Rattle.std.specs.Prelude.{ℕ}
use Rattle.line_text.specs.declared.faults.FaultKind.{FaultKind}
use Rattle.line_text.specs.declared.faults.FaultKind.TheVariants.{Header, Word, Number, Range, Loop, Limit, Missing, Extra, NotRising, HasGreatest, Unnamed, SameName, BadName, Padding, LongForm}

-- the number by which reports name a kind
abbrev pub kind_number : FaultKind → ℕ
kind_number Header = 1
kind_number Word = 2
kind_number Number = 3
kind_number Range = 4
kind_number Loop = 5
kind_number Limit = 6
kind_number Missing = 7
kind_number Extra = 8
kind_number NotRising = 9
kind_number HasGreatest = 10
kind_number Unnamed = 11
kind_number SameName = 12
kind_number BadName = 13
kind_number Padding = 14
kind_number LongForm = 15
