-- The pick format: a header `s mcg K`, and K lines `pick P`. The text stands for the list of the
-- K numbers.
-- Stated by: tree_text, bench_tasks. Used by: bench_top.
use Rattle.std.specs.Prelude.{ℕ, ◌==◌, not, nat_lt, List, [], ◌∷◌, ◌++◌, length, codes, Result, Ok, Err, if◌then◌else◌}
use Rattle.graph_core.specs.from_line_text.Common.{Rules, checked, has_form, word_at, is_number, value_of}
use Rattle.graph_core.specs.from_line_text.declared.faults.FaultKind.{FaultKind}
use Rattle.graph_core.specs.from_line_text.declared.faults.FaultKind.TheVariants as kind

-- the most picks
abbrev pub most_picks : ℕ
most_picks = 127

-- how many picks are expected, and those read so far
pub record PicksSoFar : Type 0 where
  pub count : ℕ
  pub picks : List ℕ

-- the header, by its words
abbrev pub pick_header : List (List ℕ) → Result PicksSoFar FaultKind
pick_header words =
    let count = value_of (word_at words 2) in
    checked ((not (has_form words 3 (codes "s" ∷ codes "mcg" ∷ [])), kind.Header)
    ∷ (not (is_number (word_at words 2)), kind.Number)
    ∷ (nat_lt most_picks count, kind.Limit)
    ∷ [])
    (record { count = count; picks = [] })

-- a significant line after the header is a pick, or an error if all have been read
abbrev pub pick_line : PicksSoFar → List (List ℕ) → Result PicksSoFar FaultKind
pick_line body words =
    checked ((length body.picks == body.count, kind.Extra)
    ∷ (not (has_form words 2 (codes "pick" ∷ [])), kind.Word)
    ∷ (not (is_number (word_at words 1)), kind.Number)
    ∷ [])
    (record body { picks = body.picks ++ value_of (word_at words 1) ∷ [] })

-- the text may end when all picks have been read
abbrev pub pick_end : PicksSoFar → Result (List ℕ) FaultKind
pick_end body = if length body.picks == body.count then Ok body.picks else Err kind.Missing

-- the format
abbrev pub pick_format : Rules PicksSoFar (List ℕ) FaultKind
pick_format = record { header = pick_header; line = pick_line; close = pick_end; headless = kind.Header }
