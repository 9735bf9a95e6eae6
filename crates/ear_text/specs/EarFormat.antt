-- The ear format for a graph of n vertices and m edges: a header `r mcg N M`, a line `start E`,
-- and for each step a line `ear V E1 E2 ..`, which a line `with V E1 E2 ..` may follow directly,
-- the second ear of the step. V is the vertex where the ear begins, and the edges follow in
-- order.
-- Stated by: ear_text, bench_tasks. Used by: bench_top, theorems.
use Rattle.std.specs.Prelude.{ℕ, ◌==◌, ◌&&◌, ◌||◌, not, nat_le, Bool, List, [], ◌∷◌, ◌++◌, length, map, codes, Option, Some, None, is_some, Result, Ok, Err, if◌then◌else◌}
use Rattle.std.specs.List.{list_all, list_any}
use Rattle.graph_core.specs.from_line_text.Common.{Rules, checked, has_form, word_at, is_number, value_of, is_out_of_range}
use Rattle.graph_core.specs.from_line_text.declared.faults.FaultKind.{FaultKind}
use Rattle.graph_core.specs.from_line_text.declared.faults.FaultKind.TheVariants as kind
use Rattle.ear_core.specs.Common.{PlainEar, PlainStep, one, two, PlainEars}

-- what has been read: the header, or also the edge of the first stage and further lines. The last
-- ear is pending as long as a line `with` may follow it.
pub data EarsSoFar : Type 0 where
  headed : EarsSoFar
  started : (start : ℕ) (steps : List PlainStep) (last : Option PlainEar) → EarsSoFar

-- the words after the second
abbrev pub behind_two : List (List ℕ) → List (List ℕ)
behind_two [] = []
behind_two (word ∷ []) = []
behind_two (word ∷ next ∷ words) = words

-- the words of the first ear of a step: `ear` and at least two more
abbrev pub is_ear_line : List (List ℕ) → Bool
is_ear_line words = nat_le 3 (length words) && has_form words (length words) (codes "ear" ∷ [])

-- the words of a second ear: `with` and at least two more
abbrev pub is_with_line : List (List ℕ) → Bool
is_with_line words = nat_le 3 (length words) && has_form words (length words) (codes "with" ∷ [])

-- the ear of a line: a vertex and edges
abbrev pub ear_at : List (List ℕ) → PlainEar
ear_at words = record { begin = value_of (word_at words 1); edges = map value_of (behind_two words) }

-- the steps; if an ear is pending, the last step has that one ear
abbrev pub closed : List PlainStep → Option PlainEar → List PlainStep
closed steps None = steps
closed steps (Some a) = steps ++ one a ∷ []

-- the steps, the last of which has the pending ear and this one
abbrev pub paired : List PlainStep → Option PlainEar → PlainEar → List PlainStep
paired steps None b = steps
paired steps (Some a) b = steps ++ two a b ∷ []

-- the header, by its words
abbrev pub ears_header : ℕ → ℕ → List (List ℕ) → Result EarsSoFar FaultKind
ears_header n m words =
    checked ((not (has_form words 4 (codes "r" ∷ codes "mcg" ∷ [])), kind.Header)
    ∷ (not (is_number (word_at words 2) && is_number (word_at words 3)), kind.Number)
    ∷ (not ((value_of (word_at words 2) == n) && (value_of (word_at words 3) == m)), kind.Header)
    ∷ [])
    headed

-- the line after the header
abbrev pub start_line : ℕ → List (List ℕ) → Result EarsSoFar FaultKind
start_line m words =
    checked ((not (has_form words 2 (codes "start" ∷ [])), kind.Word)
    ∷ (not (is_number (word_at words 1)), kind.Number)
    ∷ (is_out_of_range m (value_of (word_at words 1)), kind.Range)
    ∷ [])
    (started (value_of (word_at words 1)) [] None)

-- the words of a step's first ear, or of a second one if an ear is pending
abbrev pub is_either_ear_line : (stands_apart : Bool) → List (List ℕ) → Bool
is_either_ear_line stands_apart words = is_ear_line words || (stands_apart && is_with_line words)

-- the tests of the numbers of an ear
abbrev pub ear_tests : ℕ → ℕ → List (List ℕ) → List (Bool × FaultKind)
ear_tests n m words =
    (not (is_number (word_at words 1) && list_all is_number (behind_two words)), kind.Number)
    ∷ (is_out_of_range n (value_of (word_at words 1)) || list_any (is_out_of_range m) (map value_of (behind_two words)), kind.Range)
    ∷ []

-- what has been read after one more ear, which is a step's first one or else its second one
abbrev pub with_ear : ℕ → List PlainStep → Option PlainEar → (is_first : Bool) → PlainEar → EarsSoFar
with_ear start steps last is_first ear =
    if is_first then started start (closed steps last) (Some ear) else started start (paired steps last ear) None

-- a later line
abbrev pub ear_line : ℕ → ℕ → ℕ → List PlainStep → Option PlainEar → List (List ℕ) → Result EarsSoFar FaultKind
ear_line n m start steps last words =
    checked ((not (is_either_ear_line (is_some last) words), kind.Word) ∷ ear_tests n m words)
    (with_ear start steps last (is_ear_line words) (ear_at words))

-- a significant line after the header
abbrev pub line_behind : ℕ → ℕ → EarsSoFar → List (List ℕ) → Result EarsSoFar FaultKind
line_behind n m headed words = start_line m words
line_behind n m (started start steps last) words = ear_line n m start steps last words

-- the text may end after the line `start`
abbrev pub ears_end : EarsSoFar → Result PlainEars FaultKind
ears_end headed = Err kind.Missing
ears_end (started start steps last) = Ok (record { start = start; steps = closed steps last })

-- the format
abbrev pub ear_format : ℕ → ℕ → Rules EarsSoFar PlainEars FaultKind
ear_format n m = record { header = ears_header n m; line = line_behind n m; close = ears_end; headless = kind.Header }
