-- What the checks of a body return, each for some rows of the table of errors.
-- Stated by: graph6_text.
use Rattle.std.specs.Prelude.{◌≡◌, ℕ, nat_lt, Bool, List, [], ◌∷◌, length, Some, None, Result, Ok, Err}
use Rattle.graph_core.specs.from_line_text.declared.faults.FaultKind.TheVariants.{Limit}
use Rattle.graph_core.specs.from_line_text.declared.faults.TextFault.{TextFault}
use Rattle.graph_core.specs.from_line_text.declared.faults.TextFault.TheVariants as fault
use Rattle.graph6_text.specs.Reading.{Fault, first_fault}

-- a check of these rows passes, or returns the first of their errors
abbrev pub Checks : Result (Unit {0}) TextFault → List (Bool × Fault) → Type 0
Checks (Ok passed) rows = first_fault rows ≡ None
Checks (Err (fault.At line kind)) rows = first_fault rows ≡ Some (line, kind)
Checks (Err fault.Memory) rows = ⊥

-- the first error of these rows, or lack of memory
abbrev pub IsFirstFaultOfRows : List (Bool × Fault) → TextFault → Type 0
IsFirstFaultOfRows rows (fault.At line kind) = first_fault rows ≡ Some (line, kind)
IsFirstFaultOfRows rows fault.Memory = Unit {0}

-- the row of the limit on edges
abbrev pub limit_row : List (ℕ × ℕ) → List (Bool × Fault)
limit_row edges = (nat_lt 2048 (length edges), (1, Limit)) ∷ []
