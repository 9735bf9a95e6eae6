-- How the code's rows are seen: as lists.
-- Stated by: flow_core.
use Rattle.std.specs.Prelude.{ℕ, List, map}
use Rattle.std.specs.Global.{Vec}

-- the rows as lists
abbrev pub rows_of : List (Vec ℕ) → List (List ℕ)
rows_of rows = map (λ (row : Vec ℕ). row.items) rows
