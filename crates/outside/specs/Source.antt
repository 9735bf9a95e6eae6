-- What a source makes known of the bytes that are left to read, and what a read returned.
-- Stated by: outside. Used by: mcg6_reader, mcg6_encoder.
use Rattle.std.specs.Prelude.{◌≡◌, ℕ, List, [], ◌++◌, take, Result, Ok, Err, Option, Some, None}

-- the bytes that were left before a piece was taken off their front, if they are known
abbrev pub prepended : List ℕ → Option (List ℕ) → Option (List ℕ)
prepended piece None = None
prepended piece (Some rest) = Some (piece ++ rest)

-- if the bytes that are left are known, there are none
abbrev pub IsAtEnd : Option (List ℕ) → Type 0
IsAtEnd None = Unit {0}
IsAtEnd (Some rest) = rest ≡ []

-- the bytes that a read returned, which are at the front of the piece; none if it failed
abbrev pub given_by : {E : Type 0} → Result ℕ E → List ℕ → Option (List ℕ)
given_by (Ok count) piece = Some (take count piece)
given_by (Err error) piece = None
