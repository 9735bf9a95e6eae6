-- Pairs of vertices, column by column of the upper triangle of the adjacency matrix. The reader
-- (`read`) uses `column` and `chosen`, and the writer (`pairs`) `column_pairs` alone.
-- Stated by: graph6_text. Used by: mcg6_lines, mcg6_encoder.
use Rattle.std.specs.Prelude.{ℕ, zero, suc, Bool, List, [], ◌∷◌, ◌++◌, if◌then◌else◌}

-- (1, j), (2, j), .., (i, j)
abbrev pub column : ℕ → ℕ → List (ℕ × ℕ)
column zero j = []
column (suc i) j = column i j ++ (suc i, j) ∷ []

-- the pairs i < j of 1 to n by columns: (1, 2), (1, 3), (2, 3), (1, 4) and so on
unfoldable pub column_pairs : ℕ → List (ℕ × ℕ)
column_pairs zero = []
column_pairs (suc n) = column_pairs n ++ column n (suc n)

-- the pairs whose bit is set
abbrev pub chosen : List (ℕ × ℕ) → List Bool → List (ℕ × ℕ)
chosen [] bits = []
chosen (pair ∷ pairs) [] = []
chosen (pair ∷ pairs) (bit ∷ bits) = if bit then pair ∷ chosen pairs bits else chosen pairs bits

-- the pair, if its bit is set
abbrev pub chosen_one : ℕ × ℕ → Bool → List (ℕ × ℕ)
chosen_one pair bit = chosen (pair ∷ []) (bit ∷ [])
