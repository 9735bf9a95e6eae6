-- The names of vertices.
-- Stated by: graph_text, mcg6_lines. Used by: report_text, bench_outcomes, bench_top, theorems.
use Rattle.std.specs.Prelude.{◌≡◌, ◌≢◌, ℕ, zero, suc, ◌+◌, ◌<◌, ◌≤◌, ◌==◌, ◌&&◌, ◌||◌, nat_le, List, [], ◌∷◌, ◌++◌, codes, length, Bool, true, slice_index_or, decimal, bytes_eq}
use Rattle.std.specs.Char.{is_ascii_alphanumeric}
use Rattle.std.specs.List.{list_all, list_any, position_or_len, AllByRecursion}

-- an ASCII letter, a digit, `_`, `-` or `.`
unfoldable pub is_name_byte : ℕ → Bool
is_name_byte byte = is_ascii_alphanumeric byte || ((byte == 95) || ((byte == 45) || (byte == 46)))

-- a name: 1 to 16 such bytes
unfoldable pub is_name : List ℕ → Bool
is_name word = nat_le 1 (length word) && (nat_le (length word) 16 && list_all is_name_byte word)

-- the word is one of the names
abbrev pub is_among : List (List ℕ) → List ℕ → Bool
is_among names word = list_any (bytes_eq word) names

-- the number of the vertex with this name, where the k-th name is that of vertex k
abbrev pub vertex_of : List (List ℕ) → List ℕ → ℕ
vertex_of names word = position_or_len (bytes_eq word) names + 1

-- different names, for the vertices of a graph: at most 128
pub record AreNames (names : List (List ℕ)) : Type 0 where
  pub each : AllByRecursion (λ name. is_name name ≡ true) names
  pub differ : (i j : ℕ) → i < j → j < length names → slice_index_or names i [] ≢ slice_index_or names j []
  pub few : length names ≤ 128

-- the default name of vertex k: `v` and its number
abbrev pub plain_name : ℕ → List ℕ
plain_name k = codes "v" ++ decimal k

-- the default names of the vertices 1 to n: `v1`, `v2` and so on
unfoldable pub plain_names : ℕ → List (List ℕ)
plain_names zero = []
plain_names (suc n) = plain_names n ++ plain_name (suc n) ∷ []
