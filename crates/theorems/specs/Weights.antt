-- Weights of the edges that are the same on all perfect matchings.
-- Stated by: theorems.
use Rattle.std.specs.Prelude.{◌≡◌, ℕ}
use Rattle.tree_check.specs.from_counting.Common.{Set, none}
use Rattle.graph_core.specs.Common.{Graph, IsPerfect}
use Rattle.quick_kinds.specs.from_brick_kit.Weights.{weight_of}

-- w is flat: all perfect matchings of g have equal weight
abbrev pub IsFlat : Graph → (ℕ → ℕ) → Type 0
IsFlat g w = (m n : Set) → IsPerfect g none m → IsPerfect g none n → weight_of g w m ≡ weight_of g w n
