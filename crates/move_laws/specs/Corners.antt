-- The corners of two crossing shores x and z: their intersection, which is meet_list, and the
-- complement of their union.
-- Stated by: uncross. Used by: move_laws.
use Rattle.std.specs.Prelude.{ℕ, List, if◌then◌else◌}
use Rattle.graph_core.specs.from_counting.Common.{is_odd, mem, rising_list, complement, meet, union}
use Rattle.graph_core.specs.Common.{complement_of, block_count}

-- the outer corner: the complement of x ∪ z
abbrev pub outer_of : ℕ → (x z : List ℕ) → List ℕ
outer_of n x z = rising_list n (complement (union (mem x) (mem z)))

-- the canonical shore of the outer corner
abbrev pub outer_shore : ℕ → List ℕ → List ℕ
outer_shore n o = if mem o n then complement_of n o else o

-- y or its complement, whichever has an odd number of blocks in common with x
abbrev pub partner : ℕ → List (List ℕ) → (x y : List ℕ) → List ℕ
partner n p x y = if is_odd (block_count p (meet (mem x) (mem y))) then y else complement_of n y
