-- The least remembered edges, by which matchings of the quotient are lifted.
-- Stated by: contraction.
use Rattle.std.specs.Prelude.{ℕ, slice_index}
use Rattle.graph_core.specs.from_counting.Common.{item}
use Rattle.contraction.specs.Contracted.{ContractedValue}

-- the least remembered edge of edge k of the quotient
abbrev pub least_at : ContractedValue → ℕ → ℕ
least_at q k = slice_index (item q.edges k) 0
