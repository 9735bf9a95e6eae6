-- What is known about a text that gives no decomposition.
-- Stated by: example_order.
use Rattle.std.specs.Prelude.{ℕ, List}
use Rattle.graph_core.specs.Common.{IsReason, reason_of}
use Rattle.graph_core.specs.declared.verdict.Reason.{Reason}
use Rattle.graph_core.specs.from_line_text.Common.{Stands}
use Rattle.graph_text.specs.Common.{NamedGraph, either_version}

-- the text stands for a graph that is not matching covered, for this reason
pub record IsUncoveredText (text : List ℕ) (reason : Reason) : Type 0 where
  pub named : NamedGraph
  pub stands : Stands either_version text named
  pub right : IsReason named.graph (reason_of reason)
