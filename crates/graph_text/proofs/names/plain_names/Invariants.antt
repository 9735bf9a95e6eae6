use Rattle.std.proofs.Common.{◌≡◌}
use Rattle.graph_text.specs.Common.{plain_names}
use Rattle.graph_text.proofs.names.plain_names.Given as goal

-- the names of the first vertices
abbrev pub invariant-loop-k : goal.invariant-loop-k
invariant-loop-k l = l.names ≡ plain_names l.k
