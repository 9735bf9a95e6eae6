use Rattle.graph_core.proofs.from_counting.Common.{◌≡◌, drop, list_any}
use Rattle.graph6_text.specs.Common.{bits_of}
use Rattle.graph6_text.proofs.read.is_any_set.Given as goal

abbrev pub invariant-loop-k : goal.invariant-loop-k
invariant-loop-k l = list_any (λ bit. bit) (drop l.k (bits_of l.data)) ≡ list_any (λ bit. bit) (drop l.from (bits_of l.data))
