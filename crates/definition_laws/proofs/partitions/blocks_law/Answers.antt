use Rattle.graph_core.proofs.Common.{place_in, place_is, same_blocks}
use Rattle.definition_laws.proofs.partitions.blocks_law.Goals as goal

pub returns-clause-one : goal.returns-clause-one
returns-clause-one c n p v pp w = let h = place_in n p pp v w in (h.0, h.1, λ i wi m. place_is n p pp v i w wi m)

pub returns-clause-same : goal.returns-clause-same
returns-clause-same c n p q pp qq h = same_blocks n p q pp qq (λ u v wu wv. (h u v wu wv).0) (λ u v wu wv. (h u v wu wv).1)
