-- An edge that is written at another one: each edge still lies apart from the one at it.
-- Idea: at the place that is set the new edge is known to lie apart, and other places stay.
use Rattle.graph_core.proofs.from_counting.Common.{ℕ, ◌<◌, List, length, get_or-set_same, get_or-set_other, slice_set, arith, cases_eq, Within}
use Rattle.graph_core.proofs.Common.{Graph, size, Together}
use Rattle.tight_cuts.specs.Common.{LieApart}

pub apart_more : (g : Graph) (row : List ℕ) (e f : ℕ) → e < length row → LieApart g row → (Within (size g) f → Together g e f → ⊥) → LieApart g (slice_set row e f)
apart_more g row e f l before apart d h within is together = grind (arith, cases_eq e d, get_or-set_same row e f 0 l, slice_set row e f, get_or-set_other row e d f 0)
