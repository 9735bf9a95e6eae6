-- Shores as increasing lists within 1 to n, at each node of a tree. A derivation has no others.
-- Idea: each node of a derivation has a canonical shore, which is increasing, by induction over the
-- tree.
use Rattle.move_laws.specs.Common.{AreRising}
use Rattle.graph_core.proofs.from_counting.Common.{List, true, ℕ, ◌≡◌, mem-within, Within, IsRisingIn, mem}
use Rattle.graph_core.proofs.Common.{Graph}
use Rattle.tree_core.proofs.Common.{IsDerivationAt, kept_at, merged_at, Shape, cut, leaf}

-- its numbers are 1 to n
pub bounds : {n : ℕ} {x : List ℕ} → IsRisingIn n x → (v : ℕ) → mem x v ≡ true → Within n v
bounds {n = n} {x = x} r = mem-within n x r

pub rising-derivation_at : (g : Graph) (p : List (List ℕ)) (t : Shape) → IsDerivationAt g p t → AreRising g.order t
rising-derivation_at g p leaf d = tt
rising-derivation_at g p (cut x a b) d = (d.0.set, rising-derivation_at g (kept_at g.order p x) a d.1, rising-derivation_at g (merged_at g.order p x) b d.2)
