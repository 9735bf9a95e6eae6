-- Flows: one amount for each arc of a net.
-- Stated by: flow_core.
use Rattle.std.specs.Prelude.{◌≡◌, ℕ, ◌≤◌, ◌≢◌, List, [], ◌∷◌, ◌==◌, ℤ, pos, ◌+ℤ◌, ◌-ℤ◌, unsigned_abs, if◌then◌else◌}
use Rattle.vset_core.specs.from_counting.Common.{Within}
use Rattle.flow_core.specs.Nets.{Arc, Net}

-- the amount that an arc takes out of v; negative if it brings in
abbrev pub out_by : ℕ → Arc → ℤ → ℤ
out_by v arc amount = (if arc.a == v then amount else pos 0) -ℤ (if arc.b == v then amount else pos 0)

-- the amount out of v less the amount into v
abbrev pub goes_out : List Arc → List ℤ → ℕ → ℤ
goes_out [] amounts v = pos 0
goes_out (arc ∷ arcs) [] v = pos 0
goes_out (arc ∷ arcs) (amount ∷ amounts) v = out_by v arc amount +ℤ goes_out arcs amounts v

-- one amount for each arc, and none exceeds its arc's capacity in either direction
abbrev pub FitsCapacities : List Arc → List ℤ → Type 0
FitsCapacities [] [] = Unit {0}
FitsCapacities [] (amount ∷ amounts) = ⊥
FitsCapacities (arc ∷ arcs) [] = ⊥
FitsCapacities (arc ∷ arcs) (amount ∷ amounts) = (unsigned_abs amount ≤ arc.capacity) × FitsCapacities arcs amounts

-- a flow from source to sink: amounts, positive from a to b, within the capacities; as much flows
-- into each other node as out; its value is the amount out of the source less the amount into it
pub record IsFlow (net : Net) (source sink : ℕ) (amounts : List ℤ) (value : ℕ) : Type 0 where
  pub fits : FitsCapacities net.arcs amounts
  pub kept : (v : ℕ) → Within net.nodes v → v ≢ source → v ≢ sink → goes_out net.arcs amounts v ≡ pos 0
  pub gives : goes_out net.arcs amounts source ≡ pos value
