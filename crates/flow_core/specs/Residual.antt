-- Residual capacities: how much more each arc can take, and the nodes that are reached over
-- residual arcs.
-- Stated by: flow_core.
use Rattle.std.specs.Prelude.{◌≡◌, ℕ, ◌<◌, ◌⊎◌, true, List, [], ◌∷◌, ◌==◌, length, slice_index_or, ℤ, pos, ◌+ℤ◌, ◌-ℤ◌, ◌<ℤ◌, if◌then◌else◌}
use Rattle.vset_core.specs.from_counting.Common.{Set, mem, IsRisingIn}
use Rattle.flow_core.specs.Nets.{Arc, Net, Separates}

-- arc i, counted from 0
abbrev pub arc_at : List Arc → ℕ → Arc
arc_at arcs i = slice_index_or arcs i (record { a = 0; b = 0; capacity = 0 })

-- the amount on arc i, counted from 0
abbrev pub amount_at : List ℤ → ℕ → ℤ
amount_at amounts i = slice_index_or amounts i (pos 0)

-- the two ends of the arc are u and w
abbrev pub Joins : Arc → ℕ → ℕ → Type 0
Joins arc u w = ((arc.a ≡ u) × (arc.b ≡ w)) ⊎ ((arc.b ≡ u) × (arc.a ≡ w))

-- the residual capacity of the arc with this amount, out of its end u
abbrev pub room_from : ℕ → Arc → ℤ → ℤ
room_from u arc amount = if arc.a == u then pos arc.capacity -ℤ amount else pos arc.capacity +ℤ amount

-- the amount after d more is sent out of the arc's end u
abbrev pub sent_amount : Arc → ℕ → ℤ → ℕ → ℤ
sent_amount arc u amount d = if arc.a == u then amount +ℤ pos d else amount -ℤ pos d

-- a residual arc: it can take more from u to w
pub record HasRoom (arcs : List Arc) (amounts : List ℤ) (u w : ℕ) : Type 0 where
  pub arc : ℕ
  pub is_arc : arc < length arcs
  pub joins : Joins (arc_at arcs arc) u w
  pub room : pos 0 <ℤ room_from u (arc_at arcs arc) (amount_at amounts arc)

-- a walk from u to v over residual arcs; the list has its nodes except the last, in reverse order
abbrev pub IsOpenWalk : List Arc → List ℤ → ℕ → List ℕ → ℕ → Type 0
IsOpenWalk arcs amounts u [] v = u ≡ v
IsOpenWalk arcs amounts u (w ∷ ws) v = IsOpenWalk arcs amounts u ws w × HasRoom arcs amounts w v

-- some walk over residual arcs goes from u to v
abbrev pub IsReached : List Arc → List ℤ → ℕ → ℕ → Type 0
IsReached arcs amounts u v = (ws : List ℕ) × IsOpenWalk arcs amounts u ws v

-- each residual arc out of u leads into x
abbrev pub IsScanned : List Arc → List ℤ → Set → ℕ → Type 0
IsScanned arcs amounts x u = (w : ℕ) → HasRoom arcs amounts u w → x w ≡ true

-- the nodes that are reached from the source over residual arcs, without the sink
pub record IsReachedSet (net : Net) (amounts : List ℤ) (source sink : ℕ) (set : List ℕ) : Type 0 where
  pub nodes : IsRisingIn net.nodes set
  pub separates : Separates source sink (mem set)
  pub reached : (v : ℕ) → mem set v ≡ true → IsReached net.arcs amounts source v
  pub closed : (u : ℕ) → mem set u ≡ true → IsScanned net.arcs amounts (mem set) u
