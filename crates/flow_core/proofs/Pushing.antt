-- Sending d along an augmenting path: each amount stays within its capacity, and the balance
-- changes only at the two ends of the path. Idea: from the last visit back to the first, each step
-- moves the change from a visit's node to its parent's node.
use Rattle.std.proofs.Common.{◌≡◌, ◌≢◌, ℕ, zero, suc, ◌+◌, ◌≤◌, ◌<◌, ◌^◌, ◌==◌, List, [], ◌∷◌, length, set, replicate, refl, ◌∙◌, arith, eq-eqb, ne_eqb, ℤ, pos, ◌+ℤ◌, ◌-ℤ◌, ◌≤ℤ◌, unsigned_abs, if◌then◌else◌, get_or-set_other, rules}
use Rattle.std.proofs.lemmas.Int.{ints}
use Rattle.flow_core.specs.Common.{Arc, Net, IsArc, IsNet, IsBounded, out_by, goes_out, FitsCapacities, IsFlow, arc_at, amount_at, Joins, room_from, sent_amount, visit_at, visited_node, first_node, last_node, IsVisit, IsTree}
use Rattle.flow_core.specs.declared.search.Visit.{Visit}
use Rattle.flow_core.proofs.Reading.{IsNet-at}
use Rattle.flow_core.proofs.Duality.{FitsCapacities-at, flow-le-total}
use Rattle.flow_core.proofs.SearchTrees.{arcs-differ}

-- nothing on each arc fits
pub FitsCapacities-zeros : (arcs : List Arc) → FitsCapacities arcs (replicate (length arcs) (pos 0))
FitsCapacities-zeros [] = tt
FitsCapacities-zeros (arc ∷ arcs) = (omega (arith, ints), FitsCapacities-zeros arcs)

-- and nothing goes out of any node
pub goes_out-zeros : (arcs : List Arc) (v : ℕ) → goes_out arcs (replicate (length arcs) (pos 0)) v ≡ pos 0
goes_out-zeros [] v = refl
goes_out-zeros (arc ∷ arcs) v = grind (arith, goes_out-zeros arcs v)

-- nothing on each arc is a flow of value 0
pub IsFlow-zeros : (net : Net) (source sink : ℕ) → IsFlow net source sink (replicate (length net.arcs) (pos 0)) 0
IsFlow-zeros net source sink = record {
  fits = FitsCapacities-zeros net.arcs;
  kept = λ v w d e. goes_out-zeros net.arcs v;
  gives = goes_out-zeros net.arcs source;
}

-- one amount is changed
pub FitsCapacities-set : (arcs : List Arc) (amounts : List ℤ) (i : ℕ) (z : ℤ) → FitsCapacities arcs amounts → unsigned_abs z ≤ (arc_at arcs i).capacity → FitsCapacities arcs (set amounts i z)
FitsCapacities-set [] [] i z f h = tt
FitsCapacities-set [] (y ∷ amounts) i z f h = absurd f
FitsCapacities-set (arc ∷ arcs) [] i z f h = absurd f
FitsCapacities-set (arc ∷ arcs) (y ∷ amounts) zero z f h = (h, f.1)
FitsCapacities-set (arc ∷ arcs) (y ∷ amounts) (suc i) z f h = (f.0, FitsCapacities-set arcs amounts i z f.1 h)

pub goes_out-set : (arcs : List Arc) (amounts : List ℤ) (i : ℕ) (z : ℤ) (v : ℕ) → FitsCapacities arcs amounts → i < length arcs → goes_out arcs (set amounts i z) v +ℤ out_by v (arc_at arcs i) (amount_at amounts i) ≡ goes_out arcs amounts v +ℤ out_by v (arc_at arcs i) z
goes_out-set [] amounts i z v f l = absurd (omega arith)
goes_out-set (arc ∷ arcs) [] i z v f l = absurd f
goes_out-set (arc ∷ arcs) (y ∷ amounts) zero z v f l = omega (arith, ints)
goes_out-set (arc ∷ arcs) (y ∷ amounts) (suc i) z v f l = let h = goes_out-set arcs amounts i z v f.1 (omega arith) in omega (arith, ints)

-- d at u and nothing elsewhere
abbrev pub only_at : ℕ → ℕ → ℕ → ℤ
only_at u d v = if u == v then pos d else pos 0

-- sending d from u to w takes d more out of u and d less out of w
out_by-sent_amount : (n : ℕ) (arc : Arc) (u w : ℕ) (amount : ℤ) (d v : ℕ) → IsArc n arc → Joins arc u w → out_by v arc (sent_amount arc u amount d) ≡ out_by v arc amount +ℤ (only_at u d v -ℤ only_at w d v)
out_by-sent_amount n arc u w amount d v is h = search (rules, eq-eqb arc.a u, ne_eqb arc.a u)

-- and the amount stays within the capacity where d is at most the room
pub sent_amount-fits : (arc : Arc) (u : ℕ) (amount : ℤ) (d : ℕ) → unsigned_abs amount ≤ arc.capacity → pos d ≤ℤ room_from u arc amount → unsigned_abs (sent_amount arc u amount d) ≤ arc.capacity
sent_amount-fits arc u amount d f l = grind arith

-- d is sent from visit `at` on to the last visit; the arcs of the visits up to `at` have their
-- old amounts
pub record IsPushed (net : Net) (old amounts : List ℤ) (visits : List Visit) (d at : ℕ) : Type 0 where
  pub long : at < length visits
  pub fits : FitsCapacities net.arcs amounts
  pub room : d ≤ (visit_at visits at).room
  pub rest : (j : ℕ) → 0 < j → j ≤ at → amount_at amounts (visit_at visits j).arc ≡ amount_at old (visit_at visits j).arc
  pub out : (v : ℕ) → goes_out net.arcs amounts v ≡ goes_out net.arcs old v +ℤ (only_at (visited_node visits at) d v -ℤ only_at (last_node visits) d v)

-- one step back
module _ (net : Net) (is : IsNet net) (old amounts : List ℤ) (visits : List Visit) (tree : IsTree net old visits) (d at : ℕ) (p : IsPushed net old amounts visits d at) (some : 0 < at) where
  abbrev visit : Visit
  visit = visit_at visits at

  abbrev from : Visit
  from = visit_at visits visit.parent

  abbrev arc : Arc
  arc = arc_at net.arcs visit.arc

  pub here : IsVisit net.arcs old visits at
  here = tree.each at some p.long

  same_amount : amount_at amounts visit.arc ≡ amount_at old visit.arc
  same_amount = p.rest at some (omega arith)

  pub push-within : pos d ≤ℤ room_from from.node arc (amount_at amounts visit.arc)
  push-within = search (rules, same_amount)

  -- the new amount is within the capacity
  pub push-fits : unsigned_abs (sent_amount arc from.node (amount_at amounts visit.arc) d) ≤ arc.capacity
  push-fits = sent_amount-fits arc from.node (amount_at amounts visit.arc) d (FitsCapacities-at net.arcs amounts p.fits visit.arc here.step.is_arc) push-within

  pub IsPushed-step : IsPushed net old (set amounts visit.arc (sent_amount arc from.node (amount_at amounts visit.arc) d)) visits d visit.parent
  IsPushed-step = record {
    long = let e = here.earlier in let l = p.long in omega arith;
    fits = FitsCapacities-set net.arcs amounts visit.arc (sent_amount arc from.node (amount_at amounts visit.arc) d) p.fits push-fits;
    room = let r = p.room in let b = here.step.below in omega arith;
    rest = λ j q l. get_or-set_other amounts visit.arc (visit_at visits j).arc (sent_amount arc from.node (amount_at amounts visit.arc) d) (pos 0) (arcs-differ net old visits tree j at q (let e = here.earlier in omega arith) p.long) ∙ p.rest j q (let e = here.earlier in omega arith);
    out = λ v.
        let a = goes_out-set net.arcs amounts visit.arc (sent_amount arc from.node (amount_at amounts visit.arc) d) v p.fits here.step.is_arc in
        let b = out_by-sent_amount net.nodes arc from.node visit.node (amount_at amounts visit.arc) d v (IsNet-at net is visit.arc here.step.is_arc) here.step.joins in
        let c = p.out v in
        (omega (arith, ints));
  }

-- which is still at most all capacities
pub pushed-flow : (net : Net) (old amounts : List ℤ) (visits : List Visit) (value d at : ℕ) → first_node visits ≢ last_node visits → IsFlow net (first_node visits) (last_node visits) old value → IsPushed net old amounts visits d at → at ≤ 0 → IsFlow net (first_node visits) (last_node visits) amounts (value + d)
pushed-flow net old amounts visits value d at differ flow p l = grind arith

pub flow-below : (net : Net) → IsBounded net → (amounts : List ℤ) (visits : List Visit) (old : List ℤ) (value : ℕ) → IsTree net old visits → first_node visits ≢ last_node visits → IsFlow net (first_node visits) (last_node visits) amounts value → value < 2 ^ 63
flow-below net b amounts visits old value tree differ flow = grind (arith, flow-le-total net (first_node visits) (last_node visits) amounts value b.arcs (tree.nodes 0 tree.some) flow differ)
