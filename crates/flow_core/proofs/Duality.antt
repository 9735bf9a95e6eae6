-- Max flow and min cut: the value of a flow is at most that of each cut, and a set of nodes that no
-- residual arc leaves is the least minimum cut. Idea: sum the amounts out of the nodes of a set,
-- node by node and arc by arc.
use Rattle.vset_core.proofs.from_counting.Common.{◌≡◌, ℕ, suc, zero, ◌≤◌, ◌<◌, ◌≢◌, Bool, true, false, cond, ◌==◌, refl, sym, ap, ap₂, ◌∙◌, arith, ◌&&◌, ◌||◌, not, inl, inr, List, [], ◌∷◌, length, sum_by, eq-eqb, ne_eqb, All, if◌then◌else◌, ℤ, pos, neg_ℤ, ◌+ℤ◌, ◌-ℤ◌, ◌≤ℤ◌, ◌<ℤ◌, unsigned_abs, ints, cases_Bool, true≢false, All-head, All-tail, sum_by-cons, Within, Set, singleton, mem}
use Rattle.flow_core.specs.Common.{Arc, Net, IsArc, IsNet, leaves_set, cut_value, total_capacity, Separates, IsLeastCut, out_by, goes_out, FitsCapacities, IsFlow, arc_at, amount_at, Joins, room_from, IsOpenWalk, IsReachedSet}
use Rattle.flow_core.proofs.IntegerSums.{sum_to, sum_to-congr, sum_to-add, sum_to-sub, sum_to-zero, sum_to-one}

-- what an arc takes out of x
abbrev through : Set → Arc → ℤ → ℤ
through x arc amount = (if x arc.a then amount else pos 0) -ℤ (if x arc.b then amount else pos 0)

-- what all arcs take out of x
abbrev across : Set → List Arc → List ℤ → ℤ
across x [] amounts = pos 0
across x (arc ∷ arcs) [] = pos 0
across x (arc ∷ arcs) (amount ∷ amounts) = through x arc amount +ℤ across x arcs amounts

-- one end of an arc, summed over the nodes of x
sum_to-end : (n : ℕ) (x : Set) (a : ℕ) (amount : ℤ) → Within n a → sum_to n (λ v. if x v then (if a == v then amount else pos 0) else pos 0) ≡ (if x a then amount else pos 0)
sum_to-end n x a amount w =
    sum_to-one n (λ v. if x v then (if a == v then amount else pos 0) else pos 0) a w (λ v u d. (grind arith))
    ∙ ap (λ b. if x a then (if b then amount else pos 0) else pos 0) (eq-eqb a a refl)

-- what goes out of the nodes of x is what the arcs take out of x
sum_to-goes_out : (n : ℕ) (x : Set) (arcs : List Arc) (amounts : List ℤ) → All (IsArc n) arcs → sum_to n (λ v. if x v then goes_out arcs amounts v else pos 0) ≡ across x arcs amounts
sum_to-goes_out n x [] amounts h = sum_to-zero n (λ v. if x v then pos 0 else pos 0) (λ v w. same (x v))
  where
    same : (s : Bool) → (if s then pos 0 else pos 0) ≡ pos 0
    same s = grind arith
sum_to-goes_out n x (arc ∷ arcs) [] h = sum_to-zero n (λ v. if x v then pos 0 else pos 0) (λ v w. same (x v))
  where
    same : (s : Bool) → (if s then pos 0 else pos 0) ≡ pos 0
    same s = grind arith
sum_to-goes_out n x (arc ∷ arcs) (amount ∷ amounts) h =
    let i = All-head (IsArc n) arc arcs h in
    sum_to-congr n (λ v. if x v then (out_by v arc amount +ℤ goes_out arcs amounts v) else pos 0)
    (λ v. ((if x v then (if arc.a == v then amount else pos 0) else pos 0) -ℤ (if x v then (if arc.b == v then amount else pos 0) else pos 0)) +ℤ (if x v then goes_out arcs amounts v else pos 0))
    (λ v w. (grind arith))
    ∙ sum_to-add n (λ v. (if x v then (if arc.a == v then amount else pos 0) else pos 0) -ℤ (if x v then (if arc.b == v then amount else pos 0) else pos 0)) (λ v. if x v then goes_out arcs amounts v else pos 0)
    ∙ ap₂ ◌+ℤ◌
    (sum_to-sub n (λ v. if x v then (if arc.a == v then amount else pos 0) else pos 0) (λ v. if x v then (if arc.b == v then amount else pos 0) else pos 0)
    ∙ ap₂ ◌-ℤ◌ (sum_to-end n x arc.a amount i.from_a) (sum_to-end n x arc.b amount i.to_b))
    (sum_to-goes_out n x arcs amounts (All-tail (IsArc n) arc arcs h))

-- what the arc adds to the value of x
abbrev share : Set → Arc → ℕ
share x arc = cond (leaves_set x arc) arc.capacity 0

-- an arc that leaves x is full outward
record IsFull (x : Set) (arc : Arc) (amount : ℤ) : Type 0 where
  from_a : x arc.a ≡ true → x arc.b ≡ false → amount ≡ pos arc.capacity
  from_b : x arc.a ≡ false → x arc.b ≡ true → amount ≡ neg_ℤ (pos arc.capacity)

arc_bound : (s t : Bool) (z : ℤ) (c : ℕ) → unsigned_abs z ≤ c → ((if s then z else pos 0) -ℤ (if t then z else pos 0)) ≤ℤ pos (cond ((s && not t) || (not s && t)) c 0)
arc_bound s t z c h = grind arith

arc_full : (s t : Bool) (z : ℤ) (c : ℕ) → unsigned_abs z ≤ c → ((if s then z else pos 0) -ℤ (if t then z else pos 0)) ≡ pos (cond ((s && not t) || (not s && t)) c 0) → (s ≡ true → t ≡ false → z ≡ pos c) × (s ≡ false → t ≡ true → z ≡ neg_ℤ (pos c))
arc_full s t z c h e = grind arith

full_arc : (s t : Bool) (z : ℤ) (c : ℕ) → (s ≡ true → t ≡ false → z ≡ pos c) → (s ≡ false → t ≡ true → z ≡ neg_ℤ (pos c)) → ((if s then z else pos 0) -ℤ (if t then z else pos 0)) ≡ pos (cond ((s && not t) || (not s && t)) c 0)
full_arc s t z c f g = grind arith

-- each arc that leaves x is full outward
abbrev AllFull : Set → List Arc → List ℤ → Type 0
AllFull x [] amounts = Unit {0}
AllFull x (arc ∷ arcs) [] = Unit {0}
AllFull x (arc ∷ arcs) (amount ∷ amounts) = IsFull x arc amount × AllFull x arcs amounts

across_bound : (x : Set) (arcs : List Arc) (amounts : List ℤ) → FitsCapacities arcs amounts → across x arcs amounts ≤ℤ pos (sum_by (share x) arcs)
across_bound x [] [] f = omega (arith, ints)
across_bound x [] (z ∷ amounts) f = absurd f
across_bound x (arc ∷ arcs) [] f = absurd f
across_bound x (arc ∷ arcs) (z ∷ amounts) f = grind (arith, across_bound x arcs amounts f.1, arc_bound (x arc.a) (x arc.b) z arc.capacity f.0, sum_by-cons (share x) arc arcs)

across-full : (x : Set) (arcs : List Arc) (amounts : List ℤ) → FitsCapacities arcs amounts → across x arcs amounts ≡ pos (sum_by (share x) arcs) → AllFull x arcs amounts
across-full x [] [] f e = tt
across-full x [] (z ∷ amounts) f e = absurd f
across-full x (arc ∷ arcs) [] f e = absurd f
across-full x (arc ∷ arcs) (z ∷ amounts) f e =
    let i = across_bound x arcs amounts f.1 in
    let j = arc_bound (x arc.a) (x arc.b) z arc.capacity f.0 in
    let s = sum_by-cons (share x) arc arcs in
    let full = arc_full (x arc.a) (x arc.b) z arc.capacity f.0 (omega (arith, ints)) in
    (record { from_a = full.0; from_b = full.1 }, across-full x arcs amounts f.1 (omega (arith, ints)))

full-across : (x : Set) (arcs : List Arc) (amounts : List ℤ) → FitsCapacities arcs amounts → AllFull x arcs amounts → across x arcs amounts ≡ pos (sum_by (share x) arcs)
full-across x [] [] f h = refl
full-across x [] (z ∷ amounts) f h = absurd f
full-across x (arc ∷ arcs) [] f h = absurd f
full-across x (arc ∷ arcs) (z ∷ amounts) f h = grind (arith, full-across x arcs amounts f.1 h.1, full_arc (x arc.a) (x arc.b) z arc.capacity h.0.from_a h.0.from_b, sum_by-cons (share x) arc arcs)

-- as many amounts as arcs
pub FitsCapacities-length : (arcs : List Arc) (amounts : List ℤ) → FitsCapacities arcs amounts → length amounts ≡ length arcs
FitsCapacities-length [] [] f = refl
FitsCapacities-length [] (z ∷ amounts) f = absurd f
FitsCapacities-length (arc ∷ arcs) [] f = absurd f
FitsCapacities-length (arc ∷ arcs) (z ∷ amounts) f = ap suc (FitsCapacities-length arcs amounts f.1)

-- the amount on each arc is within its capacity
pub FitsCapacities-at : (arcs : List Arc) (amounts : List ℤ) → FitsCapacities arcs amounts → (i : ℕ) → i < length arcs → unsigned_abs (amount_at amounts i) ≤ (arc_at arcs i).capacity
FitsCapacities-at [] amounts f i l = absurd (omega arith)
FitsCapacities-at (arc ∷ arcs) [] f i l = absurd f
FitsCapacities-at (arc ∷ arcs) (z ∷ amounts) f zero l = f.0
FitsCapacities-at (arc ∷ arcs) (z ∷ amounts) f (suc i) l = FitsCapacities-at arcs amounts f.1 i (omega arith)

AllFull-at : (x : Set) (arcs : List Arc) (amounts : List ℤ) → FitsCapacities arcs amounts → AllFull x arcs amounts → (i : ℕ) → i < length arcs → IsFull x (arc_at arcs i) (amount_at amounts i)
AllFull-at x [] amounts f h i l = absurd (omega arith)
AllFull-at x (arc ∷ arcs) [] f h i l = absurd f
AllFull-at x (arc ∷ arcs) (z ∷ amounts) f h zero l = h.0
AllFull-at x (arc ∷ arcs) (z ∷ amounts) f h (suc i) l = AllFull-at x arcs amounts f.1 h.1 i (omega arith)

AllFull-from : (x : Set) (arcs : List Arc) (amounts : List ℤ) → FitsCapacities arcs amounts → ((i : ℕ) → i < length arcs → IsFull x (arc_at arcs i) (amount_at amounts i)) → AllFull x arcs amounts
AllFull-from x [] amounts f h = tt
AllFull-from x (arc ∷ arcs) [] f h = absurd f
AllFull-from x (arc ∷ arcs) (z ∷ amounts) f h =
    (h 0 (omega arith), AllFull-from x arcs amounts f.1 (λ i l. h (suc i) (omega arith)))

-- an arc that is full outward has no room out of x
full_stays : (x : Set) (arc : Arc) (z : ℤ) → IsFull x arc z → (u w : ℕ) → Joins arc u w → x u ≡ true → x w ≡ false → pos 0 <ℤ room_from u arc z → ⊥
full_stays x arc z f u w h p q r = grind arith

-- and an arc with no room out of x is full outward
stays_full : (x : Set) (arc : Arc) (z : ℤ) → unsigned_abs z ≤ arc.capacity → ((u w : ℕ) → Joins arc u w → x u ≡ true → x w ≡ false → pos 0 <ℤ room_from u arc z → ⊥) → IsFull x arc z
stays_full x arc z fits h = grind arith

-- no set is worth more than all arcs
pub cut_value-le-total : (net : Net) (x : Set) → cut_value net x ≤ total_capacity net
cut_value-le-total net x = go net.arcs
  where
    part : (b : Bool) (c : ℕ) → cond b c 0 ≤ c
    part b c = grind arith

    go : (arcs : List Arc) → sum_by (share x) arcs ≤ sum_by (λ (arc : Arc). arc.capacity) arcs
    go [] = omega arith
    go (arc ∷ arcs) =
        let i = go arcs in let p = part (leaves_set x arc) arc.capacity in
        let s = sum_by-cons (share x) arc arcs in let t = sum_by-cons (λ (y : Arc). y.capacity) arc arcs in omega arith

module _ (net : Net) (source sink : ℕ) (amounts : List ℤ) (value : ℕ) (is : IsNet net) (from : Within net.nodes source) (flow : IsFlow net source sink amounts value) where
  flow_across : (x : Set) → Separates source sink x → pos value ≡ across x net.arcs amounts
  flow_across x s =
      sym flow.gives ∙ sym (ap (λ b. if b then goes_out net.arcs amounts source else pos 0) s.holds)
      ∙ sym (sum_to-one net.nodes (λ v. if x v then goes_out net.arcs amounts v else pos 0) source from (λ v w d. (grind arith)))
      ∙ sum_to-goes_out net.nodes x net.arcs amounts is

  -- weak duality: no flow is more than a cut
  pub flow-le-value_of : (x : Set) → Separates source sink x → value ≤ cut_value net x
  flow-le-value_of x s = let a = flow_across x s in let b = across_bound x net.arcs amounts flow.fits in omega (arith, ints)

  -- no flow is more than all arcs
  pub flow-le-total : source ≢ sink → value ≤ total_capacity net
  flow-le-total d = grind (arith, flow-le-value_of (singleton source), eq-eqb source source refl, ne_eqb source sink d, cut_value-le-total net (singleton source))

  -- where a flow is as much as a cut, the arcs of the cut are full
  cut_full : (x : Set) → Separates source sink x → cut_value net x ≡ value → AllFull x net.arcs amounts
  cut_full x s e = across-full x net.arcs amounts flow.fits (sym (flow_across x s) ∙ ap pos (sym e))

  -- and where they are full, it is as much
  full_value : (x : Set) → Separates source sink x → AllFull x net.arcs amounts → cut_value net x ≡ value
  full_value x s f = let a = flow_across x s in let b = full-across x net.arcs amounts flow.fits f in omega (arith, ints)

  -- a walk over arcs with room does not leave a cut of the flow's value
  walk_stays : (x : Set) → Separates source sink x → cut_value net x ≡ value → (u v : ℕ) (ws : List ℕ) → x u ≡ true → IsOpenWalk net.arcs amounts u ws v → x v ≡ true
  walk_stays x s e u v [] h r = ap x (sym r) ∙ h
  walk_stays x s e u v (w ∷ ws) h r = elim (cases_Bool (x v)) [
    | inl t ↦ t
    | inr t ↦
        let step = r.1 in
        absurd (full_stays x (arc_at net.arcs step.arc) (amount_at amounts step.arc) (AllFull-at x net.arcs amounts flow.fits (cut_full x s e) step.arc step.is_arc) w v step.joins (walk_stays x s e u w ws h r.0) t step.room)
  ]

  -- the nodes that are reached from the source over arcs with room, where the sink is not among
  -- them, are the least minimum cut
  pub reached_least : (set : List ℕ) → IsReachedSet net amounts source sink set → IsLeastCut net source sink set value
  reached_least set r = record {
    nodes = r.nodes;
    separates = r.separates;
    is = full_value (mem set) r.separates (AllFull-from (mem set) net.arcs amounts flow.fits (λ i b. stays_full (mem set) (arc_at net.arcs i) (amount_at amounts i) (FitsCapacities-at net.arcs amounts flow.fits i b) (λ u w j p q k. true≢false (sym (r.closed u p w (record { arc = i; is_arc = b; joins = j; room = k })) ∙ q))));
    least = flow-le-value_of;
    inside = λ x t e v m. let k = r.reached v m in walk_stays x t e source v k.0 t.holds k.1;
  }
