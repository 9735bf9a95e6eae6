-- What the code reads of a net: its arcs, the rows of its nodes and the amounts on its arcs.
-- Idea: each is a reading law of lists, at the one default that the definitions use.
use Rattle.vset_core.proofs.from_counting.Common.{◌≡◌, ℕ, zero, suc, ◌<◌, ◌≤◌, List, [], ◌∷◌, ◌++◌, length, get_or, set, refl, sym, ◌∙◌, subst, arith, w64, to_z, of_z, All, ℤ, pos, slice_get, Some, unsigned_abs, to_z-of_z, map-set, get_or_from_slice_get, get_or-map, length-map, All-head, All-tail, row_of}
use mir.Val.{SFits}
use Rattle.std.specs.Global.{Vec}
use Rattle.flow_core.specs.Common.{Arc, Net, IsArc, IsNet, FitsCapacities, arc_at, amount_at, rows_of}
use Rattle.flow_core.proofs.Duality.{FitsCapacities-at}

-- an arc of a net in order is in order
pub IsNet-at : (net : Net) → IsNet net → (i : ℕ) → i < length net.arcs → IsArc net.nodes (arc_at net.arcs i)
IsNet-at net is i l = is i (record { a = 0; b = 0; capacity = 0 }) l

-- a row that has grown at its end
pub rows_of-push : (rows : List (Vec ℕ)) (view : List (List ℕ)) → rows_of rows ≡ view → (v : ℕ) → v < length view → (row new : Vec ℕ) → row ≡ get_or rows v row → (i : ℕ) → new.items ≡ row.items ++ i ∷ [] → rows_of (set rows v new) ≡ set view v (row_of view v ++ i ∷ [])
rows_of-push rows view is v l row new e i grown = grind (arith, length-map, get_or-map, map-set)

-- rows that are all empty
pub rows_of-empty : (rows : List (Vec ℕ)) → All (λ (row : Vec ℕ). row.items ≡ []) rows → (v : ℕ) → row_of (rows_of rows) v ≡ []
rows_of-empty [] h v = refl
rows_of-empty (row ∷ rows) h zero = All-head (λ (r : Vec ℕ). r.items ≡ []) row rows h
rows_of-empty (row ∷ rows) h (suc v) = rows_of-empty rows (All-tail (λ (r : Vec ℕ). r.items ≡ []) row rows h) v

-- an amount that was read, as it is passed on
pub amount-read : (amounts : List ℤ) (i : ℕ) (z : ℤ) → SFits w64 z → slice_get amounts i ≡ Some z → to_z w64 (of_z w64 z) ≡ amount_at amounts i
amount-read amounts i z f e = to_z-of_z w64 z f ∙ sym (get_or_from_slice_get amounts i z (pos 0) e)

-- an arc as the code reads it has the amount that was read within its capacity
pub amount-fits : (net : Net) (amounts : List ℤ) → FitsCapacities net.arcs amounts → (i : ℕ) → i < length net.arcs → (arc : Arc) → arc ≡ arc_at net.arcs i → (z : ℤ) → z ≡ amount_at amounts i → unsigned_abs z ≤ arc.capacity
amount-fits net amounts f i l arc e z q = subst (λ (a : Arc). unsigned_abs z ≤ a.capacity) (sym e) (subst (λ y. unsigned_abs y ≤ (arc_at net.arcs i).capacity) (sym q) (FitsCapacities-at net.arcs amounts f i l))
