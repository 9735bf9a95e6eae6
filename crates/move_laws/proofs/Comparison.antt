-- Two derivations at one partition are turned into one another: the root shore of the second is
-- exposed in the first, and then the same below it on both sides.
use Rattle.tree_core.proofs.Common.{below, IsDerivationAt, kept_at, merged_at, Shape, cut, cut_count, leaf}
use Rattle.move_laws.specs.Common.{AreRising}
use Rattle.std.proofs.Common.{List, [], arith, map, mul-add, mul_comm, refl, sym, ℕ, ◌*◌, ◌++◌, ◌+◌, ◌≡◌, ◌≤◌}
use Rattle.graph_core.proofs.Common.{Graph, complement_of}
use Rattle.tree_core.specs.declared.path.Side.TheVariants.{Kept, Merged}
use Rattle.move_laws.proofs.BigShores.{Stage, big_rest, cut_big, stage_merged}
use Rattle.move_laws.proofs.NestedShores.{Compared, Crossed, expose, leaf_not}
use Rattle.move_laws.proofs.Scripts.{length_below, length_join, script_end, script_join, script_kept, script_merged}

pub square : (k r c : ℕ) → c ≡ 1 + k + r → k * k + r * r + c ≤ c * c
square k r c e = grind (arith, mul-add, mul_comm)

pub compare : (g : Graph) → Crossed g → (t : Shape) (p : List (List ℕ)) (s : Shape) → Stage g p → AreRising g.order s → IsDerivationAt g p s → AreRising g.order t → IsDerivationAt g p t → Compared g p s t
compare g crossed leaf p leaf st fs ds ft dt = ([], refl, omega arith)
compare g crossed leaf p (cut x a b) st fs ds ft dt = absurd (leaf_not g p x st dt (cut_big g p st x fs.0 ds.0) ds.0.canonical)
compare g crossed (cut y k2 r2) p s st fs ds ft dt =
    let by = cut_big g p st y ft.0 dt.0 in
    let e = expose g crossed s p y st fs ds by dt.0.canonical in
    let k1 = e.1 in let r1 = e.2 in
    let q = script_end g p s e.0 (cut y k1 r1) ds fs e.3 in
    let ck = compare g crossed k2 (kept_at g.order p y) k1 (stage_merged g p st (complement_of g.order y) (big_rest g p st y by)) q.1.1 q.0.1 ft.1 dt.1 in
    let cr = compare g crossed r2 (merged_at g.order p y) r1 (stage_merged g p st y by) q.1.2 q.0.2 ft.2 dt.2 in
    let wk = script_kept g p y k1 r1 ck.0 k2 q.0 q.1 ck.1 in
    let qk = script_end g p (cut y k1 r1) (map (below Kept) ck.0) (cut y k2 r1) q.0 q.1 wk in
    let wr = script_merged g p y k2 r1 cr.0 r2 qk.0 qk.1 cr.1 in
    let tail = script_join g p (cut y k1 r1) (map (below Kept) ck.0) (map (below Merged) cr.0) (cut y k2 r1) (cut y k2 r2) wk wr in
    let ns = map (below Kept) ck.0 ++ map (below Merged) cr.0 in
    let l1 = length_join e.0 ns in let l2 = length_join (map (below Kept) ck.0) (map (below Merged) cr.0) in
    let l3 = length_below Kept ck.0 in let l4 = length_below Merged cr.0 in
    let c1 : cut_count s ≡ 1 + cut_count k1 + cut_count r1 = sym q.2 in
    let sq = square (cut_count k1) (cut_count r1) (cut_count s) c1 in
    let b1 = ck.2 in let b2 = cr.2 in let b0 = e.4 in
    (e.0 ++ ns, script_join g p s e.0 ns (cut y k1 r1) (cut y k2 r2) e.3 tail, omega arith)
