-- The laws in their last form: what a same leaf carries along, and that any two derivations of a
-- graph are joined by few moves (Lovász 1987).
use Rattle.move_laws.specs.Common.{AreRising, IsProperScript, IsPairing}
use Rattle.std.proofs.Common.{List, [], length, ℕ, ◌*◌, ◌+◌, ◌∷◌, ◌≡◌, ◌≤◌, Some as Just}
use Rattle.graph_core.proofs.from_counting.Common.{IsRisingIn, none-some}
use Rattle.graph_core.proofs.Common.{IsCovered, Graph, IsGraph, singles}
use Rattle.tree_core.proofs.Common.{IsCutAt, IsDerivation, IsDerivationAt, PlainMove, TurnsThrough, Shape, cut, cut_count, PlainLeafMap, move_maps, script_maps, leaves, IsProper, last_step, move_result, parent_path, rotate_result, rotate_result_at}
use Rattle.move_laws.proofs.BigShores.{Stage, cut_big}
use Rattle.move_laws.proofs.Comparison.{compare}
use Rattle.move_laws.proofs.CrossingShores.{crossed}
use Rattle.move_laws.proofs.NestedShores.{Compared, Exposes, expose}
use Rattle.tree_core.specs.declared.path.Side.{Side}
use Rattle.move_laws.proofs.MoveParts.{move_pairs}
use Rattle.move_laws.proofs.Rising.{rising-derivation_at}
use Rattle.move_laws.proofs.Rotations.{path_keeps, rotate_keeps}
use Rattle.move_laws.proofs.ScriptPairs.{script_pairs}
use Rattle.move_laws.proofs.SingleVertices.{singles_stage}

-- expose: a script of at most 3 c − 2 moves through derivations, each Switch proper, whose last
-- tree has the shore at its root
pub expose_law : (g : Graph) (t : Shape) → Exposes g t
expose_law g t = expose g (crossed g) t

-- compare: a script of at most 5 c² moves through derivations from s to t
pub compare_law : (g : Graph) (p : List (List ℕ)) (s t : Shape) → Stage g p → AreRising g.order s → IsDerivationAt g p s → AreRising g.order t → IsDerivationAt g p t → Compared g p s t
compare_law g p s t st fs ds ft dt = compare g (crossed g) t p s st fs ds ft dt

-- at single vertices: each tree of the script is a derivation of g
pub script_through : (g : Graph) (s : Shape) (ms : List PlainMove) (t : Shape) → IsCovered g → IsProperScript g (singles g.order) s ms t → TurnsThrough g s ms t
script_through g s [] t c w = w
script_through g s (m ∷ ms) t c w = (w.0, w.1, record { covered = c; derives = w.3 }, script_through g w.0 ms t c w.6)

-- two derivations of a covered graph: a script of at most 5 c² moves leads from one to the other,
-- each tree between a derivation
pub compare_through : (g : Graph) (s t : Shape) → IsGraph g → AreRising g.order s → IsDerivation g s → AreRising g.order t → IsDerivation g t → (ms : List PlainMove) × TurnsThrough g s ms t × (length ms ≤ 5 * (cut_count s * cut_count s))
compare_through g s t is fs ds ft dt = let r = compare_law g (singles g.order) s t (singles_stage g is ds.covered) fs ds.derives ft dt.derives in (r.0, script_through g s r.0 t ds.covered r.1, r.2)

-- a canonical nontrivial tight shore of a covered graph is brought to the root of any derivation
pub expose_through : (g : Graph) (s : Shape) (y : List ℕ) → IsGraph g → AreRising g.order s → IsDerivation g s → IsRisingIn g.order y → IsCutAt g (singles g.order) y → (ms : List PlainMove) × (a : Shape) × (b : Shape) × TurnsThrough g s ms (cut y a b) × (length ms + 2 ≤ 3 * cut_count s)
expose_through g s y is fs ds sy c =
    let st = singles_stage g is ds.covered in
    let r = expose_law g s (singles g.order) y st fs ds.derives (cut_big g (singles g.order) st y sy c) c.canonical in
    (r.0, r.1, r.2, script_through g s r.0 (cut y r.1 r.2) ds.covered r.3, r.4)

-- the laws without what follows from being a derivation
pub rotate_derives_law : (g : Graph) (path : List Side) (s t : Shape) → IsGraph g → IsDerivation g s → rotate_result path s ≡ Just t → IsDerivation g t
rotate_derives_law g [] s t is ds e = absurd (none-some t e)
rotate_derives_law g (side ∷ path) s t is ds e =
    record { covered = ds.covered; derives = (path_keeps g (rotate_result_at (last_step side path)) (rotate_keeps g (last_step side path)) (parent_path side path) (singles g.order) s t (singles_stage g is ds.covered) (rising-derivation_at g (singles g.order) s ds.derives) ds.derives e).0 }

pub moves_pair_law : (g : Graph) (s t : Shape) (m : PlainMove) → IsGraph g → IsDerivation g s → IsProper g.order (singles g.order) s m → move_result g.order s m ≡ Just t → IsDerivation g t → IsPairing g (leaves g.order s) (leaves g.order t) (move_maps g.order s m)
moves_pair_law g s t m is ds proper e dt = move_pairs g s t m (singles_stage g is ds.covered) (rising-derivation_at g (singles g.order) s ds.derives) ds.derives proper e dt.derives

pub exposing_law : (g : Graph) (s : Shape) (y : List ℕ) → IsGraph g → IsDerivation g s → IsCutAt g (singles g.order) y → (ms : List PlainMove) × (a : Shape) × (b : Shape) × TurnsThrough g s ms (cut y a b) × (length ms + 2 ≤ 3 * cut_count s)
exposing_law g s y is ds c = expose_through g s y is (rising-derivation_at g (singles g.order) s ds.derives) ds c.set c

pub turning_law : (g : Graph) (s t : Shape) → IsGraph g → IsDerivation g s → IsDerivation g t → (ms : List PlainMove) × TurnsThrough g s ms t × (length ms ≤ 5 * (cut_count s * cut_count s))
turning_law g s t is ds dt = compare_through g s t is (rising-derivation_at g (singles g.order) s ds.derives) ds (rising-derivation_at g (singles g.order) t dt.derives) dt

pub pairing_law : (g : Graph) (s t : Shape) → IsGraph g → IsDerivation g s → IsDerivation g t → (maps : List PlainLeafMap) × IsPairing g (leaves g.order s) (leaves g.order t) maps
pairing_law g s t is ds dt =
    let st = singles_stage g is ds.covered in let fs = rising-derivation_at g (singles g.order) s ds.derives in
    let r = compare_law g (singles g.order) s t st fs ds.derives (rising-derivation_at g (singles g.order) t dt.derives) dt.derives in
    (script_maps g.order s r.0, script_pairs g s t r.0 st fs ds.derives r.1)
