-- Proper scripts: scripts of proper moves through derivations at a partition, one after the
-- other, and below a side of a cut.
use Rattle.move_laws.specs.Common.{AreRising, IsProperScript}
use Rattle.graph_core.proofs.from_counting.Common.{List, Some, [], ap, arith, length, map, option_map, refl, subst, sym, ℕ, ◌++◌, ◌+◌, ◌∙◌, ◌∷◌, ◌≡◌, none-some}
use Rattle.graph_core.proofs.Common.{Graph}
use Rattle.tree_core.proofs.Common.{IsDerivationAt, kept_at, merged_at, below, IsProper, PlainMove, move_result, rotate_at, rotate_result_at, switch_at, Shape, cut, cut_count}
use Rattle.tree_core.specs.declared.path.Side.{Side}
use Rattle.tree_core.specs.declared.path.Side.TheVariants.{Kept, Merged}
use Rattle.move_laws.proofs.BigShores.{Stage}
use Rattle.move_laws.proofs.Rotations.{rotate_keeps}

pub script_end : (g : Graph) (p : List (List ℕ)) (s : Shape) (ms : List PlainMove) (t : Shape) → IsDerivationAt g p s → AreRising g.order s → IsProperScript g p s ms t → IsDerivationAt g p t × AreRising g.order t × (cut_count t ≡ cut_count s)
script_end g p s [] t d f w = subst (λ r. IsDerivationAt g p r × AreRising g.order r × (cut_count r ≡ cut_count s)) w (d, f, refl)
script_end g p s (m ∷ ms) t d f w = let q = script_end g p w.0 ms t w.3 w.4 w.6 in (q.0, q.1, q.2 ∙ w.5)

pub script_join : (g : Graph) (p : List (List ℕ)) (s : Shape) (ms ns : List PlainMove) (t r : Shape) → IsProperScript g p s ms t → IsProperScript g p t ns r → IsProperScript g p s (ms ++ ns) r
script_join g p s [] ns t r w v = subst (λ z. IsProperScript g p z ns r) (sym w) v
script_join g p s (m ∷ ms) ns t r w v = (w.0, w.1, w.2, w.3, w.4, w.5, script_join g p w.0 ms ns t r w.6 v)

below_kept : (n : ℕ) (x : List ℕ) (a b r : Shape) (m : PlainMove) → move_result n a m ≡ Some r → move_result n (cut x a b) (below Kept m) ≡ Some (cut x r b)
below_kept n x a b r (rotate_at []) e = absurd (none-some _ e)
below_kept n x a b r (rotate_at (side ∷ path)) e = ap (option_map (λ c. cut x c b)) e
below_kept n x a b r (switch_at path u v) e = ap (option_map (λ c. cut x c b)) e

below_merged : (n : ℕ) (x : List ℕ) (a b r : Shape) (m : PlainMove) → move_result n b m ≡ Some r → move_result n (cut x a b) (below Merged m) ≡ Some (cut x a r)
below_merged n x a b r (rotate_at []) e = absurd (none-some _ e)
below_merged n x a b r (rotate_at (side ∷ path)) e = ap (option_map (λ c. cut x a c)) e
below_merged n x a b r (switch_at path u v) e = ap (option_map (λ c. cut x a c)) e

proper_kept : (n : ℕ) (p : List (List ℕ)) (x : List ℕ) (a b : Shape) (m : PlainMove) → IsProper n (kept_at n p x) a m → IsProper n p (cut x a b) (below Kept m)
proper_kept n p x a b (rotate_at path) h = tt
proper_kept n p x a b (switch_at path u v) h = h

proper_merged : (n : ℕ) (p : List (List ℕ)) (x : List ℕ) (a b : Shape) (m : PlainMove) → IsProper n (merged_at n p x) b m → IsProper n p (cut x a b) (below Merged m)
proper_merged n p x a b (rotate_at path) h = tt
proper_merged n p x a b (switch_at path u v) h = h

pub script_kept : (g : Graph) (p : List (List ℕ)) (x : List ℕ) (a b : Shape) (ms : List PlainMove) (r : Shape) → IsDerivationAt g p (cut x a b) → AreRising g.order (cut x a b) → IsProperScript g (kept_at g.order p x) a ms r → IsProperScript g p (cut x a b) (map (below Kept) ms) (cut x r b)
script_kept g p x a b [] r d f w = ap (λ c. cut x c b) w
script_kept g p x a b (m ∷ ms) r d f w =
    (cut x w.0 b, below_kept g.order x a b w.0 m w.1, proper_kept g.order p x a b m w.2, (d.0, w.3, d.2), (f.0, w.4, f.2), omega (arith, w.5), script_kept g p x w.0 b ms r (d.0, w.3, d.2) (f.0, w.4, f.2) w.6)

pub script_merged : (g : Graph) (p : List (List ℕ)) (x : List ℕ) (a b : Shape) (ms : List PlainMove) (r : Shape) → IsDerivationAt g p (cut x a b) → AreRising g.order (cut x a b) → IsProperScript g (merged_at g.order p x) b ms r → IsProperScript g p (cut x a b) (map (below Merged) ms) (cut x a r)
script_merged g p x a b [] r d f w = ap (λ c. cut x a c) w
script_merged g p x a b (m ∷ ms) r d f w =
    (cut x a w.0, below_merged g.order x a b w.0 m w.1, proper_merged g.order p x a b m w.2, (d.0, d.1, w.3), (f.0, f.1, w.4), omega (arith, w.5), script_merged g p x a w.0 ms r (d.0, d.1, w.3) (f.0, f.1, w.4) w.6)

-- one Rotate at the root
pub script_rotate : (g : Graph) (p : List (List ℕ)) (side : Side) (t r : Shape) → Stage g p → IsDerivationAt g p t → AreRising g.order t → rotate_result_at side t ≡ Some r → IsProperScript g p t (rotate_at (side ∷ []) ∷ []) r
script_rotate g p side t r st d f e = let k = rotate_keeps g side p t r st f d e in (r, e, tt, k.0, k.1, k.2, refl)

pub length_join : {A : Type 0} (xs ys : List A) → length (xs ++ ys) ≡ length xs + length ys
length_join [] ys = omega arith
length_join (x ∷ xs) ys = let a = length_join xs ys in omega arith

pub length_below : (side : Side) (ms : List PlainMove) → length (map (below side) ms) ≡ length ms
length_below side [] = refl
length_below side (m ∷ ms) = let a = length_below side ms in omega arith
