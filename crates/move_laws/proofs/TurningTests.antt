-- What the steps of a turning ask of the tree: tests of two shores, the two forms of Rotate in
-- `merged`, and the shape of a carried tree.
use Rattle.graph_core.proofs.from_counting.Common.{Bool, List, None, Some, [], ap, arith, false, if◌then◌else◌, not, refl, true, ℕ, ◌&&◌, ◌∙◌, ◌≡◌, rising_list-rises, true_all_in, IsRisingIn, is_apart, is_subset, mem, everything, minus}
use Rattle.graph_core.proofs.Common.{Apart}
use Rattle.tree_core.proofs.Common.{is_proper, rotate_result_at, Shape, cut, cut_count, leaf}
use Rattle.tree_core.specs.declared.path.Side.TheVariants.{Merged}
use Rattle.move_laws.proofs.Rising.{bounds}
use Rattle.move_laws.specs.Common.{carry, carry_cut, AreRising}

-- a carried tree has increasing shores, and as many cuts
pub fits_carry : (n : ℕ) (k : ℕ → ℕ) (t : Shape) → AreRising n (carry n k t) × (cut_count (carry n k t) ≡ cut_count t)
fits_carry n k leaf = (tt, refl)
fits_carry n k (cut x a b) = go (mem x (k n)) (fits_carry n k a) (fits_carry n k b)
  where
    go : (t : Bool) → AreRising n (carry n k a) × (cut_count (carry n k a) ≡ cut_count a) → AreRising n (carry n k b) × (cut_count (carry n k b) ≡ cut_count b) →
        AreRising n (carry_cut n k x t (carry n k a) (carry n k b)) × (cut_count (carry_cut n k x t (carry n k a) (carry n k b)) ≡ cut_count (cut x a b))
    go true fa fb = ((rising_list-rises n (λ v. not (mem x (k v))), fb.0, fa.0), omega (arith, fa.1, fb.1))
    go false fa fb = ((rising_list-rises n (λ v. mem x (k v)), fa.0, fb.0), omega (arith, fa.1, fb.1))

-- Rotate in `merged`, where the upper shore lies in the lower one
pub rotate-inside : (x y : List ℕ) (a c d : Shape) → is_subset x y ≡ true → rotate_result_at Merged (cut x a (cut y c d)) ≡ Some (cut y (cut x a c) d)
rotate-inside x y a c d h = ap (λ k. if k then Some (cut y (cut x a c) d) else (if is_apart x y then Some (cut y c (cut x a d)) else None)) h

-- and where the two are apart
pub rotate-apart : (x y : List ℕ) (a c d : Shape) → is_subset x y ≡ false → is_apart x y ≡ true → rotate_result_at Merged (cut x a (cut y c d)) ≡ Some (cut y c (cut x a d))
rotate-apart x y a c d h k = ap (λ k. if k then Some (cut y (cut x a c) d) else (if is_apart x y then Some (cut y c (cut x a d)) else None)) h ∙ ap (λ k. if k then Some (cut y c (cut x a d)) else None) k

-- sets with no common vertex, by the test
pub apart_test : (n : ℕ) (x y : List ℕ) → IsRisingIn n x → Apart n (mem x) (mem y) → is_apart x y ≡ true
apart_test n x y s h = true_all_in x (minus everything (mem y)) (λ v m. ap (λ k. true && not k) (h v ((bounds s) v m) m))

-- and a nonempty proper subset
pub proper_test : (u x : List ℕ) → is_subset u [] ≡ false → is_subset u x ≡ true → is_subset x u ≡ false → is_proper u x ≡ true
proper_test u x a b c = bits (is_subset u []) (is_subset u x) (is_subset x u) a b c
  where
    bits : (a b c : Bool) → a ≡ false → b ≡ true → c ≡ false → (not a && b && not c) ≡ true
    bits a b c h k l = grind arith
