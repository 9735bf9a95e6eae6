-- The table of the words of one bit.
-- Idea: by induction on the place, with a start that is one higher at each step.
use Rattle.std.proofs.Common.{◌≡◌, ℕ, zero, suc, ◌+◌, ◌^◌, ◌<◌, List, [], ◌∷◌, slice_index_or, refl, subst, arith}

-- 2 ^ k, 2 ^ (k + 1), .., n of them
unfoldable pub powers : ℕ → ℕ → List ℕ
powers k zero = []
powers k (suc n) = 2 ^ k ∷ powers (suc k) n

pub powers_at : (k n i : ℕ) → i < n → slice_index_or (powers k n) i 0 ≡ 2 ^ (k + i)
unfolding powers
powers_at k zero i l = absurd (omega arith)
powers_at k (suc n) zero l = let e : k + 0 ≡ k = omega arith in rw e refl
powers_at k (suc n) (suc i) l = let e : k + suc i ≡ suc k + i = omega arith in rw e (powers_at (suc k) n i (omega arith))

pub power_at : (i : ℕ) → i < 128 → slice_index_or (powers 0 128) i 0 ≡ 2 ^ i
power_at i l = let e : 0 + i ≡ i = omega arith in subst (λ k. slice_index_or (powers 0 128) i 0 ≡ 2 ^ k) e (powers_at 0 128 i l)
