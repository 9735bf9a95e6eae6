-- Weights lowered by one at those edges of a set that have positive weight. Edge by edge the old
-- weight is the new one, plus one if it was positive.
use Rattle.graph_core.proofs.from_counting.Common.{◌≡◌, ℕ, ◌+◌, ◌-◌, ◌*◌, ◌≤◌, ◌<◌, true, ◌&&◌, nat_lt, ap, arith, total_congr, total_le, Within, bit, count, total, Set}
use Rattle.graph_core.proofs.Common.{Graph, size}
use Rattle.brick_kit.proofs.EdgeSums.{term_le, weight_plus, weight_test, total_less}
use Rattle.brick_kit.specs.Weights.{weight_of}

-- w, less one at the edges of p that have any
abbrev pub lowered : (ℕ → ℕ) → Set → ℕ → ℕ
lowered w p e = w e - bit (p e)

pub lowered_back : (w : ℕ → ℕ) (p : Set) (e : ℕ) → w e ≡ lowered w p e + bit (p e && nat_lt 0 (w e))
lowered_back w p e = grind arith

pub lowered_at_most : (w : ℕ → ℕ) (p : Set) (e : ℕ) → lowered w p e ≤ w e
lowered_at_most w p e = omega arith

pub lowered_below : (w : ℕ → ℕ) (p : Set) (e : ℕ) → p e ≡ true → 0 < w e → lowered w p e < w e
lowered_below w p e pe l = let t = ap bit pe in omega arith

pub lowered_weight : (g : Graph) (w : ℕ → ℕ) (p m : Set) → ((e : ℕ) → Within (size g) e → m e ≡ true → 0 < w e) → weight_of g w m ≡ weight_of g (lowered w p) m + count (size g) (λ e. m e && p e)
lowered_weight g w p m h = grind (arith, total_congr (size g), weight_plus g (lowered w p), weight_test g p m)

pub lowered_less : (g : Graph) (w : ℕ → ℕ) (p m : Set) → weight_of g (lowered w p) m ≤ weight_of g w m
lowered_less g w p m = total_le (size g) (λ e. bit (m e) * lowered w p e) (λ e. bit (m e) * w e) (λ e i. term_le (m e) (lowered w p e) (w e) (λ t. lowered_at_most w p e))

pub lowered_falls : (g : Graph) (w : ℕ → ℕ) (p : Set) (e : ℕ) → Within (size g) e → p e ≡ true → 0 < w e → total (size g) (lowered w p) < total (size g) w
lowered_falls g w p e we pe l = total_less (size g) (lowered w p) w (λ i j. lowered_at_most w p i) e we (lowered_below w p e pe l)
