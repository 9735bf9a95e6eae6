-- A matching is perfect exactly if it misses no vertex outside the removed ones.
-- A count is 0 exactly if no number passes the test.
use Rattle.vset_core.proofs.from_counting.Common.{◌≡◌, ℕ, ◌≤◌, false, ◌==◌, refl, arith, ◌&&◌, not, ne_eqb, total_none, at_le_total, Within, bit, Set}
use Rattle.graph_core.specs.Common.{Graph, degree, IsMatching, IsPerfect, missed_count}

pub perfect_matching : (g : Graph) (r m : Set) → IsPerfect g r m → IsMatching g r m
perfect_matching g r m p = grind arith

pub perfect_misses : (g : Graph) (r m : Set) → IsPerfect g r m → missed_count g r m ≡ 0
unfolding missed_count
perfect_misses g r m p = grind (arith, total_none g.order, ne_eqb)

-- a vertex that m misses is counted
pub missed_one : (g : Graph) (r m : Set) (v : ℕ) → Within g.order v → r v ≡ false → degree g m v ≡ 0 → 1 ≤ missed_count g r m
unfolding missed_count
missed_one g r m v w out z =
    let a = at_le_total g.order (λ v. bit (not (r v) && (degree g m v == 0))) v w in
    let b : bit (not (r v) && (degree g m v == 0)) ≡ 1 = rw (out, z) refl in
    omega arith

pub none_missed-perfect : (g : Graph) (r m : Set) → IsMatching g r m → missed_count g r m ≡ 0 → IsPerfect g r m
none_missed-perfect g r m is none = grind (arith, missed_one g r m)
