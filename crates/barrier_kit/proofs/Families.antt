-- Sets of vertices apart, each with a perfect matching of its own: their union has one.
-- The matchings are put side by side; a count over the family shows that each vertex is met once.
use Rattle.graph_core.proofs.from_counting.Common.{◌≡◌, ℕ, suc, zero, ◌≤◌, Bool, true, false, refl, arith, ◌&&◌, ◌||◌, not, true≢false, and_parts, some_true, total_none, Within, Set, complement, none, union, some}
use Rattle.barrier_kit.proofs.Matched.{glue, perfect_congr}
use Rattle.graph_core.proofs.Common.{Graph, IsGraph, size, IsPerfect}

-- sets apart, each with a perfect matching: so has their union
module _ (g : Graph) (is : IsGraph g) (from : Set) (star : ℕ → Set)
    (matched : (z : ℕ) → Within g.order z → from z ≡ true → (m : Set) × IsPerfect g (complement (star z)) m)
    (apart : (y z v : ℕ) → Within g.order y → Within g.order z → Within g.order v → from y ≡ true → star y v ≡ true → from z ≡ true → star z v ≡ true → y ≡ z) where
  abbrev so_far : ℕ → Set
  so_far k v = some k (λ z. from z && star z v)

  glue_up_to : (k : ℕ) → k ≤ g.order → (m : Set) × IsPerfect g (complement (so_far k)) m
  glue_up_to zero le = (
    none,
    record {
      once = λ v w o. absurd (true≢false o);
      away = λ v w o.
          let a = total_none (size g) (λ e. 0) (λ e w. refl) in omega arith;
    },
  )
  glue_up_to (suc k) le = let m = glue_up_to k (omega arith) in go (from (suc k)) refl m.0 m.1
    where
      go : (c : Bool) → from (suc k) ≡ c → (m : Set) → IsPerfect g (complement (so_far k)) m → (m : Set) × IsPerfect g (complement (so_far (suc k))) m
      go false e m p = (m, perfect_congr g (complement (so_far k)) (complement (so_far (suc k))) m (λ v w. same (so_far k v) (from (suc k)) (star (suc k) v) e) p)
        where
          same : (a c d : Bool) → c ≡ false → not a ≡ not (a || (c && d))
          same a c d h = grind arith
      go true e m p = grind (arith, glue g (so_far k) (star (suc k)) m, some_true k, and_parts, perfect_congr g (complement (union (so_far k) (star (suc k)))) (complement (so_far (suc k))))
        where
          same : (a c d : Bool) → c ≡ true → not (a || d) ≡ not (a || (c && d))
          same a c d h = grind arith

  pub glue_family : (m : Set) × IsPerfect g (complement (λ v. some g.order (λ z. from z && star z v))) m
  glue_family = glue_up_to g.order (omega arith)
