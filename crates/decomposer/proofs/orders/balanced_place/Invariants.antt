-- The best place so far is before the place, no earlier one has sides that differ less, and those
-- before it have a greater difference.
use Rattle.std.proofs.Common.{◌≤◌, ◌<◌, ℕ}
use Rattle.decomposer.specs.Common.{gap}
use Rattle.decomposer.proofs.orders.balanced_place.Given as goal

abbrev pub invariant-loop-place : goal.invariant-loop-place
invariant-loop-place l = record {
  within : l.best < l.place;
  least : (i : ℕ) → i < l.place → gap l.list l.best ≤ gap l.list i;
  first : (i : ℕ) → i < l.best → gap l.list l.best < gap l.list i;
}
