-- The best place so far is before the place, no earlier cut is wider, and those before it are
-- narrower.
use Rattle.std.proofs.Common.{◌≤◌, ◌<◌, ℕ}
use Rattle.example_order.specs.WidestCuts.{width}
use Rattle.example_order.proofs.widest_cuts.widest_place.Given as goal

abbrev pub invariant-loop-place : goal.invariant-loop-place
invariant-loop-place l = record {
  within : l.best < l.place;
  most : (i : ℕ) → i < l.place → width l.g l.list i ≤ width l.g l.list l.best;
  first : (i : ℕ) → i < l.best → width l.g l.list i < width l.g l.list l.best;
}
