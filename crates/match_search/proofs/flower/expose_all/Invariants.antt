use Rattle.graph_core.proofs.from_counting.Common.{◌≡◌, ◌⊎◌, ℕ, true, length, mem}
use Rattle.match_search.specs.Common.{numbers}
use Rattle.match_search.proofs.flower.expose_all.Given as goal

abbrev pub invariant-exposing : goal.invariant-exposing
invariant-exposing l = record {
  long : length l.mate ≡ length l.initial.mate;
  within : (v : ℕ) → mem l.rest v ≡ true → mem l.fn.set v ≡ true;
  exposed : (v : ℕ) → mem l.fn.set v ≡ true → (mem l.rest v ≡ true) ⊎ (numbers l.mate v ≡ 0);
  kept : (v : ℕ) → (mem l.fn.set v ≡ true) ⊎ (numbers l.mate v ≡ numbers l.initial.mate v);
}

abbrev pub decreases-exposing : goal.decreases-exposing
decreases-exposing l = length l.rest
