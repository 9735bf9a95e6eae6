use Rattle.graph_core.proofs.from_counting.Common.{◌≡◌, ℕ, true, ◌⊎◌, length, mem}
use Rattle.match_search.specs.Common.{numbers}
use Rattle.match_search.proofs.alternating.exposed_in.Given as goal

abbrev pub invariant-looking : goal.invariant-looking
invariant-looking l = record {
  within : (v : ℕ) → mem l.rest v ≡ true → mem l.fn.left v ≡ true;
  from : (v : ℕ) → mem l.exposed v ≡ true → (mem l.fn.left v ≡ true) × (numbers l.mate v ≡ 0);
  into : (v : ℕ) → mem l.fn.left v ≡ true → numbers l.mate v ≡ 0 → (mem l.rest v ≡ true) ⊎ (mem l.exposed v ≡ true);
}

abbrev pub decreases-looking : goal.decreases-looking
decreases-looking l = length l.rest
