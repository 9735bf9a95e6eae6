use Rattle.graph_core.proofs.from_counting.Common.{◌≡◌, ◌≢◌, ◌⊎◌, ℕ, true, length, mem}
use Rattle.match_search.specs.Common.{numbers}
use Rattle.match_core.proofs.partner_table.misses_none.Given as goal

abbrev pub invariant-looking : goal.invariant-looking
invariant-looking l = record {
  within : (v : ℕ) → mem l.rest v ≡ true → mem l.fn.set v ≡ true;
  passed : (v : ℕ) → mem l.fn.set v ≡ true → (mem l.rest v ≡ true) ⊎ (numbers l.fn.mate v ≢ 0);
}

abbrev pub decreases-looking : goal.decreases-looking
decreases-looking l = length l.rest
