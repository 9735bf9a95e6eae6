use Rattle.graph_core.proofs.from_counting.Common.{◌≡◌, ℕ, true, length, ◌⊎◌, mem, item}
use Rattle.match_search.proofs.instance.unions_of.Given as goal

abbrev pub invariant-uniting : goal.invariant-uniting
invariant-uniting l = record {
  within : (v : ℕ) → mem l.rest v ≡ true → mem l.fn.set v ≡ true;
  from_rows : (u : ℕ) → mem l.all_rows u ≡ true → (v : ℕ) × (mem l.fn.set v ≡ true) × (mem (item l.rows v) u ≡ true);
  into_rows : (v u : ℕ) → mem l.fn.set v ≡ true → mem (item l.rows v) u ≡ true → (mem l.rest v ≡ true) ⊎ (mem l.all_rows u ≡ true);
  from_members : (u : ℕ) → mem l.all_members u ≡ true → (v : ℕ) × (mem l.fn.set v ≡ true) × (mem (item l.members v) u ≡ true);
  into_members : (v u : ℕ) → mem l.fn.set v ≡ true → mem (item l.members v) u ≡ true → (mem l.rest v ≡ true) ⊎ (mem l.all_members u ≡ true);
}

abbrev pub decreases-uniting : goal.decreases-uniting
decreases-uniting l = length l.rest
