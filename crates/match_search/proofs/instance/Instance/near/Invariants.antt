use Rattle.graph_core.proofs.from_counting.Common.{◌≡◌, ℕ, true, length, ◌⊎◌, mem, item}
use Rattle.match_search.proofs.instance.Instance.near.Given as goal

abbrev pub invariant-blossoms : goal.invariant-blossoms
invariant-blossoms l = record {
  within : (b : ℕ) → mem l.rest b ≡ true → mem l.self.blossoms b ≡ true;
  from : (w : ℕ) → mem l.near w ≡ true → (mem l.row w ≡ true) ⊎ ((u : ℕ) × (mem l.row u ≡ true) × (mem (item l.self.members.items w) u ≡ true));
  kept : (w : ℕ) → mem l.row w ≡ true → mem l.near w ≡ true;
  found : (w u : ℕ) → mem l.self.blossoms w ≡ true → mem l.row u ≡ true → mem (item l.self.members.items w) u ≡ true → (mem l.rest w ≡ true) ⊎ (mem l.near w ≡ true);
}

abbrev pub decreases-blossoms : goal.decreases-blossoms
decreases-blossoms l = length l.rest
