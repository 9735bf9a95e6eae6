use Rattle.counting.proofs.Common.{◌≡◌, ◌||◌, ℕ, length, All, Within, mem}
use Rattle.tree_text.proofs.shores.shore_of.Given as goal

-- the numbers are those in the set and those left
abbrev pub invariant-numbers : goal.invariant-numbers
invariant-numbers l = record {
  same : (v : ℕ) → mem l.vertices v ≡ (mem l.shore v || mem l.rest v);
  within : All (Within 128) l.rest;
}

abbrev pub decreases-numbers : goal.decreases-numbers
decreases-numbers l = length l.rest
