-- So far the set has the places of the blocks before this one that are in the shore.
use Rattle.graph_core.proofs.from_counting.Common.{◌≡◌, ℕ, true, Within, mem}
use Rattle.graph_core.proofs.Common.{blocks_in}
use Rattle.tree_check.proofs.rules.places_in.Given as goal

abbrev pub invariant-loop-i : goal.invariant-loop-i
invariant-loop-i l = record {
  within : (j : ℕ) → mem l.places j ≡ true → Within l.i j;
  members : (j : ℕ) → Within l.i j → mem l.places j ≡ blocks_in l.p.blocks (mem l.shore) j;
}
