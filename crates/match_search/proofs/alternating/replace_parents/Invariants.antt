use Rattle.graph_core.proofs.from_counting.Common.{◌≡◌, ◌⊎◌, ℕ, true, length, mem}
use Rattle.match_search.specs.Common.{numbers, shrunk_vertex}
use Rattle.match_search.proofs.alternating.replace_parents.Given as goal

-- a parent is what it was, or replaced already
abbrev pub invariant-replacing : goal.invariant-replacing
invariant-replacing l = record {
  long : length l.parent ≡ length l.initial.parent;
  within : (v : ℕ) → mem l.rest v ≡ true → mem l.fn.set v ≡ true;
  each : (v : ℕ) → (numbers l.parent v ≡ numbers l.initial.parent v) ⊎ (numbers l.parent v ≡ shrunk_vertex (mem l.members) l.base (numbers l.initial.parent v));
  replaced : (v : ℕ) → mem l.fn.set v ≡ true → (mem l.rest v ≡ true) ⊎ (numbers l.parent v ≡ shrunk_vertex (mem l.members) l.base (numbers l.initial.parent v));
}

abbrev pub decreases-replacing : goal.decreases-replacing
decreases-replacing l = length l.rest
