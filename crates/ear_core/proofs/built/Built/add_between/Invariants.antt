use Rattle.graph_core.proofs.from_counting.Common.{◌≡◌, ◌+◌, ◌≤◌, ℕ, Set, complement, count}
use Rattle.graph_core.proofs.Common.{size}
use Rattle.two_ears.specs.from_match_search.Common.{marks}
use Rattle.ear_core.specs.Common.{IsBuilt, IsFilled, IsMarked}
use Rattle.ear_core.proofs.built.Built.add_between.Given as goal

-- edges between partners on the first stage were added, at least one
abbrev pub invariant-loop-k : goal.invariant-loop-k
invariant-loop-k l = record {
  same : l.stage ≡ l.fn.stage;
  marked : IsMarked l.g l.self.marked;
  filled : (n : ℕ → ℕ) (first : Set) → IsBuilt l.g n first l.fn.self → IsFilled l.g n first (marks l.fn.self.marked.mark.items) l.self;
  fewer : count (size l.g) (complement (marks l.self.marked.mark.items)) + 1 ≤ count (size l.g) (complement (marks l.fn.self.marked.mark.items));
}
