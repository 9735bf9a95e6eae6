-- Berge sets (Tutte 1947, Berge 1958): vertex sets that show a matching to be maximum.
-- Stated by: match_core, allowed_edges, theorems.
-- Used by: graph_core, graph_facts, definition_laws, mcg6_lines.
use Rattle.std.specs.Prelude.{◌≡◌, ◌+◌}
use Rattle.vset_core.specs.from_counting.Common.{count, Set, union}
use Rattle.graph_core.specs.Graph.{Graph}
use Rattle.graph_core.specs.Matchings.{IsMatching, missed_count}
use Rattle.graph_core.specs.Components.{odd_component_count}

-- m misses exactly o(s) - |s| vertices of g - r, where o(s) counts the odd components of g - r - s;
-- written as a sum because numbers are not negative
abbrev pub Attains : Graph → Set → Set → Set → Type 0
Attains g r s m = missed_count g r m + count g.order s ≡ odd_component_count g (union r s)

-- s is a Berge set of g - r: some matching misses exactly o(s) - |s| vertices
abbrev pub IsBergeSet : Graph → Set → Set → Type 0
IsBergeSet g r s = (m : Set) × IsMatching g r m × Attains g r s m
