-- Lists of cuts, each given by its canonical shore: the shore without the highest-numbered vertex.
-- Stated by: graph_core, barrier_kit, separation_kit, quick_kinds. Used by: tight_cuts.
use Rattle.std.specs.Prelude.{◌≡◌, ℕ, Bool, false, List, [], ◌∷◌, ◌++◌, ◌&&◌, not, fold, if◌then◌else◌}
use Rattle.std.specs.List.{list_any}
use Rattle.vset_core.specs.from_counting.Common.{mem, is_subset, rising_list, IsRisingIn}
use Rattle.graph_core.specs.Graph.{Graph}
use Rattle.graph_core.specs.Tight.{IsTight, IsNontrivial, is_nontrivial, canonical_shore}

-- some shore of the list has the same vertices as s
abbrev pub is_listed : List (List ℕ) → List ℕ → Bool
is_listed cuts s = list_any (λ c. is_subset s c && is_subset c s) cuts

-- the canonical shore of the cut of s, as an increasing list
abbrev pub canonical_list : ℕ → List ℕ → List ℕ
canonical_list n s = rising_list n (canonical_shore n (mem s))

-- the list with the cut of s added, unless a side has fewer than three vertices or the list has the
-- cut already
abbrev pub with_cut : ℕ → List (List ℕ) → List ℕ → List (List ℕ)
with_cut n cuts s = if is_nontrivial n (canonical_shore n (mem s)) && not (is_listed cuts (canonical_list n s)) then cuts ++ canonical_list n s ∷ [] else cuts

-- the nontrivial cuts of the shores, in order, each once
abbrev pub cuts_of : ℕ → List (List ℕ) → List (List ℕ)
cuts_of n shores = fold (with_cut n) [] shores

-- s is the canonical shore of a nontrivial tight cut: an increasing list without the
-- highest-numbered vertex
pub record IsCanonicalCut (g : Graph) (s : List ℕ) : Type 0 where
  pub rising : IsRisingIn g.order s
  pub canonical : mem s g.order ≡ false
  pub nontrivial : IsNontrivial g.order (mem s)
  pub tight : IsTight g (mem s)
