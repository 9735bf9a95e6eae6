-- The textbook's definitions of what graph_core defines by degrees, counts and tests. The laws of
-- this crate say that they agree. Any textbook (Lovász and Plummer, "Matching Theory").
-- Stated by: definition_laws. Used by: bench_top.
use Rattle.std.specs.Prelude.{◌≡◌, ◌≢◌, ◌<◌, ◌⊎◌, ◌↔◌, ℕ, true, false, List, [], length}
use Rattle.counting.specs.Common.{Within, mem, ComesBefore, IsRisingIn, Set}
use Rattle.graph_core.specs.Common.{Reason, Small, Parted, Unmatched, Unallowed, Graph, size, first_end, second_end, IsEnd, block, place, IsClass, Joined}

-- no edge of m is a loop; in a multigraph no edge is
abbrev pub HoldsNoLoop : Graph → Set → Type 0
HoldsNoLoop g m = (e : ℕ) → Within (size g) e → m e ≡ true → first_end g e ≢ second_end g e

-- no edge of m has an end in r
abbrev pub Avoids : Graph → Set → Set → Type 0
Avoids g r m = (e v : ℕ) → Within (size g) e → Within g.order v → m e ≡ true → r v ≡ true → IsEnd g e v → ⊥

-- each vertex outside r is an end of exactly one edge of m
abbrev pub MeetsEachOnce : Graph → Set → Set → Type 0
MeetsEachOnce g r m = (v : ℕ) → Within g.order v → r v ≡ false →
    (e : ℕ) × Within (size g) e × (m e ≡ true) × IsEnd g e v × ((f : ℕ) → Within (size g) f → m f ≡ true → IsEnd g f v → f ≡ e)

-- the reason without the Berge set, which need not be unique
abbrev pub without_berge : Reason → Reason
without_berge Small = Small
without_berge (Parted a b) = Parted a b
without_berge (Unmatched berge) = Unmatched []
without_berge (Unallowed edge) = Unallowed edge

-- c is a component of g - s: an increasing list of the vertices that walks join to one of them,
-- outside s
abbrev pub IsComponent : Graph → Set → List ℕ → Type 0
IsComponent g s c = IsRisingIn g.order c × ((u : ℕ) × Within g.order u × (s u ≡ false) × (mem c u ≡ true) × ((v : ℕ) → Within g.order v → ((mem c v ≡ true) ↔ Joined g s u v)))

-- c is a class: an increasing list of the vertices that are equivalent to one of them
abbrev pub IsListOfClass : Graph → List ℕ → Type 0
IsListOfClass g c = IsRisingIn g.order c × ((a : ℕ) × Within g.order a × (mem c a ≡ true) × IsClass g a (mem c))

-- some end of edge e is in block i
abbrev pub HasEndIn : Graph → List (List ℕ) → ℕ → ℕ → Type 0
HasEndIn g p e i = (mem (block p i) (first_end g e) ≡ true) ⊎ (mem (block p i) (second_end g e) ≡ true)

-- the ends of each edge of m are in different blocks
abbrev pub LeavesBlocks : Graph → List (List ℕ) → Set → Type 0
LeavesBlocks g p m = (e : ℕ) → Within (size g) e → m e ≡ true → place p (first_end g e) ≢ place p (second_end g e)

-- each block contains an end of exactly one edge of m
abbrev pub MeetsEachBlockOnce : Graph → List (List ℕ) → Set → Type 0
MeetsEachBlockOnce g p m = (i : ℕ) → Within (length p) i →
    (e : ℕ) × Within (size g) e × (m e ≡ true) × HasEndIn g p e i × ((f : ℕ) → Within (size g) f → m f ≡ true → HasEndIn g p f i → f ≡ e)

-- k is the first pair a < b of 1 to n, in lexicographic order, with the property P
abbrev pub IsFirstPair : ℕ → (ℕ → ℕ → Type 0) → ℕ × ℕ → Type 0
IsFirstPair n P k = (Within n k.0 × Within n k.1 × (k.0 < k.1)) × P k.0 k.1 × ((a b : ℕ) → Within n a → Within n b → a < b → ComesBefore (a, b) k → P a b → ⊥)
