-- The names of the first i + 1 blocks of a partition are those of the first i and the name of the
-- next block. Idea: the first items of a list with one more, and a map along both.
use Rattle.move_text.proofs.from_counting.Common.{◌≡◌, ◌+◌, ℕ, List, [], ◌∷◌, ◌++◌, Some, take, slice_get, arith, take-suc, slice_get_within, map-append, get_or_from_slice_get, last_of}
use Rattle.graph_core.proofs.Common.{names_of}

pub names-next : (p : List (List ℕ)) (i n : ℕ) (b : List ℕ) (now next : List ℕ) → slice_get p i ≡ Some b → now ≡ names_of (take i p) → n ≡ last_of b → next ≡ now ++ n ∷ [] → next ≡ names_of (take (i + 1) p)
names-next p i n b now next is before name after = grind (arith, take-suc p i b (slice_get_within p i b is), slice_get_within p i b is, map-append last_of (take i p), get_or_from_slice_get p i b b is)
