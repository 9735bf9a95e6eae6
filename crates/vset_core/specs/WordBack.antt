-- A set is determined by its members: the word of a set can be computed from their list.
-- Stated by: vset_core.
use Rattle.std.specs.Prelude.{◌≡◌, ℕ, ◌<◌, ◌^◌}
use Rattle.std.proofs.Common.{ap}
use Rattle.vset_core.specs.Words.{members, word_of_list}
use Rattle.vset_core.specs.WordLaws.{word_of_list-members}
use Rattle.vset_core.specs.declared.vertex_set.VSet.TheInside.{Inside}

-- a set of 128 bits is equal to the one made from its list of members
pub word-members : (set : Inside) → set.word < 2 ^ 128 → record { word = word_of_list (members set.word) } ≡ set
word-members set fits = ap (λ (w : ℕ). record { word = w }) (word_of_list-members set.word fits)
