-- A note that is not empty is the one that is said.
-- Idea: two cases; the length of an empty note is 0, which the test rules out.
use Rattle.std.proofs.Common.{◌≡◌, ◌==◌, ℕ, List, [], ◌∷◌, Bool, false, length, refl, arith}
use Rattle.std.proofs.lemmas.Bool.Decides.{nat_tests}
use Rattle.front_words.specs.Openings.{note_or}

pub opened : (note other : List ℕ) (empty : Bool) → empty ≡ (length note == 0) → empty ≡ false → note_or note other ≡ note
opened [] other empty is unmet = let wrong : ⊥ = grind (arith, nat_tests, is, unmet) in absurd wrong
opened (byte ∷ note) other empty is unmet = refl
