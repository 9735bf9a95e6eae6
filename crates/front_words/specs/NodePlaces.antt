-- Where a node of a tree of cuts is: the path to it, and its shore.
-- Stated by: front_words.
use Rattle.std.specs.Prelude.{ℕ, zero, suc, ◌+◌, ◌==◌, Bool, List, [], ◌∷◌, ◌++◌, codes, if◌then◌else◌, decimal, Option, None, Some}
use Rattle.std.specs.List.{list_any}
use Rattle.refusals.specs.declared.places.NodePlace.{NodePlace}
use Rattle.front_words.specs.declared.texts.TheConstants as texts

-- the step is one of these
abbrev pub is_merged : (merged : List ℕ) (step : ℕ) → Bool
is_merged merged step = list_any (λ it. it == step) merged

-- the letter of a step of a path: `m` if the step is one of these, otherwise `k`
abbrev pub step_letter : (merged : List ℕ) (step : ℕ) → List ℕ
step_letter merged step = if is_merged merged step then codes "m" else codes "k"

-- the letters of so many steps, from this one on
unfoldable pub letters_text : (merged : List ℕ) (step count : ℕ) → List ℕ
letters_text merged step zero = []
letters_text merged step (suc count) = step_letter merged step ++ letters_text merged (step + 1) count

-- the path of so many steps from the root
abbrev pub path_text : (depth : ℕ) (merged : List ℕ) → List ℕ
path_text depth merged = if depth == 0 then codes "." else letters_text merged 1 depth

-- each number with one blank before it
abbrev pub spaced_numbers : List ℕ → List ℕ
spaced_numbers [] = []
spaced_numbers (number ∷ numbers) = (codes " " ++ decimal number) ++ spaced_numbers numbers

-- the shore at a node, if the node is no leaf
abbrev pub shore_text : Option (List ℕ) → List ℕ
shore_text None = []
shore_text (Some shore) = texts.SHORE.now ++ spaced_numbers shore

-- the path to a node, and its shore
abbrev pub known_place_text : NodePlace → List ℕ
known_place_text place = texts.PATH.now ++ (path_text place.depth place.merged ++ shore_text place.shore)

-- the same, if they are known
abbrev pub place_text : Option NodePlace → List ℕ
place_text None = []
place_text (Some place) = known_place_text place
