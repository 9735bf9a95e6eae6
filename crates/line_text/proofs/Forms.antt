-- The first words of a line are compared with keywords pair by pair, as far as the shorter list
-- goes: a pair that differs decides, and so does a keyword to which no word is left.
use Rattle.std.proofs.Common.{◌≡◌, ℕ, ◌<◌, ◌≤◌, List, [], ◌∷◌, length, false, refl, arith, bytes_eq}
use Rattle.std.specs.Borrow.{Bor}
use Rattle.std.specs.List.{list_all, zip}
use Rattle.std.proofs.lemmas.Bool.{and_right}
use Rattle.line_text.specs.Common.{begin_with, texts_of}

pub begin_with-zip : (words keywords : List (Bor (List ℕ))) → length keywords ≤ length words → list_all (λ pair. bytes_eq pair.0.now pair.1.now) (zip words keywords) ≡ begin_with (texts_of words) (texts_of keywords)
begin_with-zip [] [] enough = refl
begin_with-zip [] (keyword ∷ keywords) enough = absurd (omega arith)
begin_with-zip (word ∷ words) [] enough = refl
begin_with-zip (word ∷ words) (keyword ∷ keywords) enough = grind (arith, begin_with-zip words keywords (omega arith))

pub begin_with-short : (words keywords : List (Bor (List ℕ))) → length words < length keywords → begin_with (texts_of words) (texts_of keywords) ≡ false
begin_with-short words [] short = absurd (omega arith)
begin_with-short [] (keyword ∷ keywords) short = refl
begin_with-short (word ∷ words) (keyword ∷ keywords) short = grind (arith, begin_with-short words keywords (omega arith), and_right (bytes_eq word.now keyword.now) false refl)
