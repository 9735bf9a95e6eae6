-- The bad lines that were skipped are named one after another.
-- What is left of a list from a place on is the line at that place and what is left after it.
use Rattle.std.proofs.Common.{◌≡◌, ℕ, ◌+◌, ◌<◌, List, ◌++◌, length, drop, get_or, ap, subst, sym, add-one, drop-cons}
use Rattle.front_words.specs.ListMessages.{bad_line_text}
use Rattle.mcg6_top.specs.from_mcg6_reader.declared.ending.BadLine.{BadLine}
use Rattle.mcg6_front_top.specs.Words.{program, skipped_words}

skipped-first : (skipped : List BadLine) (i : ℕ) (d : BadLine) → i < length skipped →
    skipped_words (drop i skipped)
    ≡ bad_line_text program (get_or skipped i d).number (get_or skipped i d).kind (get_or skipped i d).text.items ++ skipped_words (drop (i + 1) skipped)
skipped-first skipped i d within = rw add-one (ap skipped_words (drop-cons skipped i d within))

-- the same, for the line that was found there
pub skipped-item : (skipped : List BadLine) (i : ℕ) (found : BadLine) → i < length skipped → found ≡ get_or skipped i found →
    skipped_words (drop i skipped) ≡ bad_line_text program found.number found.kind found.text.items ++ skipped_words (drop (i + 1) skipped)
skipped-item skipped i found within is =
    subst (λ (line : BadLine). skipped_words (drop i skipped) ≡ bad_line_text program line.number line.kind line.text.items ++ skipped_words (drop (i + 1) skipped))
    (sym is) (skipped-first skipped i found within)
