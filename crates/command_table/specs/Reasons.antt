-- Why words match no row of a table.
-- Stated by: command_table, front_words. Used by: mcg6_front_top.
use Rattle.std.specs.Prelude.{ℕ, List, [], ◌∷◌, if◌then◌else◌, Option, Some, None, bytes_eq}
use Rattle.command_table.specs.Rows.{Word, fits_word, is_other, Row}
use Rattle.command_table.specs.RowsSeen.{word_seen}
use Rattle.command_table.specs.declared.reasons.Mismatch.TheVariants as code

-- no row has such a first word, or this row is not meant; there are too many words; this word is
-- missing; or a word does not fit this one
pub data Mismatch : Type 0 where
  Unknown : Mismatch
  TooMany : Mismatch
  TooFew : (missing : Word) → Mismatch
  Wrong : (wanted : Word) → Mismatch

-- the reason as it is seen
abbrev pub reason_seen : code.the_data → Mismatch
reason_seen code.Unknown = Unknown
reason_seen code.TooMany = TooMany
reason_seen (code.TooFew missing) = TooFew (word_seen missing)
reason_seen (code.Wrong wanted) = Wrong (word_seen wanted)

-- a word that may be left out is wrong if the words without it do not fit either; if it is another
-- than the text of a row, it is why these do not
abbrev pub wrong_unless : Word → (word : List ℕ) → Option Mismatch → Option Mismatch
wrong_unless wanted word None = None
wrong_unless wanted word (Some reason) = if is_other wanted word then Some reason else Some (Wrong wanted)

-- why words do not fit those of a row that may be left out, if they do not
abbrev pub why_of_optional : List Word → List (List ℕ) → Option Mismatch
why_of_optional [] [] = None
why_of_optional [] (word ∷ words) = Some TooMany
why_of_optional (wanted ∷ row) [] = None
why_of_optional (wanted ∷ row) (word ∷ words) =
    if fits_word wanted word then why_of_optional row words else wrong_unless wanted word (why_of_optional row (word ∷ words))

-- a number of words that does not fit comes before a word that does not
abbrev pub wrong_behind : Word → (word : List ℕ) → Option Mismatch → Option Mismatch
wrong_behind wanted word None = if fits_word wanted word then None else Some (Wrong wanted)
wrong_behind wanted word (Some Unknown) = if fits_word wanted word then Some Unknown else Some (Wrong wanted)
wrong_behind wanted word (Some TooMany) = Some TooMany
wrong_behind wanted word (Some (TooFew missing)) = Some (TooFew missing)
wrong_behind wanted word (Some (Wrong other)) = if fits_word wanted word then Some (Wrong other) else Some (Wrong wanted)

-- the same, and another word than the text of a row comes before all: that row is not meant
abbrev pub wrong_unless_other : Word → (word : List ℕ) → Option Mismatch → Option Mismatch
wrong_unless_other wanted word behind = if is_other wanted word then Some Unknown else wrong_behind wanted word behind

-- why words do not fit those of a row, if they do not
abbrev pub why_of_words : List Word → List Word → List (List ℕ) → Option Mismatch
why_of_words [] optional words = why_of_optional optional words
why_of_words (wanted ∷ row) optional [] = Some (TooFew wanted)
why_of_words (wanted ∷ row) optional (word ∷ words) = wrong_unless_other wanted word (why_of_words row optional words)

-- why words do not match a row, if they do not
abbrev pub why_of_row : Row → List (List ℕ) → Option Mismatch
why_of_row row [] = Some Unknown
why_of_row row (word ∷ words) = if bytes_eq word row.command then why_of_words row.words row.optional words else Some Unknown

-- the reason of the nearer of two rows: none if one is matched, and else too few words, a wrong
-- word, too many words, in this order
abbrev pub nearer : Option Mismatch → Option Mismatch → Option Mismatch
nearer None other = None
nearer (Some reason) None = None
nearer (Some Unknown) (Some other) = Some other
nearer (Some (TooFew missing)) (Some other) = Some (TooFew missing)
nearer (Some (Wrong wanted)) (Some Unknown) = Some (Wrong wanted)
nearer (Some (Wrong wanted)) (Some TooMany) = Some (Wrong wanted)
nearer (Some (Wrong wanted)) (Some (TooFew missing)) = Some (TooFew missing)
nearer (Some (Wrong wanted)) (Some (Wrong other)) = Some (Wrong wanted)
nearer (Some TooMany) (Some Unknown) = Some TooMany
nearer (Some TooMany) (Some TooMany) = Some TooMany
nearer (Some TooMany) (Some (TooFew missing)) = Some (TooFew missing)
nearer (Some TooMany) (Some (Wrong wanted)) = Some (Wrong wanted)

-- why words match none of the rows, if they match none
abbrev pub why_unmatched : List Row → List (List ℕ) → Option Mismatch
why_unmatched [] words = Some Unknown
why_unmatched (row ∷ rows) words = nearer (why_of_row row words) (why_unmatched rows words)
