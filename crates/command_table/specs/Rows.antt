-- The rows of a table of commands, and which words match one.
-- Stated by: command_table, front_top, mcg6_front_top. Used by: front_words.
use Rattle.std.specs.Prelude.{ℕ, ◌&&◌, ◌||◌, not, List, [], ◌∷◌, drop, length, nat_eq, nat_le, Bool, true, false, if◌then◌else◌, bytes_eq}
use Rattle.std.specs.List.{list_any, starts_with}
use Rattle.line_text.specs.Common.{is_number, value_of}

-- a word of a row: this text; the name of a file, whatever it is; one of these choices, or one of
-- these beginnings with a number behind it; or a number in a range. Each but the first has a name
-- by which it is shown, and what is said where it is missing; the last two have a note that says
-- which words fit
pub data Word : Type 0 where
  Literal : (text : List ℕ) → Word
  File : (shown need : List ℕ) → Word
  OneOf : (shown : List ℕ) (choices counted : List (List ℕ)) (note need : List ℕ) → Word
  Number : (shown : List ℕ) (least most : ℕ) (note need : List ℕ) → Word

-- a row: the command, the words behind it, those that may be left out, and its line of the usage
pub record Row : Type 0 where
  pub command : List ℕ
  pub words : List Word
  pub optional : List Word
  pub line : List ℕ

-- the word is this beginning with a number behind it
abbrev pub is_counted : List ℕ → List ℕ → Bool
is_counted word beginning = starts_with nat_eq word beginning && is_number (drop (length beginning) word)

-- the word is one of the choices, or one of these beginnings with a number behind it
abbrev pub is_one_of : (choices counted : List (List ℕ)) → List ℕ → Bool
is_one_of choices counted word = list_any (λ choice. bytes_eq word choice) choices || list_any (λ beginning. is_counted word beginning) counted

-- the word is a number in this range
abbrev pub is_number_in : (least most : ℕ) → List ℕ → Bool
is_number_in least most word = is_number word && (nat_le least (value_of word) && nat_le (value_of word) most)

-- a word fits one of a row
abbrev pub fits_word : Word → List ℕ → Bool
fits_word (Literal text) word = bytes_eq word text
fits_word (File shown need) word = true
fits_word (OneOf shown choices counted note need) word = is_one_of choices counted word
fits_word (Number shown least most note need) word = is_number_in least most word

-- the word is another than this text of a row, so that the row is not meant
abbrev pub is_other : Word → List ℕ → Bool
is_other (Literal text) word = not (bytes_eq word text)
is_other (File shown need) word = false
is_other (OneOf shown choices counted note need) word = false
is_other (Number shown least most note need) word = false

-- what is said where the word is missing
abbrev pub word_need : Word → List ℕ
word_need (Literal text) = text
word_need (File shown need) = need
word_need (OneOf shown choices counted note need) = need
word_need (Number shown least most note need) = need

-- the note on the words that fit this one; the word itself if there is none
abbrev pub word_meaning : Word → List ℕ
word_meaning (Literal text) = text
word_meaning (File shown need) = shown
word_meaning (OneOf shown choices counted note need) = note
word_meaning (Number shown least most note need) = note

-- words fit those of a row that may be left out: each of these takes the next word if that fits
abbrev pub fit_optional : List Word → List (List ℕ) → Bool
fit_optional [] [] = true
fit_optional [] (word ∷ words) = false
fit_optional (wanted ∷ row) [] = true
fit_optional (wanted ∷ row) (word ∷ words) = if fits_word wanted word then fit_optional row words else fit_optional row (word ∷ words)

-- words fit those of a row, and then those that may be left out
abbrev pub fit : List Word → List Word → List (List ℕ) → Bool
fit [] optional words = fit_optional optional words
fit (wanted ∷ row) optional [] = false
fit (wanted ∷ row) optional (word ∷ words) = fit row optional words && fits_word wanted word

-- the words match a row
abbrev pub matches : Row → List (List ℕ) → Bool
matches row [] = false
matches row (word ∷ words) = fit row.words row.optional words && bytes_eq word row.command

-- they match one of the rows
abbrev pub matches_a_row : List Row → List (List ℕ) → Bool
matches_a_row rows words = list_any (λ row. matches row words) rows
