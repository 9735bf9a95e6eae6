-- The words of a line, and the significant lines of a text.
-- Stated by: line_text, graph_text, tree_text, move_text, ear_text, report_text, front_words.
-- Used by: bench_outcomes, bench_reports, bench_top, theorems.
use Rattle.std.specs.Prelude.{◌≡◌, ℕ, ◌+◌, ◌==◌, ◌||◌, ◌&&◌, not, List, [], ◌∷◌, ◌++◌, length, filter, Bool, true, false, if◌then◌else◌, codes, map, slice_index_or, bytes_eq}
use Rattle.std.specs.Borrow.{Bor}
use Rattle.std.specs.List.{slice_split, list_all, AllByRecursion}
use Rattle.line_text.specs.Lines.{is_line_feed, lines_of, unlines}

-- the bytes of words that a program holds as pieces of a text
abbrev pub texts_of : List (Bor (List ℕ)) → List (List ℕ)
texts_of words = map (λ word. word.now) words

-- the space, the tab and the carriage return, bytes 32, 9 and 13
abbrev pub is_blank : ℕ → Bool
is_blank byte = (byte == 32) || ((byte == 9) || (byte == 13))

-- the words of a line: its longest runs of bytes that are not blank
unfoldable pub words_of : List ℕ → List (List ℕ)
words_of line = filter (λ run. not (length run == 0)) (slice_split is_blank line)

-- the word at a place, counted from 0, or the empty word if there is none
abbrev pub word_at : List (List ℕ) → ℕ → List ℕ
word_at words place = slice_index_or words place []

-- whether the words begin with the keywords
abbrev pub begin_with : List (List ℕ) → List (List ℕ) → Bool
begin_with words [] = true
begin_with [] (keyword ∷ keywords) = false
begin_with (word ∷ words) (keyword ∷ keywords) = bytes_eq word keyword && begin_with words keywords

-- whether there are so many words, the first of which are the keywords
unfoldable pub has_form : List (List ℕ) → ℕ → List (List ℕ) → Bool
has_form words count keywords = (length words == count) && begin_with words keywords

-- a line with these words is skipped: there are none, or the first is `c`
abbrev pub is_skipped : List (List ℕ) → Bool
is_skipped [] = true
is_skipped (word ∷ words) = bytes_eq word (codes "c")

-- a line that is not skipped, by its number and its words
pub record SignificantLine : Type 0 where
  pub number : ℕ
  pub words : List (List ℕ)

-- the significant lines among these, the first of which has this number
unfoldable pub significant_from : ℕ → List (List ℕ) → List SignificantLine
significant_from number [] = []
significant_from number (line ∷ lines) =
    if is_skipped (words_of line) then significant_from (number + 1) lines else record { number = number; words = words_of line } ∷ significant_from (number + 1) lines

-- the significant lines of a text, whose lines are numbered from 1
abbrev pub significant_lines_of : List ℕ → List SignificantLine
significant_lines_of text = significant_from 1 (lines_of text)

-- the words, with one space between each and the next
abbrev pub unwords : List (List ℕ) → List ℕ
unwords [] = []
unwords (word ∷ []) = word
unwords (word ∷ next ∷ words) = word ++ 32 ∷ unwords (next ∷ words)

-- the text whose lines have these words
abbrev pub written : List (List (List ℕ)) → List ℕ
written lines = unlines (map unwords lines)

-- a word: nonempty, without blanks and line feeds
abbrev pub is_word : List ℕ → Bool
is_word word = not (length word == 0) && list_all (λ byte. not (is_blank byte || is_line_feed byte)) word

-- all of them are words
abbrev pub AreWords : List (List ℕ) → Type 0
AreWords words = AllByRecursion (λ word. is_word word ≡ true) words

-- the words of a line that is not skipped
pub record IsSignificant (words : List (List ℕ)) : Type 0 where
  pub kept : is_skipped words ≡ false
  pub each : AreWords words

-- the words of a comment, a line that is skipped
pub record IsComment (words : List (List ℕ)) : Type 0 where
  pub skipped : is_skipped words ≡ true
  pub each : AreWords words

-- the lines with these words, numbered one after another
abbrev pub numbered_from : ℕ → List (List (List ℕ)) → List SignificantLine
numbered_from number [] = []
numbered_from number (words ∷ lines) = record { number = number; words = words } ∷ numbered_from (number + 1) lines
