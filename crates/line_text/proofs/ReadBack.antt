-- What is written is read as it was meant: lines by line feeds, words by spaces, numbers by their
-- digits. Byte by byte, a line feed begins a new line, and any other byte is put at the front of
-- the first line of what follows it.
use Rattle.std.proofs.Common.{◌≡◌, ℕ, ◌+◌, List, [], ◌∷◌, ◌++◌, length, map, filter, Bool, true, false, not, ◌||◌, ◌==◌, cond, Option, Some, None, Ok, refl, sym, ◌∙◌, ap, subst, arith, rules}
use Rattle.std.specs.List.{slice_split, onto_first, list_all, AllByRecursion, All}
use Rattle.std.proofs.lemmas.Bool.{cases_Bool, and_parts, and_from, not-true}
use Rattle.std.proofs.lemmas.List.Folds.{list_all-append}
use Rattle.std.proofs.lemmas.List.Elements.{All-nil, All-cons}
use Rattle.std.proofs.lemmas.List.Splits.{slice_split_at, slice_split_none}
use Rattle.line_text.specs.Common.{is_line_feed, lines_of, unlines, is_closed, is_blank, words_of, unwords, is_word, AreWords, is_skipped, IsSignificant, IsComment, significant_from, significant_lines_of, written, numbered_from, Rules, Begins, finish, Stands}
use Rattle.line_text.proofs.LineCuts.{lines_of-nil, lines_of-feed, lines_of-byte, onto_first-lines_of}

-- no byte of the line is a line feed
abbrev is_one_line : List ℕ → Bool
is_one_line line = list_all (λ byte. not (is_line_feed byte)) line

-- a line before a line feed
lines_of-line : (line rest : List ℕ) → is_one_line line ≡ true → lines_of (line ++ 10 ∷ rest) ≡ line ∷ lines_of rest
lines_of-line [] rest one = lines_of-feed 10 rest refl
lines_of-line (byte ∷ line) rest one =
    let each = and_parts (not (is_line_feed byte)) (is_one_line line) one in
    lines_of-byte byte (line ++ 10 ∷ rest) (not-true _ each.0) ∙ ap (onto_first byte) (lines_of-line line rest each.1)

-- more text after a closed one has lines of its own
pub lines_of-append : (text tail : List ℕ) → is_closed text ≡ true → lines_of (text ++ tail) ≡ lines_of text ++ lines_of tail
lines_of-append [] tail closed = rw lines_of-nil refl
lines_of-append (byte ∷ []) tail closed = grind (arith, lines_of-feed byte tail closed, lines_of-feed byte, lines_of-nil)
lines_of-append (byte ∷ next ∷ text) tail closed = grind (arith, cases_Bool, lines_of-feed, lines_of-byte, onto_first-lines_of, lines_of-append (next ∷ text) tail closed)

-- the lines of a text that is written line by line
pub lines_of-unlines : (lines : List (List ℕ)) → AllByRecursion (λ line. is_one_line line ≡ true) lines → lines_of (unlines lines) ≡ lines
lines_of-unlines [] each = lines_of-nil
lines_of-unlines (line ∷ lines) each = grind (arith, lines_of-line line (unlines lines) each.0, lines_of-unlines lines each.1)

-- such a text is closed
is_closed-feed : (text : List ℕ) → is_closed text ≡ true → is_closed (10 ∷ text) ≡ true
is_closed-feed text closed = grind arith

is_closed-line : (line text : List ℕ) → is_closed text ≡ true → is_closed (line ++ 10 ∷ text) ≡ true
is_closed-line [] text closed = is_closed-feed text closed
is_closed-line (byte ∷ []) text closed = is_closed-feed text closed
is_closed-line (byte ∷ next ∷ line) text closed = is_closed-line (next ∷ line) text closed

pub is_closed-unlines : (lines : List (List ℕ)) → is_closed (unlines lines) ≡ true
is_closed-unlines [] = refl
is_closed-unlines (line ∷ lines) = is_closed-line line (unlines lines) (is_closed-unlines lines)

-- a word contains no line feed and no blank, and it has bytes
abbrev is_one_word : List ℕ → Bool
is_one_word word = list_all (λ byte. not (is_blank byte)) word

plain_byte : (byte : ℕ) → not (is_blank byte || is_line_feed byte) ≡ true → (not (is_blank byte) ≡ true) × (not (is_line_feed byte) ≡ true)
plain_byte byte plain = grind arith

plain_bytes : (word : List ℕ) → list_all (λ byte. not (is_blank byte || is_line_feed byte)) word ≡ true → (is_one_word word ≡ true) × (is_one_line word ≡ true)
plain_bytes [] plain = (refl, refl)
plain_bytes (byte ∷ word) plain =
    let each = and_parts (not (is_blank byte || is_line_feed byte)) _ plain in
    let first = plain_byte byte each.0 in
    let others = plain_bytes word each.1 in
    (and_from _ _ first.0 others.0, and_from _ _ first.1 others.1)

-- words with spaces between them are one line
is_one_line-append : (front back : List ℕ) → is_one_line front ≡ true → is_one_line back ≡ true → is_one_line (front ++ back) ≡ true
is_one_line-append front back first second = list_all-append (λ byte. not (is_line_feed byte)) front back ∙ and_from _ _ first second

is_one_line-word : (word : List ℕ) → is_word word ≡ true → is_one_line word ≡ true
is_one_line-word word is = (plain_bytes word (and_parts _ _ is).1).1

is_one_line-unwords : (words : List (List ℕ)) → AreWords words → is_one_line (unwords words) ≡ true
is_one_line-unwords [] each = refl
is_one_line-unwords (word ∷ []) each = is_one_line-word word each.0
is_one_line-unwords (word ∷ next ∷ words) each = grind (arith, is_one_line-append word, is_one_line-word word each.0, is_one_line-unwords (next ∷ words) each.1)

-- the words of words with spaces between them
blankless : (word : List ℕ) → is_one_word word ≡ true → All (λ byte. is_blank byte ≡ false) word
blankless [] one = All-nil _
blankless (byte ∷ word) one =
    let each = and_parts (not (is_blank byte)) (is_one_word word) one in
    All-cons (λ b. is_blank b ≡ false) byte word (not-true _ each.0) (blankless word each.1)

kept : (word : List ℕ) (words : List (List ℕ)) → is_word word ≡ true → filter (λ run. not (length run == 0)) (word ∷ words) ≡ word ∷ filter (λ run. not (length run == 0)) words
kept word words is = rw (and_parts (not (length word == 0)) _ is).0 refl

blankless-word : (word : List ℕ) → is_word word ≡ true → All (λ byte. is_blank byte ≡ false) word
blankless-word word is = blankless word (plain_bytes word (and_parts _ _ is).1).0

pub words_of-unwords : (words : List (List ℕ)) → AreWords words → words_of (unwords words) ≡ words
unfolding words_of
words_of-unwords [] each = refl
words_of-unwords (word ∷ []) each = grind (arith, slice_split_none is_blank word (blankless-word word each.0), blankless-word word each.0)
words_of-unwords (word ∷ next ∷ words) each =
    ap (filter (λ run. not (length run == 0))) (slice_split_at is_blank word 32 (unwords (next ∷ words)) (blankless-word word each.0) refl)
    ∙ kept word (slice_split is_blank (unwords (next ∷ words))) each.0 ∙ ap (λ ws. word ∷ ws) (words_of-unwords (next ∷ words) each.1)

-- the lines of a written text
pub lines_of-written : (lines : List (List (List ℕ))) → AllByRecursion AreWords lines → lines_of (written lines) ≡ map unwords lines
lines_of-written lines each = lines_of-unlines (map unwords lines) (one_lines lines each) where
  one_lines : (lines : List (List (List ℕ))) → AllByRecursion AreWords lines → AllByRecursion (λ line. is_one_line line ≡ true) (map unwords lines)
  one_lines [] each = tt
  one_lines (words ∷ lines) each = (is_one_line-unwords words each.0, one_lines lines each.1)

-- a line that is not skipped
significant_from-kept : (number : ℕ) (line : List ℕ) (lines : List (List ℕ)) (words : List (List ℕ)) → words_of line ≡ words → is_skipped words ≡ false → significant_from number (line ∷ lines) ≡ record { number = number; words = words } ∷ significant_from (number + 1) lines
unfolding significant_from
significant_from-kept number line lines words are said = grind arith

significant_from-nil : (number : ℕ) → significant_from number [] ≡ []
unfolding significant_from
significant_from-nil number = refl

significant_from-written : (number : ℕ) (lines : List (List (List ℕ))) → AllByRecursion IsSignificant lines → significant_from number (map unwords lines) ≡ numbered_from number lines
significant_from-written number [] each = significant_from-nil number
significant_from-written number (words ∷ lines) each = grind (arith, significant_from-kept, words_of-unwords, kept, significant_from-written (number + 1) lines each.1)

AreWords-each : (lines : List (List (List ℕ))) → AllByRecursion IsSignificant lines → AllByRecursion AreWords lines
AreWords-each [] each = tt
AreWords-each (words ∷ lines) each = (each.0.each, AreWords-each lines each.1)

-- the significant lines of a written text are those that were written, in order
pub significant_lines_of-written : (lines : List (List (List ℕ))) → AllByRecursion IsSignificant lines → significant_lines_of (written lines) ≡ numbered_from 1 lines
significant_lines_of-written lines each = grind (arith, lines_of-written lines (AreWords-each lines each), significant_from-written 1 lines each)

pub words-numbered_from : (number : ℕ) (lines : List (List (List ℕ))) → map (λ line. line.words) (numbered_from number lines) ≡ lines
words-numbered_from number [] = refl
words-numbered_from number (words ∷ lines) = ap (λ ls. words ∷ ls) (words-numbered_from (number + 1) lines)

-- lines that are skipped add nothing
abbrev AreSkipped : List (List ℕ) → Type 0
AreSkipped lines = AllByRecursion (λ line. is_skipped (words_of line) ≡ true) lines

significant_from-comments : (number : ℕ) (lines comments : List (List ℕ)) → AreSkipped comments → significant_from number (lines ++ comments) ≡ significant_from number lines
unfolding significant_from
significant_from-comments number [] [] skipped = refl
significant_from-comments number [] (comment ∷ comments) skipped =
    ap (λ b. cond b (significant_from (number + 1) comments) (record { number = number; words = words_of comment } ∷ significant_from (number + 1) comments)) skipped.0 ∙ significant_from-comments (number + 1) [] comments skipped.1
significant_from-comments number (line ∷ lines) comments skipped = grind (arith, significant_from-comments (number + 1) lines comments skipped)

pub significant_lines_of-comments : (text tail : List ℕ) → is_closed text ≡ true → AreSkipped (lines_of tail) → significant_lines_of (text ++ tail) ≡ significant_lines_of text
significant_lines_of-comments text tail closed skipped = grind (arith, lines_of-append text tail closed, significant_from-comments 1 (lines_of text) (lines_of tail) skipped)

-- the lines of written comments are skipped
AreSkipped-unwords : (comments : List (List (List ℕ))) → AllByRecursion IsComment comments → AreSkipped (map unwords comments)
AreSkipped-unwords [] each = tt
AreSkipped-unwords (words ∷ comments) each = grind (arith, words_of-unwords, AreSkipped-unwords comments each.1)

AreWords-comments : (comments : List (List (List ℕ))) → AllByRecursion IsComment comments → AllByRecursion AreWords comments
AreWords-comments [] each = tt
AreWords-comments (words ∷ comments) each = (each.0.each, AreWords-comments comments each.1)

pub AreSkipped-written : (comments : List (List (List ℕ))) → AllByRecursion IsComment comments → AreSkipped (lines_of (written comments))
AreSkipped-written comments each =
    subst AreSkipped (sym (lines_of-written comments (AreWords-comments comments each))) (AreSkipped-unwords comments each)

-- the format's result for the lines of a text decides what it stands for
module _ {Body Value Kind : Type 0} (rules : Rules Body Value Kind) where
  pub Begins-append : (from : Option Body) (lines : List (List (List ℕ))) (between : Option Body) (more : List (List (List ℕ))) (to : Option Body) → Begins rules from lines between → Begins rules between more to → Begins rules from (lines ++ more) to
  Begins-append from [] between more to begins goes = subst (λ (s : Option Body). Begins rules s more to) begins goes
  Begins-append from (words ∷ lines) between more to begins goes = grind (arith, Begins-append (Some begins.0) lines between more to begins.2 goes)

  pub Stands-written : (lines : List (List (List ℕ))) (reached : Option Body) (value : Value) → AllByRecursion IsSignificant lines → Begins rules None lines reached → finish rules reached ≡ Ok value → Stands rules (written lines) value
  Stands-written lines reached value each begins ends = grind (arith, significant_lines_of-written lines each, words-numbered_from 1 lines)

  pub Stands-comments : (text tail : List ℕ) (value : Value) → is_closed text ≡ true → AreSkipped (lines_of tail) → Stands rules text value → Stands rules (text ++ tail) value
  Stands-comments text tail value closed skipped stands = grind (arith, significant_lines_of-comments text tail closed skipped)

-- lines that are significant, and further ones
pub significant-append : (lines more : List (List (List ℕ))) → AllByRecursion IsSignificant lines → AllByRecursion IsSignificant more → AllByRecursion IsSignificant (lines ++ more)
significant-append [] more first second = second
significant-append (words ∷ lines) more first second = (first.0, significant-append lines more first.1 second)
