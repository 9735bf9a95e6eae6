-- What is said of words that match no row of a table: why, and the lines of the command.
-- Stated by: front_words. Used by: front_top, mcg6_front_top.
use Rattle.std.specs.Prelude.{ℕ, List, [], ◌∷◌, ◌++◌, ◌&&◌, ◌||◌, Bool, true, false, codes, if◌then◌else◌, Option, None, Some, bytes_eq}
use Rattle.command_table.specs.Pages.{command_lines}
use Rattle.command_table.specs.Reasons.{Mismatch, Unknown, TooMany, TooFew, Wrong, why_unmatched}
use Rattle.command_table.specs.Rows.{Word, Literal, File, OneOf, Number, fits_word, word_meaning, word_need}
use Rattle.front_words.specs.Answers.{is_help}
use Rattle.front_words.specs.Programs.{name_of, program_rows, program_usage}
use Rattle.front_words.specs.Showing.{shown}
use Rattle.front_words.specs.declared.programs.Program.{Program}
use Rattle.front_words.specs.declared.texts.TheConstants as texts

-- the words match no row for this reason
abbrev pub some_reason_text : (program command : List ℕ) → Mismatch → List ℕ
some_reason_text program command Unknown =
    program ++ (texts.NO_COMMAND.now ++ (shown 60 command ++ (codes "; " ++ (program ++ (texts.HELP_LISTS.now ++ codes "\n")))))
some_reason_text program command TooMany = program ++ (texts.TOO_MANY.now ++ (shown 60 command ++ codes "\n"))
some_reason_text program command (TooFew missing) =
    program ++ (codes ": " ++ (shown 60 command ++ (texts.NEEDS.now ++ (word_need missing ++ codes "\n"))))
some_reason_text program command (Wrong wanted) = program ++ (codes ": " ++ (word_meaning wanted ++ codes "\n"))

-- why the words match no row; nothing if they match one
abbrev pub mismatch_text : (program command : List ℕ) → Option Mismatch → List ℕ
mismatch_text program command None = []
mismatch_text program command (Some reason) = some_reason_text program command reason

-- the word of a row is one of several
abbrev pub is_choice : Word → Bool
is_choice (Literal text) = false
is_choice (File shown need) = false
is_choice (OneOf shown choices counted note need) = true
is_choice (Number shown least most note need) = false

-- there are two words behind the command, and one of them fits this choice, so that it stands in
-- the place of the other
abbrev pub is_exchanged : Word → (words : List (List ℕ)) → Bool
is_exchanged wanted [] = false
is_exchanged wanted (command ∷ []) = false
is_exchanged wanted (command ∷ word ∷ []) = false
is_exchanged wanted (command ∷ word ∷ next ∷ []) = is_choice wanted && (fits_word wanted word || fits_word wanted next)
is_exchanged wanted (command ∷ word ∷ next ∷ fourth ∷ words) = false

-- two words are exchanged; nothing if they are not
abbrev pub exchange_text : (program : List ℕ) → Option Mismatch → (words : List (List ℕ)) → List ℕ
exchange_text program None words = []
exchange_text program (Some Unknown) words = []
exchange_text program (Some TooMany) words = []
exchange_text program (Some (TooFew missing)) words = []
exchange_text program (Some (Wrong wanted)) words = if is_exchanged wanted words then program ++ (texts.EXCHANGED.now ++ codes "\n") else []

-- the same, and the lines of the command
abbrev pub behind_text : Program → (command : List ℕ) → Option Mismatch → (words : List (List ℕ)) → List ℕ
behind_text program command reason words = exchange_text (name_of program) reason words ++ command_lines command (program_rows program)

-- why the words match no row, whether two of them are exchanged, and the lines of the command
abbrev pub misuse_text : Program → (command : List ℕ) → (words : List (List ℕ)) → List ℕ
misuse_text program command words =
    mismatch_text (name_of program) command (why_unmatched (program_rows program) words) ++ behind_text program command (why_unmatched (program_rows program) words) words

-- the command that is meant: the first word, or the one behind a word that asks for help
abbrev pub meant : List (List ℕ) → Option (List ℕ)
meant [] = None
meant (word ∷ []) = Some word
meant (word ∷ next ∷ []) = if is_help word then Some next else Some word
meant (word ∷ next ∷ third ∷ words) = Some word

-- the same where it is this one, if it is any
abbrev pub meant_text : Program → (words : List (List ℕ)) → Option (List ℕ) → List ℕ
meant_text program words None = program_usage program
meant_text program words (Some command) = misuse_text program command words

-- the word that asks for help on more than one command, if one does
abbrev pub help_beyond : List (List ℕ) → Option (List ℕ)
help_beyond [] = None
help_beyond (word ∷ []) = None
help_beyond (word ∷ next ∷ []) = None
help_beyond (word ∷ next ∷ third ∷ words) = if is_help word then Some word else None

-- there are too many words behind the one that asks for help
abbrev pub help_text : (program word : List ℕ) → List ℕ
help_text program word =
    program ++ (texts.TOO_MANY.now ++ (shown 60 word ++ (texts.ONE_COMMAND.now ++ codes "\n")))

-- the same where one asks so, and else the text
abbrev pub unless_help : Option (List ℕ) → (program text : List ℕ) → List ℕ
unless_help None program text = text
unless_help (Some word) program text = help_text program word

-- the word that asks for the version, if there are more words
abbrev pub version_beyond : List (List ℕ) → Option (List ℕ)
version_beyond [] = None
version_beyond (word ∷ []) = None
version_beyond (word ∷ next ∷ words) = if bytes_eq word (codes "--version") then Some word else None

-- there are words behind the one that asks for the version
abbrev pub version_text : (program word : List ℕ) → List ℕ
version_text program word = program ++ (texts.TOO_MANY.now ++ (shown 60 word ++ codes "\n"))

-- the same where there are, and else the text
abbrev pub unless_version : Option (List ℕ) → (program text : List ℕ) → List ℕ
unless_version None program text = text
unless_version (Some word) program text = version_text program word

-- two words both ask for help
abbrev pub asks_twice : List (List ℕ) → Bool
asks_twice [] = false
asks_twice (word ∷ []) = false
asks_twice (word ∷ next ∷ []) = is_help word && is_help next
asks_twice (word ∷ next ∷ third ∷ words) = false

-- help is no command to ask for help on
abbrev pub twice_text : (program : List ℕ) → List ℕ
twice_text program = program ++ (texts.HELP_TAKES.now ++ (program ++ (texts.HELP_LISTS.now ++ codes "\n")))

-- help is asked for twice; or why the words match no row, and the lines of the command that is
-- meant; and the usage where there are no words
abbrev pub known_text : Program → (words : List (List ℕ)) → List ℕ
known_text program words = if asks_twice words then twice_text (name_of program) else meant_text program words (meant words)

-- there are words behind `--version`, or else the same
abbrev pub asked_text : Program → (words : List (List ℕ)) → List ℕ
asked_text program words = unless_version (version_beyond words) (name_of program) (known_text program words)

-- what is said of the words: that they ask for help on more than one command, or else the same
abbrev pub unmatched_text : Program → (words : List (List ℕ)) → List ℕ
unmatched_text program words = unless_help (help_beyond words) (name_of program) (asked_text program words)
