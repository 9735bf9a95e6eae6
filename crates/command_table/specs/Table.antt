-- The two tables of commands, of `mcg` and of `mcg6`, and the usage that is made of a table.
-- Stated by: command_table, front_top, mcg6_front_top. Used by: front_words.
use Rattle.std.specs.Prelude.{ℕ, ◌-◌, List, [], ◌∷◌, ◌++◌, length, map, replicate, codes, decimal}
use Rattle.command_table.specs.Rows.{Word, Literal, File, OneOf, Number, Row}

-- a word as it is shown
abbrev pub word_form : Word → List ℕ
word_form (Literal text) = text
word_form (File shown need) = shown
word_form (OneOf shown choices counted note need) = shown
word_form (Number shown least most note need) = shown

-- words as they are shown, each after a blank
abbrev pub words_form : List Word → List ℕ
words_form [] = []
words_form (word ∷ words) = codes " " ++ (word_form word ++ words_form words)

-- words that may be left out are shown in brackets
abbrev pub optional_form : List Word → List ℕ
optional_form [] = []
optional_form (word ∷ words) = codes " [" ++ (word_form word ++ (codes "]" ++ optional_form words))

-- a command as it is shown: with its words, and those that may be left out
abbrev pub form_of : List ℕ → List Word → List Word → List ℕ
form_of command words optional = command ++ (words_form words ++ optional_form optional)

-- a line of the usage: the command with its words, filled up with blanks, and what it is about
abbrev pub usage_line : (form about : List ℕ) → List ℕ
usage_line form about = codes "  " ++ (form ++ (replicate (29 - length form) 32 ++ (about ++ codes "\n")))

-- the row of a command with these words: its line in the usage is made of them
abbrev pub row_with : List ℕ → List Word → List Word → (about : List ℕ) → Row
row_with command words optional about = record {
  command = command;
  words = words;
  optional = optional;
  line = usage_line (form_of command words optional) about;
}

-- choices in words, as `a, b or c`
abbrev pub choices_text : List (List ℕ) → List ℕ
choices_text [] = []
choices_text (choice ∷ []) = choice
choices_text (choice ∷ last ∷ []) = choice ++ (codes " or " ++ last)
choices_text (choice ∷ next ∷ last ∷ choices) = choice ++ (codes ", " ++ choices_text (next ∷ last ∷ choices))

-- one of these, or of the beginnings with a number K behind it
abbrev pub one_of : List ℕ → (choices counted : List (List ℕ)) → (need : List ℕ) → Word
one_of shown choices counted need =
    OneOf shown choices counted (shown ++ (codes " is " ++ choices_text (choices ++ map (λ beginning. beginning ++ codes "K") counted))) need

-- a number in this range
abbrev pub number_from : List ℕ → (least most : ℕ) → (need : List ℕ) → Word
number_from shown least most need = Number shown least most (shown ++ (codes " is " ++ (decimal least ++ (codes " to " ++ decimal most)))) need

-- the notes on words, each a line
abbrev pub word_note : Word → List ℕ
word_note (Literal text) = []
word_note (File shown need) = []
word_note (OneOf shown choices counted note need) = note ++ codes "\n"
word_note (Number shown least most note need) = note ++ codes "\n"

-- the notes on these words, in their order
abbrev pub words_notes : List Word → List ℕ
words_notes [] = []
words_notes (word ∷ words) = word_note word ++ words_notes words

-- the notes on the words of rows, those that may be left out after the others
abbrev pub rows_notes : List Row → List ℕ
rows_notes [] = []
rows_notes (row ∷ rows) = words_notes row.words ++ (words_notes row.optional ++ rows_notes rows)

-- the lines of rows
abbrev pub rows_lines : List Row → List ℕ
rows_lines [] = []
rows_lines (row ∷ rows) = row.line ++ rows_lines rows

-- the usage: a first line, a line for each row, the notes on their words, and some last lines
abbrev pub usage_of : (first : List ℕ) → List Row → (last : List ℕ) → List ℕ
usage_of first rows last = first ++ (rows_lines rows ++ (rows_notes rows ++ last))

-- the words of the tables
abbrev pub file : List Word
file = File (codes "FILE") (codes "a FILE") ∷ []

-- a file after a word that is shown so
abbrev pub file_after : (before shown : List ℕ) → Word
file_after before shown = File shown (codes "a file " ++ (shown ++ (codes " after " ++ before)))

-- the words for an order in which cuts are picked
abbrev pub orders : List (List ℕ)
orders = codes "first" ∷ codes "last" ∷ codes "balanced" ∷ []

-- the properties that stand without a number
abbrev pub properties : List (List ℕ)
properties =
    codes "covered" ∷ codes "uncovered" ∷ codes "perfect" ∷ codes "brick" ∷ codes "brace" ∷
    codes "bicritical" ∷ codes "composite" ∷ []

-- the beginnings of the properties that have a number behind them
abbrev pub counted_properties : List (List ℕ)
counted_properties = codes "bricks=" ∷ codes "braces=" ∷ []

-- what `select` selects by
abbrev pub what : Word
what = one_of (codes "WHAT") properties counted_properties (codes "WHAT: covered, uncovered, perfect, brick, brace, bicritical, composite, bricks=K or braces=K")

-- the table of `mcg`
unfoldable pub rows : List Row
rows =
    row_with (codes "analyse") file [] (codes "the structure of the graph in FILE") ∷
    row_with (codes "convert") file [] (codes "the graph in canonical form, with names for the vertices") ∷
    row_with (codes "analyse6") file [] (codes "what analyse reports, for a graph in graph6") ∷
    row_with (codes "decompose") (File (codes "FILE") (codes "a FILE") ∷ one_of (codes "ORDER") orders [] (codes "an ORDER after FILE: first, last, balanced, or script PICKS") ∷ []) [] (codes "a tight cut decomposition into bricks and braces") ∷
    row_with (codes "decompose") (File (codes "FILE") (codes "a FILE") ∷ Literal (codes "script") ∷ file_after (codes "script") (codes "PICKS") ∷ []) [] (codes "the same, with cuts chosen by PICKS") ∷
    row_with (codes "check") (File (codes "FILE") (codes "a FILE") ∷ file_after (codes "FILE") (codes "TREE") ∷ []) [] (codes "whether TREE is a tight cut decomposition of the graph") ∷
    row_with (codes "checkears") (File (codes "FILE") (codes "a FILE") ∷ file_after (codes "FILE") (codes "EARS") ∷ []) [] (codes "whether EARS is an ear decomposition of the graph") ∷
    row_with (codes "ears") file [] (codes "an ear decomposition of the graph") ∷
    row_with (codes "compare") (File (codes "FILE") (codes "a FILE") ∷ file_after (codes "FILE") (codes "TREE1") ∷ file_after (codes "TREE1") (codes "TREE2") ∷ []) [] (codes "a pairing of the leaves of two decompositions, with moves") ∷
    row_with (codes "script") (File (codes "FILE") (codes "a FILE") ∷ file_after (codes "FILE") (codes "TREE1") ∷ file_after (codes "TREE1") (codes "TREE2") ∷ []) [] (codes "the moves that compare lists, as a file") ∷
    row_with (codes "replay") (File (codes "FILE") (codes "a FILE") ∷ file_after (codes "FILE") (codes "TREE") ∷ file_after (codes "TREE") (codes "MOVES") ∷ []) [] (codes "the decomposition that the moves turn TREE into") ∷
    row_with (codes "grow") (number_from (codes "SEED") 0 999_999_999 (codes "a SEED and PIECES") ∷ number_from (codes "PIECES") 1 16 (codes "PIECES after SEED, 1 to 16") ∷ []) [] (codes "a pseudo-random matching covered cubic graph") ∷ []

-- the words after a query of a list that may have bad lines
abbrev pub skip_file : List Word
skip_file = Literal (codes "skip") ∷ file

-- the table of `mcg6`
unfoldable pub list_rows : List Row
list_rows =
    row_with (codes "kinds") [] skip_file (codes "a line for each graph: its kind, its bricks and its braces") ∷
    row_with (codes "leaves") [] (one_of (codes "ORDER") orders [] (codes "an ORDER") ∷ skip_file) (codes "a line for each leaf of a decomposition, as a graph") ∷
    row_with (codes "elementary") [] skip_file (codes "a line for each elementary component, as a graph") ∷
    row_with (codes "matching") [] skip_file (codes "a line for each graph: a maximum matching, and D, A and C") ∷
    row_with (codes "cuts") [] skip_file (codes "a line for each tight cut that decompose may take first") ∷
    row_with (codes "ears") [] skip_file (codes "a line for each graph: an ear decomposition") ∷
    row_with (codes "graph") [] file (codes "the graph file of one graph, for mcg") ∷
    row_with (codes "select") (what ∷ []) skip_file (codes "the lines whose graph has a property") ∷
    row_with (codes "encode") file [] (codes "the graph6 text of a graph file; parallel edges count once") ∷ []

-- the usage of `mcg`, and that of `mcg6`
unfoldable pub usage_text : List ℕ
usage_text = usage_of (codes "usage: mcg COMMAND ARGUMENT...\n") rows (codes "A file may be a pipe, such as /dev/stdin. FORMATS.md describes the formats and reports.\n")

-- the usage of `mcg6`
unfoldable pub list_usage_text : List ℕ
list_usage_text =
    usage_of (codes "usage: mcg6 COMMAND [ARGUMENT]... <LIST\n") list_rows
    (codes "The list is standard input or FILE, with a graph in graph6 on each line.\nWith skip, bad lines are left out and named on standard error.\nFORMATS.md describes the lines that mcg6 writes.\n")
