-- How the code's rows are seen.
-- Stated by: command_table, front_words.
use Rattle.std.specs.Prelude.{ℕ, List, map}
use Rattle.std.specs.Borrow.{Bor}
use Rattle.command_table.specs.Rows.{Word, Literal, File, OneOf, Number, Row}
use Rattle.command_table.specs.declared.rows.RowWord.TheVariants as code
use Rattle.command_table.specs.declared.rows.Row.{Row as Coded}

-- texts as their bytes
abbrev pub texts_seen : List (Bor (List ℕ)) → List (List ℕ)
texts_seen texts = map (λ text. text.now) texts

-- a word of the code, with each text as its bytes
abbrev pub word_seen : code.the_data → Word
word_seen (code.Literal text) = Literal text.now
word_seen (code.File shown need) = File shown.now need.now
word_seen (code.OneOf shown choices counted note need) = OneOf shown.now (texts_seen choices.now) (texts_seen counted.now) note.now need.now
word_seen (code.Number shown least most note need) = Number shown.now least most note.now need.now

-- a row of the code, with its texts as their bytes and its words as they are seen
abbrev pub row_seen : Coded → Row
row_seen row = record {
  command = row.command.now;
  words = map word_seen row.words.now;
  optional = map word_seen row.optional.now;
  line = row.line.now;
}
