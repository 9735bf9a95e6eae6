-- What is said of a run that could not write all of its output, or had too little memory.
-- Stated by: front_words. Used by: front_top, mcg6_front_top.
use Rattle.std.specs.Prelude.{ℕ, List, ◌++◌, codes}
use Rattle.front_words.specs.declared.texts.TheConstants as texts

-- the output could not be written whole
abbrev pub lost_text : (program : List ℕ) → List ℕ
lost_text program = program ++ (texts.LOST.now ++ codes "\n")

-- memory ran out before anything was written
abbrev pub nothing_written_text : (program : List ℕ) → List ℕ
nothing_written_text program = program ++ (texts.NOTHING_WRITTEN.now ++ codes "\n")

-- memory ran out after the first lines of a list
abbrev pub first_lines_text : (program : List ℕ) → List ℕ
first_lines_text program = program ++ (texts.FIRST_LINES.now ++ codes "\n")
