-- What is said of arguments that cannot be read.
-- Stated by: front_words.
use Rattle.std.specs.Prelude.{ℕ, List, ◌++◌, codes, decimal}
use Rattle.arguments.specs.declared.refusal.ArgumentFault.{ArgumentFault}
use Rattle.arguments.specs.declared.refusal.ArgumentFault.TheVariants.{Memory, NotText}
use Rattle.front_words.specs.Endings.{nothing_written_text}
use Rattle.front_words.specs.Showing.{shown}
use Rattle.front_words.specs.declared.texts.TheConstants as texts

-- the argument at that place, counted from 1, is not UTF-8, and its bytes
abbrev pub not_text_text : (program : List ℕ) (place : ℕ) (bytes : List ℕ) → List ℕ
not_text_text program place bytes =
    program ++ (texts.ARGUMENT.now ++ (decimal place ++ (texts.NOT_UTF8.now ++ (shown 4096 bytes ++ codes "\n"))))

-- why the arguments were not read
abbrev pub unread_arguments_text : (program : List ℕ) → ArgumentFault → List ℕ
unread_arguments_text program Memory = nothing_written_text program
unread_arguments_text program (NotText place bytes) = not_text_text program place bytes.items
