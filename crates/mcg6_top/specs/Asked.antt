-- How the code's command is seen.
-- Stated by: mcg6_top, mcg6_front_top.
use Rattle.std.specs.Prelude.{ℕ, List, Option, option_map}
use Rattle.std.specs.Borrow.{Bor}
use Rattle.mcg6_top.specs.Commands.{Mcg6Command, ListCommand, Answer, Encode}
use Rattle.mcg6_top.specs.declared.command.Mcg6Command.{Mcg6Command as Coded}
use Rattle.mcg6_top.specs.declared.command.Mcg6Command.TheVariants as coded
use Rattle.mcg6_top.specs.declared.command.ListCommand.{ListCommand as CodedList}

-- the bytes of a name, if there is one
abbrev pub text_of : Option (Bor (List ℕ)) → Option (List ℕ)
text_of name = option_map (λ text. text.now) name

-- the command on a list with the name's bytes
abbrev pub list_asked : CodedList → ListCommand
list_asked list = record { query = list.query; at_bad = list.at_bad; file = text_of list.file }

-- the command with the name's bytes
abbrev pub asked : Coded → Mcg6Command
asked (coded.Answer list) = Answer (list_asked list)
asked (coded.Encode file) = Encode file.now
