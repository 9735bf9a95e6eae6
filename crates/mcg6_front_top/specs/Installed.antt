-- How the program ends, with what it was given and what it printed.
-- Stated by: mcg6_front_top.
use Rattle.std.specs.Prelude.{◌≡◌, ℕ, List, [], Bool, true, false, Option, None}
use Rattle.mcg6_encoder.specs.from_outside.Common.{HasSaid, LineState, PrintState, ReadState}
use Rattle.mcg6_top.specs.Common.{RowGives, code_of, command_of, file_named_by, status_in}
use Rattle.mcg6_top.specs.declared.status.ListStatus.{ListStatus}
use Rattle.mcg6_top.specs.declared.status.ListRunEnding.{ListRunEnding}
use Rattle.front_words.specs.Answers.{answer_of}
use Rattle.front_words.specs.Saying.{IsSaid, WritesWhole}
use Rattle.front_words.specs.declared.programs.Program.TheVariants.{Mcg6}
use Rattle.mcg6_front_top.specs.Words.{message_words}
use Rattle.mcg6_front_top.specs.declared.clues.Clues.{Clues}
use Rattle.mcg6_front_top.specs.declared.ending.ListMessage.{ListMessage}
use Rattle.mcg6_front_top.specs.declared.ending.ListMessage.TheVariants.{Ending, Nothing}

-- a stream to which nothing was said yet
abbrev pub nothing_said : LineState
nothing_said = record { printed = []; held = []; faults = 0 }

-- the program ended so on these words: with this exit status, these bytes read and these printed.
-- With words that are not answered at once, the file that they name was opened, or the standard
-- input, and what was printed is what they ask of what was read. One message was said, once: what
-- the ending of the run means, unless it was to be quiet
pub record EndsOn (words : List (List ℕ)) (code : ℕ) (source : ReadState) (sink : PrintState) (errors : LineState) : Type 0 where
  pub status : ListStatus
  pub is_code : code ≡ code_of status
  pub opened : answer_of Mcg6 words ≡ None → source.name ≡ file_named_by words
  pub gives : answer_of Mcg6 words ≡ None → RowGives (command_of words) status source.read sink.printed
  pub is_quiet : Bool
  pub message : ListMessage
  pub speaks : answer_of Mcg6 words ≡ None → is_quiet ≡ false → (ending : Option ListRunEnding) × (message ≡ Ending ending) × (status ≡ status_in ending)
  pub quiet : is_quiet ≡ true → message ≡ Nothing
  pub clues : Clues
  pub said : IsSaid (λ (k : LineState). None) HasSaid (λ (k : LineState). k.faults) (message_words words message clues) nothing_said errors
  -- a message is whole lines: if it was said whole, it is what standard error took, and nothing of it is held
  pub heard : WritesWhole HasSaid (message_words words message clues) nothing_said errors → (errors.held ≡ []) × (errors.printed ≡ message_words words message clues)
