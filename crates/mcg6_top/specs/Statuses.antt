-- The statuses, their codes, and the endings of runs.
-- Stated by: mcg6_top, mcg6_front_top.
use Rattle.std.specs.Prelude.{ℕ, List, [], ◌∷◌, Option, Some, None}
use Rattle.mcg6_reader.specs.declared.ending.InputEnding.{InputEnding}
use Rattle.mcg6_reader.specs.declared.ending.InputEnding.TheVariants as ending
use Rattle.mcg6_reader.specs.declared.ending.BadLine.{BadLine}
use Rattle.mcg6_top.specs.declared.status.ListRunEnding.{ListRunEnding}
use Rattle.mcg6_top.specs.declared.status.ListRunEnding.TheVariants.{Answered, Encoded}
use Rattle.mcg6_top.specs.declared.status.ListStatus.{ListStatus}
use Rattle.mcg6_top.specs.declared.status.ListStatus.TheVariants.{Done, Usage, ReadFault, BadInput, WriteFault, Memory}

-- the code with which the program ends
abbrev pub code_of : ListStatus → ℕ
code_of Done = 0
code_of Usage = 2
code_of ReadFault = 3
code_of BadInput = 4
code_of WriteFault = 5
code_of Memory = 6

-- the status of a list that ended so, with these reports on bad lines that were skipped
abbrev pub status_after : InputEnding → List BadLine → ListStatus
status_after ending.Done [] = Done
status_after ending.Done (found ∷ founds) = BadInput
status_after (ending.Bad found) founds = BadInput
status_after ending.ReadFault founds = ReadFault
status_after ending.WriteFault founds = WriteFault
status_after ending.Memory founds = Memory

-- the status of a graph file whose encoding ended so
abbrev pub status_encoded : InputEnding → ListStatus
status_encoded ending.Done = Done
status_encoded (ending.Bad found) = BadInput
status_encoded ending.ReadFault = ReadFault
status_encoded ending.WriteFault = WriteFault
status_encoded ending.Memory = Memory

-- the status of a run that ended so
abbrev pub status_at : ListRunEnding → ListStatus
status_at (Answered list end) = status_after end.ending end.skipped.items
status_at (Encoded file ending) = status_encoded ending

-- the same; with no end the words matched no row
abbrev pub status_in : Option ListRunEnding → ListStatus
status_in None = Usage
status_in (Some end) = status_at end
