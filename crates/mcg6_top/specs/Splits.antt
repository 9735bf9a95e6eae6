-- A list that comes after other lines: its bad lines have greater numbers there.
-- Stated by: mcg6_top.
use Rattle.std.specs.Prelude.{ℕ, ◌+◌}
use Rattle.mcg6_reader.specs.declared.ending.BadLine.{BadLine}
use Rattle.mcg6_reader.specs.declared.ending.InputEnding.{InputEnding}
use Rattle.mcg6_reader.specs.declared.ending.InputEnding.TheVariants.{Done, Bad, ReadFault, WriteFault, Memory}

-- the report on a bad line, where so many lines come before the list
abbrev pub found_behind : ℕ → BadLine → BadLine
found_behind count found = record found { number = count + found.number }

-- the same ending of a list, where so many lines come before it
abbrev pub ending_behind : ℕ → InputEnding → InputEnding
ending_behind count Done = Done
ending_behind count (Bad found) = Bad (found_behind count found)
ending_behind count ReadFault = ReadFault
ending_behind count WriteFault = WriteFault
ending_behind count Memory = Memory
