-- What is known of each of the two programs.
-- Stated by: front_words. Used by: mcg6_front_top.
use Rattle.std.specs.Prelude.{ℕ, List, codes, Option}
use Rattle.command_table.specs.Pages.{list_page_of, page_of}
use Rattle.command_table.specs.Rows.{Row}
use Rattle.command_table.specs.Table.{list_rows, rows}
use Rattle.front_words.specs.Usage.{list_usage_text, list_version_text, usage_text, version_text}
use Rattle.front_words.specs.declared.programs.Program.{Program}
use Rattle.front_words.specs.declared.programs.Program.TheVariants.{Mcg, Mcg6}

-- the name of a program
abbrev pub name_of : Program → List ℕ
name_of Mcg = codes "mcg"
name_of Mcg6 = codes "mcg6"

-- the rows of its table
abbrev pub program_rows : Program → List Row
program_rows Mcg = rows
program_rows Mcg6 = list_rows

-- its usage
abbrev pub program_usage : Program → List ℕ
program_usage Mcg = usage_text
program_usage Mcg6 = list_usage_text

-- its version
abbrev pub version_of : Program → List ℕ
version_of Mcg = version_text
version_of Mcg6 = list_version_text

-- the page of one of its commands
abbrev pub command_page : Program → (command : List ℕ) → Option (List ℕ)
command_page Mcg command = page_of command
command_page Mcg6 command = list_page_of command
