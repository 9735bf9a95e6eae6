-- The version of each program; the usage is that of the tables of commands.
-- Stated by: front_words.
use Rattle.std.specs.Prelude.{ℕ, List}
use Rattle.front_words.specs.declared.table.TheConstants.{LIST_VERSION, VERSION}
unfoldable pub use Rattle.command_table.specs.Table.{list_usage_text, usage_text}

-- the version, with the logic against which the proofs were checked; `agree_docs tables` compares
-- its first line with VERSION, and its second with what `rt version` prints
unfoldable pub version_text : List ℕ
version_text = VERSION.now

-- the same of the program for lists
unfoldable pub list_version_text : List ℕ
list_version_text = LIST_VERSION.now
