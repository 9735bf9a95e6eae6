-- The lines of the usage that are a command's, and the page of each command.
-- Stated by: command_table, front_words. Used by: mcg6_front_top.
use Rattle.std.specs.Prelude.{ℕ, List, [], ◌∷◌, ◌++◌, nat_eq, Bool, false, codes, if◌then◌else◌, Option, None, Some, bytes_eq}
use Rattle.std.specs.List.{starts_with}
use Rattle.command_table.specs.Rows.{Row}
use Rattle.command_table.specs.declared.pages.TheConstants.{ANALYSE, CONVERT, ANALYSE6, DECOMPOSE, CHECK, CHECKEARS, EARS, COMPARE, SCRIPT, REPLAY, GROW}
use Rattle.command_table.specs.declared.list_pages.TheConstants.{KINDS, LEAVES, ELEMENTARY, MATCHING, CUTS, EARS as LIST_EARS, GRAPH, SELECT, ENCODE}

-- the line of a row, if that is the command
abbrev pub command_line : (command : List ℕ) → Row → List ℕ
command_line command row = if bytes_eq command row.command then row.line else []

-- the lines of the rows of that command
abbrev pub command_lines : (command : List ℕ) → List Row → List ℕ
command_lines command [] = []
command_lines command (row ∷ rows) = command_line command row ++ command_lines command rows

-- the page of a command of `mcg`
abbrev pub page_of : (command : List ℕ) → Option (List ℕ)
page_of command =
    if bytes_eq command (codes "analyse") then Some ANALYSE.now else
    if bytes_eq command (codes "convert") then Some CONVERT.now else
    if bytes_eq command (codes "analyse6") then Some ANALYSE6.now else
    if bytes_eq command (codes "decompose") then Some DECOMPOSE.now else
    if bytes_eq command (codes "check") then Some CHECK.now else
    if bytes_eq command (codes "checkears") then Some CHECKEARS.now else
    if bytes_eq command (codes "ears") then Some EARS.now else
    if bytes_eq command (codes "compare") then Some COMPARE.now else
    if bytes_eq command (codes "script") then Some SCRIPT.now else
    if bytes_eq command (codes "replay") then Some REPLAY.now else
    if bytes_eq command (codes "grow") then Some GROW.now else None

-- the page of a command of `mcg6`
abbrev pub list_page_of : (command : List ℕ) → Option (List ℕ)
list_page_of command =
    if bytes_eq command (codes "kinds") then Some KINDS.now else
    if bytes_eq command (codes "leaves") then Some LEAVES.now else
    if bytes_eq command (codes "elementary") then Some ELEMENTARY.now else
    if bytes_eq command (codes "matching") then Some MATCHING.now else
    if bytes_eq command (codes "cuts") then Some CUTS.now else
    if bytes_eq command (codes "ears") then Some LIST_EARS.now else
    if bytes_eq command (codes "graph") then Some GRAPH.now else
    if bytes_eq command (codes "select") then Some SELECT.now else
    if bytes_eq command (codes "encode") then Some ENCODE.now else None

-- there is a page, and it begins with these lines
abbrev pub begins_page : Option (List ℕ) → (lines : List ℕ) → Bool
begins_page None lines = false
begins_page (Some page) lines = starts_with nat_eq page lines
