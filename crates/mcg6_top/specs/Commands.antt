-- What the words ask for: one case for each row of the table of words.
-- Stated by: mcg6_top, mcg6_front_top, theorems.
use Rattle.std.specs.Prelude.{ℕ, ◌&&◌, Bool, true, false, List, [], ◌∷◌, drop, nat_eq, codes, if◌then◌else◌, Option, Some, None, bytes_eq}
use Rattle.std.specs.List.{starts_with}
use Rattle.std.specs.Option.{option_map, option_or}
use Rattle.line_text.specs.Common.{number_of}
use Rattle.mcg6_lines.specs.from_decomposer.Common.{order_named}
use Rattle.mcg6_lines.specs.from_decomposer.declared.orders.NamedOrder.TheVariants.{First}
use Rattle.mcg6_lines.specs.declared.query.Property.{Property}
use Rattle.mcg6_lines.specs.declared.query.Property.TheVariants.{Covered, Uncovered, Perfect, Brick, Brace, Bicritical, Composite, Bricks, Braces}
use Rattle.mcg6_lines.specs.declared.query.Query.{Query}
use Rattle.mcg6_lines.specs.declared.query.Query.TheVariants.{Kinds, Leaves, Elementary, Matching, Cuts, Ears, Graph, Select}
use Rattle.mcg6_top.specs.declared.command.AtBadLine.{AtBadLine}
use Rattle.mcg6_top.specs.declared.command.AtBadLine.TheVariants.{Stop, Skip}

-- what is asked of each graph of a list, what is done at a bad line, and the name of the file that
-- holds the list, if it is not the standard input
pub record ListCommand : Type 0 where
  pub query : Query
  pub at_bad : AtBadLine
  pub file : Option (List ℕ)

-- what the words ask for: something of each graph of a list, or the graph6 text of the graph in the
-- file of that name
pub data Mcg6Command : Type 0 where
  Answer : (list : ListCommand) → Mcg6Command
  Encode : (file : List ℕ) → Mcg6Command

-- `bricks=` and a number
abbrev pub bricks_property : List ℕ → Option Property
bricks_property word =
    if starts_with nat_eq word (codes "bricks=") then option_map Bricks (number_of (drop 7 word)) else None

-- `braces=` and a number
abbrev pub braces_property : List ℕ → Option Property
braces_property word =
    if starts_with nat_eq word (codes "braces=") then option_map Braces (number_of (drop 7 word)) else None

-- so many bricks or so many braces
unfoldable pub counted_property : List ℕ → Option Property
counted_property word = option_or (bricks_property word) (braces_property word)

-- the property that a word names, if it names one
abbrev pub property_named : List ℕ → Option Property
property_named word =
    if bytes_eq word (codes "covered") then Some Covered else
    if bytes_eq word (codes "uncovered") then Some Uncovered else
    if bytes_eq word (codes "perfect") then Some Perfect else
    if bytes_eq word (codes "brick") then Some Brick else
    if bytes_eq word (codes "brace") then Some Brace else
    if bytes_eq word (codes "bicritical") then Some Bicritical else
    if bytes_eq word (codes "composite") then Some Composite else counted_property word

-- what one word asks for; leaves are those of the first order
abbrev pub query_named : List ℕ → Option Query
query_named word =
    if bytes_eq word (codes "kinds") then Some Kinds else
    if bytes_eq word (codes "leaves") then Some (Leaves First) else
    if bytes_eq word (codes "elementary") then Some Elementary else
    if bytes_eq word (codes "matching") then Some Matching else
    if bytes_eq word (codes "cuts") then Some Cuts else
    if bytes_eq word (codes "ears") then Some Ears else
    if bytes_eq word (codes "graph") then Some Graph else None

-- the leaves in the order that a word names, if it names one
unfoldable pub leaves_named : List ℕ → Option Query
leaves_named word = option_map Leaves (order_named word)

-- the graphs with the property that a word names, if it names one
unfoldable pub select_named : List ℕ → Option Query
select_named word = option_map Select (property_named word)

-- what two words ask for
abbrev pub pair_named : List ℕ → List ℕ → Option Query
pair_named word second =
    if bytes_eq word (codes "leaves") then leaves_named second else
    if bytes_eq word (codes "select") then select_named second else None

-- the query may be asked of a list with bad lines: all but the file of one graph
abbrev pub may_skip : Query → Bool
may_skip Kinds = true
may_skip (Leaves order) = true
may_skip Elementary = true
may_skip Matching = true
may_skip Cuts = true
may_skip Ears = true
may_skip Graph = false
may_skip (Select property) = true

-- the word after a query says that the list goes on after a bad line
abbrev pub asks_skip : Query → List ℕ → Bool
asks_skip query word = may_skip query && bytes_eq word (codes "skip")

-- a query and one more word: `skip`, or the name of the file
abbrev pub command_with_word : Query → List ℕ → Option ListCommand
command_with_word query word =
    if asks_skip query word then Some (record { query = query; at_bad = Skip; file = None }) else
    Some (record { query = query; at_bad = Stop; file = Some word })

-- a query and two more words: `skip` and the name of the file
abbrev pub command_with_two : Query → List ℕ → List ℕ → Option ListCommand
command_with_two query word file = if asks_skip query word then Some (record { query = query; at_bad = Skip; file = Some file }) else None

-- a query and the words after it
abbrev pub command_with : Query → List (List ℕ) → Option ListCommand
command_with query [] = Some (record { query = query; at_bad = Stop; file = None })
command_with query (word ∷ []) = command_with_word query word
command_with query (word ∷ file ∷ []) = command_with_two query word file
command_with query (word ∷ file ∷ third ∷ words) = None

-- the same, if there is a query
abbrev pub command_if : Option Query → List (List ℕ) → Option ListCommand
command_if None words = None
command_if (Some query) words = command_with query words

-- what a word and those after it ask for: the second has more to say of the query, or comes after
-- it
abbrev pub pair_command : Option Query → (word second : List ℕ) → List (List ℕ) → Option ListCommand
pair_command (Some query) word second words = command_with query words
pair_command None word second words = command_if (query_named word) (second ∷ words)

-- what the words ask of a list, if they ask for something of one
abbrev pub list_command_of : List (List ℕ) → Option ListCommand
list_command_of [] = None
list_command_of (word ∷ []) = command_if (query_named word) []
list_command_of (word ∷ second ∷ words) = pair_command (pair_named word second) word second words

-- `encode` and a word: the word is the name of the graph file
abbrev pub encode_pair : List ℕ → List ℕ → Option (List ℕ)
encode_pair word file = if bytes_eq word (codes "encode") then Some file else None

-- the name of the graph file whose graph6 text the words ask for, if they do
abbrev pub encode_of : List (List ℕ) → Option (List ℕ)
encode_of [] = None
encode_of (word ∷ []) = None
encode_of (word ∷ file ∷ []) = encode_pair word file
encode_of (word ∷ file ∷ third ∷ words) = None

-- the graph6 text of that file, if there is one, and else that of a list
abbrev pub command_or : (file : Option (List ℕ)) → Option ListCommand → Option Mcg6Command
command_or (Some file) list = Some (Encode file)
command_or None list = option_map Answer list

-- what the words ask for; none if they match no row
abbrev pub command_of : List (List ℕ) → Option Mcg6Command
command_of words = command_or (encode_of words) (list_command_of words)

-- the name of the file of a command, if it has one
abbrev pub file_of : Option Mcg6Command → Option (List ℕ)
file_of None = None
file_of (Some (Answer list)) = list.file
file_of (Some (Encode file)) = Some file

-- the name of the file that the words ask for, if there is one: a graph file, or that of a list
abbrev pub file_named_by : List (List ℕ) → Option (List ℕ)
file_named_by words = file_of (command_of words)
