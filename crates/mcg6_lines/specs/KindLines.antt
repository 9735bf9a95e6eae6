-- The line of `kinds`: the graph6 text of the graph, the numbers of its vertices and edges, and
-- either `uncovered`, the word of the first reason and the deficiency, or `brick`, `brace` or
-- `composite`, the numbers of bricks and of braces, and `bicritical yes` or `bicritical no`.
-- Stated by: mcg6_lines. Used by: theorems.
use Rattle.std.specs.Prelude.{◌≡◌, ℕ, ◌++◌, List, codes, decimal}
use Rattle.graph_core.specs.Common.{Graph, size}
use Rattle.graph6_text.specs.Common.{graph6_of}
use Rattle.report_text.specs.Common.{kind_word, reason_word, yes_or_no}
use Rattle.mcg6_lines.specs.Standings.{IsStanding, Standing, Uncovered, Structured}

-- the words on the standing of a graph
abbrev pub standing_words : Standing → List ℕ
standing_words (Uncovered reason deficiency) =
    codes "uncovered " ++ reason_word reason ++ codes " " ++ decimal deficiency
standing_words (Structured kind tally bicritical) =
    kind_word kind ++ codes " " ++ decimal tally.bricks ++ codes " " ++ decimal tally.braces ++ codes " bicritical " ++ yes_or_no bicritical

-- the words say how the graph stands
pub record TellsStanding (g : Graph) (words : List ℕ) : Type 0 where
  pub standing : Standing
  pub right : IsStanding g standing
  pub is : words ≡ standing_words standing

-- the words after the graph6 text: the numbers of vertices and edges, and those on the standing
abbrev pub words_after : Graph → List ℕ → List ℕ
words_after g words = codes " " ++ decimal g.order ++ codes " " ++ decimal (size g) ++ codes " " ++ words ++ codes "\n"

-- the line of a graph with these words on its standing
unfoldable pub kind_line : Graph → List ℕ → List ℕ
kind_line g words = graph6_of g ++ words_after g words

-- the bytes are the line of the graph, and what it says is right
pub record IsKindLine (g : Graph) (bytes : List ℕ) : Type 0 where
  pub words : List ℕ
  pub right : TellsStanding g words
  pub line : bytes ≡ kind_line g words
