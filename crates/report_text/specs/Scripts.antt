-- The reports on scripts of moves, as functions of the values in them: of a script that was made
-- its text and how many leaves and moves there are; of one that was replayed the text of the last
-- tree and the number of moves, or the move that fails.
-- Stated by: report_text, bench_reports. Used by: bench_outcomes, bench_top, theorems.
use Rattle.std.specs.Prelude.{ℕ, List, ◌++◌, codes, decimal}
use Rattle.report_text.specs.Judgements.{refused_line}
use Rattle.report_text.specs.declared.judgements.Shown.{Shown}

-- the line of the numbers of leaves and of moves
abbrev pub script_line : (leaves moves : ℕ) → List ℕ
script_line leaves moves = codes "c leaves " ++ decimal leaves ++ codes " moves " ++ decimal moves ++ codes "\n"

-- a text, and after it that line
unfoldable pub script_report_text : List ℕ → (leaves moves : ℕ) → List ℕ
script_report_text text leaves moves = text ++ script_line leaves moves

-- the line of the number of moves
abbrev pub moves_line : ℕ → List ℕ
moves_line moves = codes "c moves " ++ decimal moves ++ codes "\n"

-- a text, and after it that line
unfoldable pub replayed_text : List ℕ → (moves : ℕ) → List ℕ
replayed_text text moves = text ++ moves_line moves

-- the line on a move, counted from 1, that has no result
unfoldable pub stuck_text : (move : ℕ) → List ℕ
stuck_text move = codes "move " ++ decimal move ++ codes " stuck\n"

-- the line on a move, counted from 1, whose result is refused: the node, the reason, and what
-- shows it
unfoldable pub refused_move_text : (move node why : ℕ) → Shown → List ℕ
refused_move_text move node why what = refused_line (codes "move ") move node why what
