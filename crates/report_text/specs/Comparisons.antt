-- The report of `compare` on two derivations of one graph, as a function of the values in it: how
-- many leaves the first has and how many moves there are, the moves in order, and for each leaf of
-- the first its partner and for each of its blocks the image.
-- Stated by: report_text. Used by: bench_outcomes, theorems.
use Rattle.std.specs.Prelude.{ℕ, List, [], ◌∷◌, ◌++◌, length, codes, decimal}
use Rattle.graph_core.specs.from_line_text.Common.{written}
use Rattle.move_text.specs.from_tree_core.Common.{PlainMove}
use Rattle.move_text.specs.Common.{move_words}
use Rattle.report_text.specs.declared.comparisons.MapLine.{MapLine}

-- the line of the counts
abbrev pub same_line : (leaves moves : ℕ) → List ℕ
same_line leaves moves = codes "same leaves " ++ decimal leaves ++ codes " moves " ++ decimal moves ++ codes "\n"

-- the line of a move: the word `move`, and the words that texts of moves have for it
abbrev pub reported_move_line : PlainMove → List ℕ
reported_move_line m = codes "move " ++ written (move_words m ∷ [])

-- the lines of moves
abbrev pub move_lines : List PlainMove → List ℕ
move_lines [] = []
move_lines (m ∷ moves) = reported_move_line m ++ move_lines moves

-- the line of a leaf and its partner, by their numbers
abbrev pub partner_line : (leaf partner : ℕ) → List ℕ
partner_line leaf partner = codes "leaf " ++ decimal leaf ++ codes " with " ++ decimal partner ++ codes "\n"

-- the line of a block and its image, by their names
abbrev pub image_line : (name image : ℕ) → List ℕ
image_line name image = codes "map " ++ decimal name ++ codes " to " ++ decimal image ++ codes "\n"

-- the lines of blocks and their images, each with the image at the same place
abbrev pub image_lines : (names images : List ℕ) → List ℕ
image_lines [] images = []
image_lines (name ∷ names) [] = []
image_lines (name ∷ names) (image ∷ images) = image_line name image ++ image_lines names images

-- the lines of one leaf
abbrev pub map_text : MapLine → List ℕ
map_text line = partner_line line.leaf line.partner ++ image_lines line.names line.images

-- the lines of leaves
abbrev pub map_texts : List MapLine → List ℕ
map_texts [] = []
map_texts (line ∷ lines) = map_text line ++ map_texts lines

-- the whole report
unfoldable pub pairing_text : List PlainMove → List MapLine → List ℕ
pairing_text moves maps = (same_line (length maps) (length moves) ++ move_lines moves) ++ map_texts maps
