-- The text of a message.
-- Stated by: front_words.
use Rattle.std.specs.Prelude.{ℕ, List, [], ◌∷◌, ◌++◌, decimal}
use Rattle.front_words.specs.Showing.{shown}
use Rattle.front_words.specs.declared.pieces.MessagePiece.TheVariants.{the_data, Text, Number, Shown}

-- the text of a piece
abbrev pub piece_text : the_data → List ℕ
piece_text (Text text) = text.now
piece_text (Number number) = decimal number
piece_text (Shown bytes most) = shown most bytes.now

-- the text of pieces, one after another
abbrev pub pieces_text : List the_data → List ℕ
pieces_text [] = []
pieces_text (piece ∷ pieces) = piece_text piece ++ pieces_text pieces
