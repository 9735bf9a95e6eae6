-- The pieces of a message are said one after another.
-- What is left of a list from a place on is the piece at that place and what is left after it.
use Rattle.std.proofs.Common.{◌≡◌, ℕ, ◌+◌, ◌<◌, List, ◌++◌, length, drop, get_or, ap, add-one, drop-cons}
use Rattle.front_words.specs.Pieces.{piece_text, pieces_text}
use Rattle.front_words.specs.declared.pieces.MessagePiece.TheVariants.{the_data}

pub piece-first : (pieces : List the_data) (i : ℕ) (d : the_data) → i < length pieces →
    pieces_text (drop i pieces) ≡ piece_text (get_or pieces i d) ++ pieces_text (drop (i + 1) pieces)
piece-first pieces i d within = rw add-one (ap pieces_text (drop-cons pieces i d within))
