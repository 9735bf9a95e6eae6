use Rattle.tree_text.proofs.from_line_text.ExactlyOne.{StandsAlone-stands}
use Rattle.move_text.specs.Common.{move_format, moves_text}
use Rattle.move_text.proofs.MovesReadBack.{Stands-moves_text}
use Rattle.move_text.proofs.laws.written_moves_law.Goals as goal

pub returns : goal.returns
returns c = record { stands = Stands-moves_text; alone = λ n moves is. StandsAlone-stands (move_format n) (moves_text n moves) moves (Stands-moves_text n moves is) }
