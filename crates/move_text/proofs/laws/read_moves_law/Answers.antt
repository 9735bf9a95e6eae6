use Rattle.move_text.proofs.MovesRead.{writable-read}
use Rattle.move_text.proofs.laws.read_moves_law.Goals as goal

pub returns : goal.returns
returns c = writable-read
