use Rattle.graph_core.proofs.from_line_text.ExactlyOne.{StandsAlone-stands}
use Rattle.ear_text.specs.EarFormat.{ear_format}
use Rattle.ear_text.specs.Writing.{ears_text}
use Rattle.ear_text.proofs.EarsReadBack.{Stands-ears_text}
use Rattle.ear_text.proofs.laws.written_ears_law.Goals as goal

pub returns : goal.returns
returns c = record { stands = Stands-ears_text; alone = λ n m list is. StandsAlone-stands (ear_format n m) (ears_text n m list) list (Stands-ears_text n m list is) }
