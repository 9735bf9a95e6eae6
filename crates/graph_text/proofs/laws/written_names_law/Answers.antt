use Rattle.graph_text.proofs.NamedReadBack.{Stands-named_text}
use Rattle.graph_text.proofs.laws.written_names_law.Goals as goal

pub returns : goal.returns
returns c = Stands-named_text
