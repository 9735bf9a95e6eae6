use Rattle.graph_text.proofs.Versions.{Stands-either, FirstFault-either, FirstFault-named}
use Rattle.graph_text.proofs.laws.versions_law.Goals as goal

pub returns : goal.returns
returns c = record { reads = Stands-either; faults = FirstFault-either; refused = FirstFault-named }
