use Rattle.ear_core.proofs.FaultEdges.{named, shown}
use Rattle.ear_core.proofs.laws.fault_edges_law.Goals as goal

pub returns : goal.returns
returns c = record { named = named; shown = shown }
