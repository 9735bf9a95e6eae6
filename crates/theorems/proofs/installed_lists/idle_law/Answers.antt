use Rattle.theorems.proofs.IdleStates.{shelf-moves, sink-moves, source-moves}
use Rattle.theorems.proofs.installed_lists.idle_law.Goals as goal

pub returns-clause-shelf : goal.returns-clause-shelf
returns-clause-shelf c = shelf-moves

pub returns-clause-source : goal.returns-clause-source
returns-clause-source c = source-moves

pub returns-clause-sink : goal.returns-clause-sink
returns-clause-sink c = sink-moves
