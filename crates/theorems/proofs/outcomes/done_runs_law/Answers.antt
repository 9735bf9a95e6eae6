use Rattle.theorems.proofs.DoneRuns.{done-decomposition, done-ears, done-pairing, done-picks, done-script, done-sets}
use Rattle.theorems.proofs.outcomes.done_runs_law.Goals as goal

pub returns-clause-sets : goal.returns-clause-sets
returns-clause-sets g c = done-sets g.S.Shelf.reads g.K.Sink.written g.K.Sink.writes

pub returns-clause-decompositions : goal.returns-clause-decompositions
returns-clause-decompositions g c = done-decomposition g.S.Shelf.reads g.K.Sink.written g.K.Sink.writes

pub returns-clause-picks : goal.returns-clause-picks
returns-clause-picks g c = done-picks g.S.Shelf.reads g.K.Sink.written g.K.Sink.writes

pub returns-clause-ears : goal.returns-clause-ears
returns-clause-ears g c = done-ears g.S.Shelf.reads g.K.Sink.written g.K.Sink.writes

pub returns-clause-comparisons : goal.returns-clause-comparisons
returns-clause-comparisons g c = done-pairing g.S.Shelf.reads g.K.Sink.written g.K.Sink.writes

pub returns-clause-scripts : goal.returns-clause-scripts
returns-clause-scripts g c = done-script g.S.Shelf.reads g.K.Sink.written g.K.Sink.writes
