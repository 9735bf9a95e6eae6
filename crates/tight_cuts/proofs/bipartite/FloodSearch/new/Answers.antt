use Rattle.tight_cuts.proofs.bipartite.FloodSearch.new.Goals as goal

pub returns : goal.returns
returns c = record { side_of = c.side.ensures; matching = c.in_ok-kept.ensures.of; perfect = c.in_ok-kept.ensures.perfect }
