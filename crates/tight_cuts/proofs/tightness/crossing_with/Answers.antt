use Rattle.tight_cuts.proofs.tightness.crossing_with.Goals as goal

pub returns-in-None-clause-none : goal.returns-in-None-clause-none
returns-in-None-clause-none c q ce f l wf cf together = c.in_ok-held.ensures.none.0 c.in-None.is (together.0, together.1, together.2)
