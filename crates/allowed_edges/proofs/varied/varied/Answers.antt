use Rattle.allowed_edges.proofs.varied.varied.Goals as goal

pub returns-in-Some-clause-perfect : goal.returns-in-Some-clause-perfect
returns-in-Some-clause-perfect c = c.in_ok-other.ensures.perfect c.in-Some.other c.in-Some.is
