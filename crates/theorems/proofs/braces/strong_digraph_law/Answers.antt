use Rattle.theorems.proofs.StrongDigraphs.{brace_strong, mates_strong}
use Rattle.theorems.proofs.braces.strong_digraph_law.Goals as goal

pub returns-clause-mates : goal.returns-clause-mates
returns-clause-mates c g x m a b is cov two perfect xa mates = mates_strong g is cov m perfect x two a b mates xa

pub returns-clause-brace : goal.returns-clause-brace
returns-clause-brace c g x m is cov two perfect = brace_strong g is cov m perfect x two
