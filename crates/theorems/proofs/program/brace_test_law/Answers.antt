use Rattle.theorems.proofs.SearchTests.{by_reachability}
use Rattle.theorems.proofs.program.brace_test_law.Goals as goal

pub returns : goal.returns
returns c g x m is cov two perfect = by_reachability g is cov x two m perfect
