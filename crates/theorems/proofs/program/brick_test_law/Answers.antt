use Rattle.theorems.proofs.SearchTests.{by_pairs_of_vertices}
use Rattle.theorems.proofs.program.brick_test_law.Goals as goal

pub returns : goal.returns
returns c = by_pairs_of_vertices
