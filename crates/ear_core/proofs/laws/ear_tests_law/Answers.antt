use Rattle.ear_core.proofs.EarTests.{first_passes, second_passes}
use Rattle.ear_core.proofs.laws.ear_tests_law.Goals as goal

pub returns : goal.returns
returns c = record { first = first_passes; second = second_passes }
