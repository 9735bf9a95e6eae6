use Rattle.tree_check.proofs.ThreeAnswers.{accepted-exactly, not_covered-exactly}
use Rattle.tree_check.proofs.laws.judgement_law.Goals as goal

pub returns : goal.returns
returns c = record { accepted = accepted-exactly; not_covered = not_covered-exactly }
