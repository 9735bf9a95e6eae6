use Rattle.theorems.proofs.LinesTold.{line_told, list_told}
use Rattle.theorems.proofs.outcomes.list_outcome_exists_law.Goals as goal

pub returns : goal.returns
returns c = record { line = line_told; outcome = list_told c.args.held.now }
