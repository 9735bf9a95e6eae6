use Rattle.quick_kinds.proofs.Braces.{braces}
use Rattle.quick_kinds.proofs.laws.four_deletions_law.Goals as goal

pub returns : goal.returns
returns c g x is cov two = braces g is cov x two
