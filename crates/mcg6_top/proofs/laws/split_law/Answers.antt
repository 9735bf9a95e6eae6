use Rattle.mcg6_top.proofs.Splits.{ends_split, skips_split, split}
use Rattle.mcg6_top.proofs.laws.split_law.Goals as goal

pub returns-clause-outcome : goal.returns-clause-outcome
returns-clause-outcome c query at_bad first second by closed plain status a b one two = split query at_bad by first second closed plain status a b one two

pub returns-clause-ends : goal.returns-clause-ends
returns-clause-ends c query at_bad first second by closed plain last a b one two = ends_split query at_bad by first second closed plain last a b one two

pub returns-clause-skips : goal.returns-clause-skips
returns-clause-skips c query at_bad first second by closed plain last a b one two = skips_split query at_bad by first second closed plain last a b one two
