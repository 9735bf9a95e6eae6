use Rattle.mcg6_top.proofs.OneOutcome.{bad_alike, bad_once, done_alike, done_once, done_or_bad, stops_same}
use Rattle.mcg6_top.proofs.laws.one_list_output_law.Goals as goal

pub returns-clause-status : goal.returns-clause-status
returns-clause-status c = done_or_bad

pub returns-clause-done : goal.returns-clause-done
returns-clause-done c query at_bad bytes a b fixed one two = done_once query at_bad bytes a b fixed one two

pub returns-clause-bad : goal.returns-clause-bad
returns-clause-bad c query at_bad bytes a b fixed one two = bad_once query at_bad bytes a b fixed one two

pub returns-clause-done_alike : goal.returns-clause-done_alike
returns-clause-done_alike c = done_alike

pub returns-clause-bad_alike : goal.returns-clause-bad_alike
returns-clause-bad_alike c = bad_alike

pub returns-clause-found : goal.returns-clause-found
returns-clause-found c query at_bad bytes found other a b one two = let stops = stops_same query at_bad bytes found other a b one two in (stops.1, stops.2)
