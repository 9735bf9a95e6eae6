use Rattle.mcg6_reader.proofs.OneEnding.{stop_once, whole_not_bad}
use Rattle.mcg6_reader.proofs.laws.one_ending_law.Goals as goal

pub returns-clause-whole : goal.returns-clause-whole
returns-clause-whole g c place lines found a b apart =
    whole_not_bad (g.T.LineTeller.tells c.args.teller.now) (g.T.LineTeller.bad c.args.teller.now) apart (g.T.LineTeller.lacks c.args.teller.now) place lines found a b

pub returns-clause-bad : goal.returns-clause-bad
returns-clause-bad g c place lines found other a b apart one one_fault =
    stop_once (g.T.LineTeller.tells c.args.teller.now) (g.T.LineTeller.bad c.args.teller.now) apart one one_fault (g.T.LineTeller.lacks c.args.teller.now) place lines found other a b
