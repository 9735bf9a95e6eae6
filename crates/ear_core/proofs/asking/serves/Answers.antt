use Rattle.graph_core.proofs.from_counting.Common.{rules, true≢false, mem}
use Rattle.two_ears.specs.from_match_core.Common.{edges_of}
use Rattle.ear_core.proofs.Searching.{asked-serves}
use Rattle.ear_core.proofs.asking.serves.Goals as goal

pub returns-in_default-clause-no : goal.returns-in_default-clause-no
returns-in_default-clause-no c = λ g f is no q. c.in_ok-perfect_without.ensures.none.0 (search rules) ((asked-serves g f c.args.asked.now is c.args.ends c.union.result c.union.ensures).1 q)

pub returns-clause-yes : goal.returns-clause-yes
returns-clause-yes c = λ g f is yes. (asked-serves g f c.args.asked.now is c.args.ends c.union.result c.union.ensures).0 (mem (edges_of c.in-Some.field-0), c.in_ok-perfect_without.ensures.perfect c.in-Some.field-0 c.in-Some.is)

pub returns-clause-no : goal.returns-clause-no
returns-clause-no c = λ g f is no q. true≢false no
