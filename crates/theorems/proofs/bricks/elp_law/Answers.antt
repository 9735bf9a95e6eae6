use Rattle.theorems.proofs.BarrierShores.{shore_barrier}
use Rattle.theorems.proofs.BrickFacts.{brick_facts_of, brick_from, three_brick}
use Rattle.theorems.proofs.CutsBeside.{elp_alone, elp_beside, shore_reasons}
use Rattle.theorems.proofs.NamedCuts.{named_cut}
use Rattle.theorems.proofs.ThreeConnected.{pair_or_three}
use Rattle.theorems.proofs.bricks.elp_law.Goals as goal

pub returns-clause-cut : goal.returns-clause-cut
returns-clause-cut c g x is cov t wide = named_cut g x is cov t wide

pub returns-clause-bipartite : goal.returns-clause-bipartite
returns-clause-bipartite c g a x is cov two t = shore_barrier g is cov x t a two

pub returns-clause-brick : goal.returns-clause-brick
returns-clause-brick c g is = ((λ h. brick_facts_of g is h.0 h.1 h.2), (λ h. brick_from g is h.0 h.1 h.2))

pub returns-clause-connected : goal.returns-clause-connected
returns-clause-connected c g is four = pair_or_three g is four

pub returns-clause-three_connected : goal.returns-clause-three_connected
returns-clause-three_connected c g is = three_brick g is

pub returns-clause-beside : goal.returns-clause-beside
returns-clause-beside c g x is cov t wide = elp_beside g x is cov t wide (shore_reasons g is cov x t wide)

pub returns-clause-inside : goal.returns-clause-inside
returns-clause-inside c g x is cov t wide = shore_reasons g is cov x t wide

pub returns-clause-alone : goal.returns-clause-alone
returns-clause-alone c g x is cov t wide lone = elp_alone g x is cov t wide (shore_reasons g is cov x t wide) lone
