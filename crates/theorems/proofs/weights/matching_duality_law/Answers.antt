use Rattle.quick_kinds.proofs.from_brick_kit.CoverBound.{cover_bound}
use Rattle.quick_kinds.proofs.from_brick_kit.Duality.{dual, heaviest_cover}
use Rattle.theorems.proofs.weights.matching_duality_law.Goals as goal

pub returns-clause-below : goal.returns-clause-below
returns-clause-below c g w y us m is cover mm = cover_bound g w y us m is cover mm

pub returns-clause-equal : goal.returns-clause-equal
returns-clause-equal c g w is = let d = dual g w is in (d.m, d.y, d.us, d.is, d.cover, d.equal)

pub returns-clause-heaviest : goal.returns-clause-heaviest
returns-clause-heaviest c g w m is best = heaviest_cover g w m is best
