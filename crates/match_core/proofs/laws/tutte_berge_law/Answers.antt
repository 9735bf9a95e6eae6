use Rattle.match_core.proofs.TutteBerge.{tutte_berge}
use Rattle.match_core.proofs.laws.tutte_berge_law.Goals as goal

pub returns : goal.returns
returns c g r is = let t = tutte_berge g r is in (t.s, t.outside, (t.m, t.is, t.equal))
