use Rattle.std.proofs.Common.{arith}
use Rattle.tree_check.proofs.CutRules.{odd-single, tight-single}
use Rattle.tree_check.proofs.rules.is_known_tight.Goals as goal

pub tightness_in-requires-clause-odd : goal.tightness_in-requires-clause-odd
tightness_in-requires-clause-odd c = grind (arith, odd-single c.args.p.now.graph c.args.p.now.blocks c.args.shore)

pub returns : goal.returns
returns c = grind (arith, tight-single c.args.p.now.graph c.args.p.now.blocks c.args.shore)
