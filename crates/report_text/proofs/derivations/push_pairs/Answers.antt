use Rattle.std.proofs.Common.{add-one, arith}
use Rattle.report_text.proofs.WrittenLines.{adjacent-written, within-blocks}
use Rattle.report_text.proofs.derivations.push_pairs.Goals as goal

pub name_at-requires : goal.name_at-requires
name_at-requires c = within-blocks c.args.g.now c.args.p.now.blocks c.args.q.now c.ends-ends.result.a c.requires.quotient c.ends-ends.ensures.vertices.0

pub name_at-requires-in-loop-i : goal.name_at-requires-in-loop-i
name_at-requires-in-loop-i c = within-blocks c.args.g.now c.args.p.now.blocks c.args.q.now c.ends-ends.result.b c.requires.quotient c.ends-ends.ensures.vertices.1

pub loop-i-preserved : goal.loop-i-preserved
loop-i-preserved c = grind (arith, add-one, adjacent-written)

pub returns : goal.returns
returns c = grind arith
