use Rattle.std.proofs.Common.{arith}
use Rattle.graph_text.proofs.NameLists.{is_some-position}
use Rattle.graph_text.proofs.names.Names.vertex.Goals as goal

pub returns-in_err-place-clause-none : goal.returns-in_err-place-clause-none
returns-in_err-place-clause-none c = grind (arith, is_some-position c.args.self.now c.args.word.now)

pub returns-clause-none : goal.returns-clause-none
returns-clause-none c = grind (arith, is_some-position c.args.self.now c.args.word.now)
