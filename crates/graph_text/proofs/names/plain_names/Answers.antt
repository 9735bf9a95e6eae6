use Rattle.std.proofs.Common.{◌+◌, sym, ◌∙◌, arith}
use Rattle.graph_text.proofs.PlainNames.{plain-fresh, length-plain_names, plain_names-none, plain_names-more}
use Rattle.graph_text.proofs.names.plain_names.Goals as goal

pub loop-k-init : goal.loop-k-init
loop-k-init c = c.new-names.ensures ∙ sym plain_names-none

pub push_plain-requires-clause-new : goal.push_plain-requires-clause-new
push_plain-requires-clause-new c = grind (arith, plain-fresh c.loop-k.k (c.loop-k.k + 1))

pub push_plain-requires-clause-few : goal.push_plain-requires-clause-few
push_plain-requires-clause-few c = grind (arith, length-plain_names c.loop-k.k)

pub loop-k-preserved : goal.loop-k-preserved
loop-k-preserved c = grind (arith, plain_names-more c.loop-k.k)

pub returns-clause-one_each : goal.returns-clause-one_each
returns-clause-one_each c = grind (arith, length-plain_names c.loop-k.k)
