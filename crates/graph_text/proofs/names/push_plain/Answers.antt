use Rattle.std.proofs.Common.{ap, ◌∙◌}
use Rattle.graph_text.specs.Common.{is_name}
use Rattle.graph_text.proofs.PlainNames.{is_name-plain}
use Rattle.graph_text.proofs.names.push_plain.Goals as goal

pub push-requires-clause-is : goal.push-requires-clause-is
push-requires-clause-is c = ap is_name (c.deref.ensures ∙ c.in_ok-name.ensures.ok) ∙ is_name-plain c.args.vertex c.requires.number
