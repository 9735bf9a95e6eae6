use Rattle.std.proofs.Common.{ap, is_some, ◌∙◌}
use Rattle.graph_text.proofs.NameLists.{is_some-position}
use Rattle.graph_text.proofs.names.Names.is_among.Goals as goal

pub returns : goal.returns
returns c = c.is_some.ensures ∙ ap is_some c.place.ensures ∙ is_some-position c.args.self.now c.args.word.now
