use Rattle.std.proofs.Common.{rules}
use Rattle.graph_text.proofs.NameLists.{IsUtf8-name}
use Rattle.graph_text.proofs.names.name_of.Goals as goal

pub returns-clause-is : goal.returns-clause-is
returns-clause-is c = search (rules, IsUtf8-name)
