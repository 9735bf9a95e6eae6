use Rattle.std.proofs.Common.{arith}
use Rattle.std.proofs.lemmas.List.{with_items_is}
use Rattle.match_search.proofs.NamedMates.{named_mates}
use Rattle.match_search.proofs.mates.mates_of.Goals as goal

pub returns-clause-mates : goal.returns-clause-mates
returns-clause-mates c = grind (arith, with_items_is, named_mates)
