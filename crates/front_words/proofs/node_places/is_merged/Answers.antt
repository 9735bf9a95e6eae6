use Rattle.std.proofs.Common.{rules, ◌==◌}
use Rattle.std.proofs.lemmas.Iterator.Consumers.{YieldsList-from_first}
use Rattle.std.proofs.lemmas.Iterator.Search.{any_from_yields_List}
use borrow.Author.Tests.{tests}
use Rattle.front_words.proofs.node_places.is_merged.Goals as goal

pub returns : goal.returns
returns c =
    any_from_yields_List (λ it. it == c.args.step) _ _ c.any.result c.any.ensures.ran (YieldsList-from_first (λ x. x) (λ s. s) c.args.merged c.iter.ensures)
    (λ x b q k. search (rules, tests))
