use Rattle.std.proofs.Common.{rules, ◌||◌, false}
use Rattle.std.proofs.lemmas.Iterator.Consumers.{fold_from_yields_List}
use Rattle.std.proofs.lemmas.Iterator.Splits.{YieldsList-from_slice_split}
use borrow.Author.Tests.{tests}
use Rattle.line_text.specs.Common.{is_blank}
use Rattle.front_words.specs.Shores.{is_vertex, names}
use Rattle.front_words.proofs.shores.names.Goals as goal

pub returns : goal.returns
unfolding names
returns c =
    fold_from_yields_List _ (λ found word. found || is_vertex c.args.vertex word) false c.fold.result c.fold.ensures.ran
    (YieldsList-from_slice_split _ is_blank c.args.line.now (cc) (cc) (cc) (λ x r q k. search (rules, tests)))
    (λ a x b q k. search (rules, tests))
