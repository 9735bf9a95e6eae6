use Rattle.graph_core.proofs.from_counting.Common.{arith, sym, take_all}
use Rattle.std.proofs.lemmas.List.Elements.{All-more, All-same}
use Rattle.decomposer.specs.Common.{IsStoredIn}
use Rattle.decomposer.proofs.by_function.are_stored.Goals as goal

pub loop-candidate-preserved : goal.loop-candidate-preserved
loop-candidate-preserved c =
    All-more (IsStoredIn 128) c.args.list.now c.loop-candidate.candidate-index c.candidate-item.result c.loop-candidate-test.true c.loop-candidate.invariant
    (grind (arith, c.rises.ensures, c.candidate-item.is))

pub returns : goal.returns
returns c = All-same (IsStoredIn 128) c.args.list.now _ (sym (take_all c.loop-candidate.candidate-index c.args.list.now c.loop-candidate-test.false)) c.loop-candidate.invariant
