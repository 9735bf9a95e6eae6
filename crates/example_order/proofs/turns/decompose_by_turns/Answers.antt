use Rattle.std.proofs.Common.{arith}
use Rattle.std.proofs.lemmas.List.{length-map}
use Rattle.tree_check.specs.from_tight_cuts.Common.{candidate_of}
use Rattle.decomposer.proofs.ChoicesAt.{picked-follows}
use Rattle.example_order.specs.Turns.{PicksByTurns}
use Rattle.example_order.proofs.turns.decompose_by_turns.Goals as goal

pub returns-clause-picked : goal.returns-clause-picked
returns-clause-picked c =
    picked-follows c.decompose_by.result c.args.g.now _ PicksByTurns
    (λ shown cuts place is returned. let l = length-map shown.now candidate_of in grind arith)
    c.decompose_by.ensures.picked
