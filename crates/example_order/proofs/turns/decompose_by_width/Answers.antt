use Rattle.std.proofs.Common.{arith, refl, rules}
use Rattle.decomposer.proofs.ChoicesAt.{picked-follows}
use Rattle.example_order.specs.WidestCuts.{IsWidest, PicksWidest}
use Rattle.example_order.proofs.turns.decompose_by_width.Goals as goal

pub returns-clause-picked : goal.returns-clause-picked
returns-clause-picked c =
    picked-follows c.decompose_by.result c.args.g.now _ (PicksWidest c.args.g.now)
    (λ shown cuts place is returned.
    let widest : IsWidest c.args.g.now shown.now place = search rules in
    record { stored = shown.now; shows = refl; widest = widest })
    c.decompose_by.ensures.picked
