use Rattle.std.proofs.Common.{ap, sym, ◌∙◌, ◌++◌, List, ℕ}
use Rattle.std.proofs.lemmas.Result.{on_ok_weaker}
use Rattle.tree_core.proofs.Common.{move_order, move_of, shape_of}
use Rattle.tree_core.specs.declared.moves.Move.{Move}
use Rattle.uncross.proofs.ParentPaths.{rotated-order}
use Rattle.uncross.proofs.leaf_orders.push_move_order.Goals as goal

pub returns-in-Some-clause-order : goal.returns-in-Some-clause-order
returns-in-Some-clause-order c =
    let n = c.args.n in let t = shape_of c.args.tree.now in
    let split = sym c.as_slice.ensures ∙ c.in-Some.ensures.cases.0 in
    let same = ap (λ (m : Move). move_order n (move_of m) t) c.in-Rotate.is ∙ rotated-order n c.in-Rotate.path c.in-Some.parents.now c.in-Some.last.now t split in
    on_ok_weaker c.push_order_along.result (λ made. made ∙ ap (λ (order : List ℕ). c.args.order.now ++ order) (sym same)) c.push_order_along.ensures.order
