use Rattle.graph_core.proofs.from_counting.Common.{◌∙◌, ap, List, ℕ, item, mem}
use Rattle.ear_core.specs.Common.{in_rows}
use Rattle.ear_core.proofs.LoneTables.{reached-is}
use Rattle.ear_core.proofs.lone_tables.reached_from.Goals as goal

pub returns : goal.returns
returns c = λ v.
    c.union.ensures v
    ∙ reached-is c.args.g.now c.args.tables.now c.args.u c.row_of-near.result c.partners_among-far.result c.neighbours_of.result
    (c.row_of-near.ensures ∙ ap (λ (rows : List (List ℕ)). item rows c.args.u) c.deref.ensures.value)
    (λ w. c.partners_among-far.ensures w ∙ ap (λ n. in_rows c.args.tables.now.outer n (mem c.row_of-near.result) w) c.order.ensures.is)
    (λ w. c.neighbours_of.ensures w ∙ ap (λ n. in_rows c.deref-2.result.now n (mem c.partners_among-far.result) w) c.order-2.ensures.is ∙ ap (λ (rows : List (List ℕ)). in_rows rows c.args.g.now.order (mem c.partners_among-far.result) w) c.deref-2.ensures.value) v
