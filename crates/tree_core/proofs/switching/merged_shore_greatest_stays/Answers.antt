use Rattle.std.proofs.Common.{ap, ap₂, ◌∙◌, Bool, List, ℕ}
use Rattle.tree_core.specs.Common.{list_if, minus_list, union_list}
use Rattle.tree_core.proofs.switching.merged_shore_greatest_stays.Goals as goal

pub returns : goal.returns
returns c =
    c.union_of-2.ensures.list
    ∙ ap₂ (union_list c.args.e.now.n)
    (c.minus_of-outer.ensures.list ∙ ap (λ (z : List ℕ). minus_list c.args.e.now.n z c.args.e.now.v) c.minus_of.ensures.list)
    (c.union_of.ensures.list
    ∙ ap₂ (union_list c.args.e.now.n)
    (c.set_if-inner.ensures.list ∙ ap (λ (t : Bool). list_if t c.args.e.now.u) c.is_subset.ensures)
    (c.set_if-further.ensures.list ∙ ap₂ list_if c.is_subset-2.ensures (c.union_of-gained.ensures.list ∙ ap (λ (z : List ℕ). union_list c.args.e.now.n z c.args.e.now.v) c.minus_of-2.ensures.list)))
