use Rattle.graph_core.proofs.from_counting.Common.{◌≡◌, ℕ, subst, sym, true, mem, Within}
use Rattle.ear_core.proofs.StageClasses.{rows-kept}
use Rattle.ear_core.specs.Common.{HaveRow}
use Rattle.ear_core.specs.declared.asking.Asked.{Asked}
use Rattle.ear_core.proofs.stage.Stage.keep.Goals as goal

pub invariant_of-self : goal.invariant_of-self
invariant_of-self c =
    let row = c.args.row in
    let class = c.class_of-class.result in
    let inside = c.self.inside in
    rows-kept inside.asked inside.mate.items inside.covered inside.known c.union-self-inside.result row class inside.rows.items c.write_rows.new.rows.items c.self.invariant
    (subst (λ (a : Asked). (v : ℕ) → mem row v ≡ true → Within a.stage.order v) (sym c.self.view_is) c.requires.within)
    (subst (λ (a : Asked). HaveRow a (mem class) row) (sym c.self.view_is) c.class_of-class.ensures)
    c.write_rows.ensures.long c.write_rows.ensures.own c.write_rows.ensures.others c.union-self-inside.ensures
