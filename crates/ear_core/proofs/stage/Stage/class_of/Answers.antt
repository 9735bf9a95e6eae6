use Rattle.graph_core.proofs.from_counting.Common.{◌≡◌, ◌↔◌, List, ℕ, false, subst, sym, true, mem, Within}
use Rattle.ear_core.proofs.StageClasses.{class-has, one-has}
use Rattle.ear_core.specs.Common.{HasClasses, HaveRow}
use Rattle.ear_core.specs.declared.asking.Asked.{Asked}
use Rattle.ear_core.proofs.stage.Stage.class_of.Goals as goal

pub returns-then-self : goal.returns-then-self
returns-then-self c =
    let row = c.args.row in
    let class = c.left_without.result in
    class-has c.args.self.now row c.args.u c.requires.vertex c.requires.row
    (subst (λ (a : Asked). HasClasses a.stage (mem a.outside)) c.self.view_is (c.self.invariant.classes c.if-self.true)) c.requires.left class
    (subst (λ (a : Asked). (v : ℕ) → (mem class v ≡ true) ↔ (Within a.stage.order v × (mem a.outside v ≡ false) × (mem row v ≡ false))) c.self.view_is c.left_without.ensures)

pub returns-else-self : goal.returns-else-self
returns-else-self c = subst (λ (xs : List ℕ). HaveRow c.args.self.now (mem xs) c.args.row) (sym c.one.ensures) (one-has c.args.self.now c.args.row c.args.u c.requires.vertex c.requires.row)
