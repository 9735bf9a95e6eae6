use Rattle.graph_core.proofs.from_counting.Common.{◌≡◌, ◌∙◌, ap, inl, inr, sym, cases_eq, mem}
use Rattle.two_ears.specs.from_match_core.Common.{edges_of}
use Rattle.two_ears.specs.from_match_search.Common.{marks}
use Rattle.ear_core.proofs.StageMates.{row-among}
use Rattle.ear_core.proofs.matched.marks_on.Goals as goal

pub loop-i-preserved : goal.loop-i-preserved
loop-i-preserved c =
    let row = c.row-e.result in
    let write = c.write_mark.ensures in
    let before = c.loop-i.invariant in
    let f = marks c.args.mark.now in
    let new = marks c.write_mark.new.row.items in
    let here : new row.edge ≡ f row.edge = write.own in
    record {
      long = write.long ∙ before.long;
      marked = λ e t. elim (cases_eq e row.edge) [
        | inl i ↦ ap f i ∙ sym here ∙ ap new (sym i) ∙ t
        | inr d ↦ before.marked e (sym (write.others e d) ∙ t)
      ];
      held = λ e t. elim (cases_eq e row.edge) [
        | inl i ↦ ap (mem (edges_of c.args.m.now)) i ∙ row-among c.args.m.now.rows c.loop-i.i row c.row-e.ensures
        | inr d ↦ before.held e (sym (write.others e d) ∙ t)
      ];
    }
