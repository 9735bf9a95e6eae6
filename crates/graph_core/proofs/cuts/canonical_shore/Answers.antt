use Rattle.vset_core.proofs.from_counting.Common.{sym, ◌∙◌, mem}
use Rattle.graph_core.proofs.CutLists.{canonical-kept, canonical-turned}
use Rattle.graph_core.proofs.cuts.canonical_shore.Goals.{then-contains, else-contains}
use Rattle.graph_core.proofs.cuts.canonical_shore.Goals as goal

pub returns : goal.returns
returns c = elim c.if-contains.branch [
  | then-contains w ↦ canonical-turned c.args.n c.args.shore c.if-contains.shore (mem c.full-all.result) (sym c.contains.ensures ∙ w.if-contains.true)
      (λ v i. (c.full-all.ensures.members v).1 i) (λ v i. (c.full-all.ensures.members v).0 i) c.rises.ensures (λ v. (λ i. mem (w.shore-is i) v) ∙ w.minus-shore.ensures v)
  | else-contains w ↦ canonical-kept c.args.n c.args.shore c.if-contains.shore (mem c.full-all.result) (sym c.contains.ensures ∙ w.if-contains.false)
      (λ v i. (c.full-all.ensures.members v).1 i) (λ v i. (c.full-all.ensures.members v).0 i) c.rises.ensures (λ v. (λ i. mem (w.shore-is i) v) ∙ w.meet-shore.ensures v)
]
