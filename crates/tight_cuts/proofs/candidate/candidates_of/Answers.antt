use Rattle.graph_core.proofs.from_counting.Common.{sym, subst, All, All-get_or, IsRisingIn}
use Rattle.tight_cuts.proofs.candidate.candidates_of.Goals as goal

pub new-requires-clause-shore : goal.new-requires-clause-shore
new-requires-clause-shore c =
    subst (IsRisingIn c.args.n) (sym c.shore-item.is)
    (All-get_or (IsRisingIn c.args.n) c.as_slice-shore-items.result.now c.loop-shore.shore-index c.shore-item.result c.loop-shore-test.true (subst (All (IsRisingIn c.args.n)) (sym c.as_slice-shore-items.ensures) c.requires.shores))
