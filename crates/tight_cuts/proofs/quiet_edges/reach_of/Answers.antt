use Rattle.std.proofs.Common.{arith}
use Rattle.tight_cuts.proofs.quiet_edges.reach_of.Goals.{then-refused-lt-MOST_REFUSED+then-is_in_cut+then-not-share_end+in_ok-kept, else-refused-lt-MOST_REFUSED}
use Rattle.tight_cuts.proofs.quiet_edges.reach_of.Goals as goal

pub loop-k-preserved : goal.loop-k-preserved
loop-k-preserved c =
    let g = c.args.g.now in
    let e = c.args.e in
    elim c.if-refused-lt-MOST_REFUSED.branch [
      | then-refused-lt-MOST_REFUSED+then-is_in_cut+then-not-share_end+in_ok-kept w ↦ grind arith
      | else-refused-lt-MOST_REFUSED w ↦ grind arith
    ]
