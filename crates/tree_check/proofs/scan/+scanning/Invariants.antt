-- Below a cut there are fewer blocks.
use Rattle.std.proofs.Common.{◌+◌, ◌*◌, length}
use Rattle.tree_check.proofs.scan.+scanning.Given as goal

abbrev pub decreases-scan_at : goal.decreases-scan_at
decreases-scan_at l = 2 * length l.p.blocks + 1

abbrev pub decreases-scan_cut : goal.decreases-scan_cut
decreases-scan_cut l = 2 * length l.p.now.blocks
