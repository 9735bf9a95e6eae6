use Rattle.std.proofs.Common.{length}
use Rattle.command_table.proofs.reasons.+why_unmatched.Given as goal

abbrev pub decreases-why_unmatched : goal.decreases-why_unmatched
decreases-why_unmatched l = length l.rows.now
