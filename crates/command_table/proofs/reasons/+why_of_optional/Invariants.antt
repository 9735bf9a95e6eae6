use Rattle.std.proofs.Common.{length}
use Rattle.command_table.proofs.reasons.+why_of_optional.Given as goal

abbrev pub decreases-why_of_optional : goal.decreases-why_of_optional
decreases-why_of_optional l = length l.row.now
