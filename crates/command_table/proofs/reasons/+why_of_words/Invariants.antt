use Rattle.std.proofs.Common.{length}
use Rattle.command_table.proofs.reasons.+why_of_words.Given as goal

abbrev pub decreases-why_of_words : goal.decreases-why_of_words
decreases-why_of_words l = length l.row.now
